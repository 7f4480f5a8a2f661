-- Tables that are looked up: within the limits, and by the levels of grades.
use Rattle.std.proofs.Common.{◌≡◌, ℕ, ◌<◌, ◌≤◌, Bool, true, false, cond, ltb, List, Some, None, Option, unwrap_or, sym, refl, ap, ◌∙◌, arith, ltb-true}
use Rattle.grades.specs.declared.scale.Scale as scale
use Rattle.files.specs.declared.cell.Kind.{Kind}
use Rattle.files.specs.declared.cell.Kind.TheVariants.{Step, Mark}
use Rattle.files.specs.declared.cell.Cell.{Cell}
use Rattle.files.specs.Checks.{file_fault}
use Rattle.files.specs.Entries.{states, marks, entries}
use Rattle.files.specs.Format.{Key, cell_key, kind_byte, level_by, level_at, Graded}
use Rattle.files.specs.Recorded.{code_of, level_found, looked_up, file_tables}
use Rattle.files.proofs.Sound.{limit, faultless}
use Rattle.sheets.specs.Bounds.{inside_in, inside_out, inside_within}
use Rattle.sheets.specs.Sheets.{inside}
use Rattle.sheets.specs.Tables.{Limits, Bounded}

-- ---- inside the numbers

inside_above : (s n c w p : ℕ) → 0 < inside s n c w p → (s < n) × (c < w)
inside_above s n c w p = by (ltb s n) (ltb c w) refl refl
  where
    by : (a b : Bool) → ltb s n ≡ a → ltb c w ≡ b → 0 < cond a (cond b p 0) 0 → (s < n) × (c < w)
    by true true ea eb h = (ltb-true s n ea, ltb-true c w eb)
    by true false ea eb h = absurd (omega arith)
    by false b ea eb h = absurd (omega arith)

-- ---- levels that are found

-- a code leads to a level within the height, and is the code of that level
pub record Codes {S : Type 0} (s : scale.Ghosts S) : Type 0 where
  pub within : (c p : ℕ) → s.decode c ≡ Some p → p ≤ s.height
  pub coded : (c p : ℕ) → s.decode c ≡ Some p → s.code p ≡ c

module _ {S : Type 0} (s : scale.Ghosts S) where
  -- a level above the floor that is found has a code that leads to it
  pub found_above : (o : Option ℕ) → 0 < level_found s o → (code : ℕ) × (o ≡ Some code) × (s.decode code ≡ Some (level_found s o))
  found_above None h = absurd (omega arith)
  found_above (Some code) h = by (s.decode code) refl h
    where
      by : (d : Option ℕ) → s.decode code ≡ d → 0 < unwrap_or d 0 → (x : ℕ) × (◌≡◌ {A = Option ℕ} (Some code) (Some x)) × (s.decode x ≡ Some (unwrap_or (s.decode code) 0))
      by None e h = absurd (omega arith)
      by (Some p) e h = (code, refl, rw e)

  found_within : ((c p : ℕ) → s.decode c ≡ Some p → p ≤ s.height) → (o : Option ℕ) → level_found s o ≤ s.height
  found_within within None = omega arith
  found_within within (Some code) = by (s.decode code) refl
    where
      by : (d : Option ℕ) → s.decode code ≡ d → unwrap_or d 0 ≤ s.height
      by None e = omega arith
      by (Some p) e = within code p e

  module _ (n m : ℕ) (look : Key → Option ℕ) where
    -- a level that is looked up, whether of a step or of a mark
    pub level_looked : (kind : Kind) (first second : ℕ) → level_by (looked_up s n m look) kind first second ≡ inside first n second (limit n m kind) (level_found s (look (kind_byte kind, first, second)))
    level_looked Step first second = refl
    level_looked Mark first second = refl

    -- above the floor it is inside the numbers, and found
    pub looked_above : (c : Cell) → 0 < level_at (looked_up s n m look) c → (c.first < n) × (c.second < limit n m c.kind) × (level_at (looked_up s n m look) c ≡ level_found s (look (cell_key c)))
    looked_above c h =
        let is = level_looked c.kind c.first c.second in
        let inner = inside_above c.first n c.second (limit n m c.kind) (level_found s (look (cell_key c))) (omega arith) in
        (inner.0, inner.1, is ∙ inside_in c.first n c.second (limit n m c.kind) _ inner.0 inner.1)

    pub looked_graded : ((c p : ℕ) → s.decode c ≡ Some p → s.code p ≡ c) → Graded s (looked_up s n m look)
    looked_graded coded c h =
        let above = looked_above c h in
        let code = found_above (look (cell_key c)) (omega (arith, above.2)) in
        ap (λ (p : ℕ). s.decode (s.code p)) above.2 ∙ ap s.decode (coded code.0 _ code.2) ∙ code.2 ∙ ap Some (sym above.2)

    pub looked_bounded : ((c p : ℕ) → s.decode c ≡ Some p → p ≤ s.height) → Limits n m → Bounded s.height (looked_up s n m look)
    looked_bounded within limits = record {
      tall = refl;
      limits = limits;
      steps_within = λ from to. inside_within from n to n _ s.height (found_within within (look (1, from, to)));
      marks_within = λ state which. inside_within state n which m _ s.height (found_within within (look (2, state, which)));
      steps_outside = λ from to out. inside_out from n to n _ out;
      marks_outside = λ state which out. inside_out state n which m _ out;
    }

  -- ---- what a file records

  module _ (codes : Codes s) (bytes : List ℕ) where
    pub file_graded : Graded s (file_tables s bytes)
    file_graded = looked_graded (states bytes) (marks bytes) (code_of (entries bytes)) codes.coded

    pub file_bounded : file_fault s bytes ≡ None → Bounded s.height (file_tables s bytes)
    file_bounded passed = looked_bounded (states bytes) (marks bytes) (code_of (entries bytes)) codes.within (faultless s bytes passed).0.limits
