-- What a sheet means, and what a map makes of tables, lies within the bounds: lemmas for what a structure's questions promise.
use Rattle.std.specs.Prelude.{◌≡◌, ℕ, zero, suc, ◌+◌, ◌*◌, ◌<◌, ◌≤◌, true, false, cond, ◌⊎◌, List, [], ◌∷◌, map, nat_lt, slice_index, refl}
use Rattle.std.proofs.Common.{ap, ◌∙◌, inl, inr, arith, le-ltb, lt-ltb}
use Rattle.grades.specs.declared.scale.Scale as scale
use Rattle.sheets.specs.declared.sheet.Sheet.{Sheet}
use Rattle.sheets.specs.Sheets.{states_of, marks_of, inside, tables_of}
use Rattle.sheets.specs.Tables.{Tables, Bounded, through}

pub inside_in : (s n c w p : ℕ) → s < n → c < w → inside s n c w p ≡ p
inside_in s n c w p hs hc = rw (lt-ltb s n hs, lt-ltb c w hc)

pub inside_out : (s n c w p : ℕ) → (n ≤ s) ⊎ (w ≤ c) → inside s n c w p ≡ 0
inside_out s n c w p (inl h) = rw (le-ltb s n h)
inside_out s n c w p (inr h) = elim (nat_lt s n) as (λ v. cond v (cond (nat_lt c w) p 0) 0 ≡ 0) [ true ↦ rw (le-ltb c w h) | false ↦ refl ]

pub inside_within : (s n c w p h : ℕ) → p ≤ h → inside s n c w p ≤ h
inside_within s n c w p h l = elim (nat_lt s n) as (λ v. cond v (cond (nat_lt c w) p 0) 0 ≤ h) [
  | true ↦ elim (nat_lt c w) as (λ v. cond v p 0 ≤ h) [ true ↦ l | false ↦ omega arith ]
  | false ↦ omega arith
]

-- rows of one width, each with its columns at some places; outside stands the floor
abbrev pub grid : List ℕ → (rows columns width : ℕ) → (column : ℕ → ℕ) → (s c : ℕ) → ℕ
grid xs rows columns width column s c = inside s rows c columns (slice_index xs (s * width + column c))

pub grid_within : (h : ℕ) (xs : List ℕ) → ((i : ℕ) → slice_index xs i ≤ h) → (rows columns width : ℕ) (column : ℕ → ℕ) (s c : ℕ) → grid xs rows columns width column s c ≤ h
grid_within h xs w rows columns width column s c = inside_within s rows c columns _ h (w (s * width + column c))

grid_outside : (xs : List ℕ) (rows columns width : ℕ) (column : ℕ → ℕ) (s c : ℕ) → (rows ≤ s) ⊎ (columns ≤ c) → grid xs rows columns width column s c ≡ 0
grid_outside xs rows columns width column s c = inside_out s rows c columns _

levels_within : {S : Type 0} (level : S → ℕ) (h : ℕ) → ((x : S) → level x ≤ h) → (xs : List S) (i : ℕ) → slice_index (map level xs) i ≤ h
levels_within level h w [] i = omega arith
levels_within level h w (x ∷ xs) zero = w x
levels_within level h w (x ∷ xs) (suc i) = levels_within level h w xs i

pub sheet_bounded : {S : Type 0} (s : scale.Ghosts S) → ((x : S) → s.level x ≤ s.height) → (sheet : Sheet S) → Bounded s.height (tables_of s sheet)
sheet_bounded s within sheet =
    let n = states_of sheet.n in
    let m = marks_of sheet.m in
    let xs = map s.level sheet.grades.now in
    let low = levels_within s.level s.height within sheet.grades.now in
    record {
      tall = refl;
      limits = record { least = omega arith; most = omega arith; few = omega arith };
      steps_within = grid_within s.height xs low n n (n + m) (λ t. t);
      marks_within = grid_within s.height xs low n m (n + m) (λ k. n + k);
      steps_outside = grid_outside xs n n (n + m) (λ t. t);
      marks_outside = grid_outside xs n m (n + m) (λ k. n + k);
    }

pub through_bounded : (f : ℕ → ℕ) (h₁ h₂ : ℕ) → ((p q : ℕ) → p ≤ q → q ≤ h₁ → f p ≤ f q) → f 0 ≡ 0 → f h₁ ≡ h₂ → (T : Tables) → Bounded h₁ T → Bounded h₂ (through f h₂ T)
through_bounded f h₁ h₂ ordered floor top T bounded = record {
  tall = refl;
  limits = bounded.limits;
  steps_within = λ s t. let l : f (T.step s t) ≤ f h₁ = ordered (T.step s t) h₁ (bounded.steps_within s t) (omega arith) in omega arith;
  marks_within = λ s k. let l : f (T.mark s k) ≤ f h₁ = ordered (T.mark s k) h₁ (bounded.marks_within s k) (omega arith) in omega arith;
  steps_outside = λ s t out. ap f (bounded.steps_outside s t out) ∙ floor;
  marks_outside = λ s k out. ap f (bounded.marks_outside s k out) ∙ floor;
}
