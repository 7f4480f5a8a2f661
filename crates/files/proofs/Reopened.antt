-- The file of tables has no fault, and records the tables.
use Rattle.std.proofs.Common.{◌≡◌, ℕ, ◌+◌, ◌*◌, ◌/◌, ◌%◌, ◌<◌, ◌≤◌, true, ◌⊎◌, List, [], ◌∷◌, map, length, Some, None, Option, sym, refl, ap, ◌∙◌, subst, ap₂, inl, inr, mul-le-mul, arith}
use lib.ListN.{length-map}
use Rattle.std.specs.List.{Contains, All}
use Rattle.std.specs.Ordering.{is_lt}
use Rattle.std.specs.Simd.{first_chunks}
use Rattle.std.proofs.lemmas.Bool.{cases_lt}
use Rattle.std.proofs.lemmas.List.Elements.{All-contains, All-head, All-tail}
use Rattle.std.proofs.lemmas.List.FromFn.{length-map-range_with_len}
use Rattle.std.proofs.lemmas.List.Sums.{length-filter, count_by-le-length}
use Rattle.grades.specs.declared.scale.Scale as scale
use Rattle.files.specs.declared.cell.Kind.TheVariants.{Step, Mark}
use Rattle.files.specs.declared.cell.Cell.{Cell}
use Rattle.files.specs.declared.cell.Record.{Record}
use Rattle.files.specs.declared.entry.Entry.{Entry}
use Rattle.files.specs.Checks.{follows, file_fault}
use Rattle.files.specs.Entries.{states, marks, count, entries_from, entries}
use Rattle.files.specs.Format.{cell, cells, kind_byte, level_at, above_floor, record_of, bytes_of, table_records, file_of, Ascend, Records, Graded}
use Rattle.files.specs.Recorded.{file_tables}
use Rattle.files.proofs.Canonical.{typed, kind_back, file_records, records_recorded}
use Rattle.files.proofs.Cells.{cells_by_index}
use Rattle.files.proofs.Laws.{in_numbers, records_are}
use Rattle.files.proofs.Records.{length-file_of}
use Rattle.files.proofs.Sound.{Proper, Sound, Headed, without_fault}
use Rattle.files.proofs.Tabled.{Codes, file_graded}
use Rattle.sheets.specs.Tables.{Tables, Bounded}

-- ---- records as they are read back

abbrev entry_back : (index : ℕ) → Record → Entry
entry_back index r = record { index = index; kind = kind_byte r.cell.kind; first = r.cell.first; second = r.cell.second; code = r.code }

abbrev entries_back : (index : ℕ) → List Record → List Entry
entries_back index [] = []
entries_back index (r ∷ rs) = entry_back index r ∷ entries_back (index + 1) rs

typed_back : (i : ℕ) (rs : List Record) → map typed (entries_back i rs) ≡ rs
typed_back i [] = refl
typed_back i (r ∷ rs) =
    ap₂ (λ x xs. x ∷ xs) (λ j. record { cell = record { kind = kind_back r.cell.kind j; first = r.cell.first; second = r.cell.second }; code = r.code }) (typed_back (i + 1) rs)

reads : (i : ℕ) (rs : List Record) → entries_from i (first_chunks 5 (length rs) (bytes_of rs)) ≡ entries_back i rs
reads i [] = refl
reads i (r ∷ rs) =
    let code : r.code % 256 + r.code / 256 * 256 ≡ r.code = omega arith in
    ap₂ (λ x xs. x ∷ xs) (ap (λ (c : ℕ). record (entry_back i r) { code = c }) code) (reads (i + 1) rs)

-- ---- they pass their checks

pub records_few : {S : Type 0} (s : scale.Ghosts S) (height : ℕ) (T : Tables) (bounded : Bounded height T) → length (table_records s T) ≤ 5120
records_few s height T bounded =
    let n = T.states in
    let m = T.marks in
    let wide : T.states + T.marks ≤ 80 = omega (arith, bounded.limits.most, bounded.limits.few) in
    let most : T.states * (T.states + T.marks) ≤ 64 * 80 = mul-le-mul bounded.limits.most wide in
    let every : length (cells T.states T.marks) ≡ T.states * (T.states + T.marks) = ap length (cells_by_index T.states T.marks) ∙ length-map-range_with_len _ 0 (T.states * (T.states + T.marks)) in
    simp length-map (omega (arith, length-filter (above_floor T) (cells T.states T.marks), count_by-le-length (above_floor T) (cells T.states T.marks)))

module _ {S : Type 0} (s : scale.Ghosts S) (T : Tables) (bounded : Bounded s.height T) (graded : Graded s T) where
  abbrev Written : Record → Type 0
  Written r = (0 < level_at T r.cell) × (r.code ≡ s.code (level_at T r.cell))

  proper_back : (i : ℕ) (r : Record) → Written r → Proper s T.states T.marks (entry_back i r)
  proper_back i r w =
      let inner = in_numbers s.height T bounded r.cell.kind r.cell.first r.cell.second w.0 in
      record {
        kind = r.cell.kind;
        kind_is = refl;
        first = inner.0;
        second = inner.1;
        level = level_at T r.cell;
        level_is = ap s.decode w.1 ∙ graded r.cell w.0;
        above = w.0;
      }

  sound_back : (before : Option Entry) (i : ℕ) (rs : List Record) → Ascend rs → All Written rs → All (λ r. (j : ℕ) → follows before (entry_back j r) ≡ true) rs → Sound s T.states T.marks before (entries_back i rs)
  sound_back before i [] up all after = tt
  sound_back before i (r ∷ rs) up all after = (
    proper_back i r (All-head Written r rs all),
    All-head (λ r. (j : ℕ) → follows before (entry_back j r) ≡ true) r rs after i,
    sound_back (Some (entry_back i r)) (i + 1) rs up.1 (All-tail Written r rs all) (λ k d h j. ap is_lt (up.0 k d h)),
  )

  -- ---- the file

  count_is : count (file_of s T) ≡ length (table_records s T)
  unfolding file_of
  count_is = let k : ℕ = length (table_records s T) in omega arith

  is_headed : Headed s (file_of s T)
  unfolding file_of
  is_headed =
      let long = length-file_of s T in
      let many = count_is in
      record {
        long = omega (arith, long);
        letter_w = refl;
        letter_s = refl;
        letter_h = refl;
        version = refl;
        scale = refl;
        limits = bounded.limits;
        few = omega (arith, count_is, records_few s s.height T bounded);
        whole = omega (arith, long, count_is);
      }

  entries_are : entries (file_of s T) ≡ entries_back 0 (table_records s T)
  unfolding file_of
  entries_are = ap (λ (k : ℕ). entries_from 0 (first_chunks 5 k (bytes_of (table_records s T)))) count_is ∙ reads 0 (table_records s T)

  is_sound : Sound s (states (file_of s T)) (marks (file_of s T)) None (entries (file_of s T))
  unfolding file_of
  is_sound =
      let laws = records_are s.height T bounded s in
      subst (λ es. Sound s T.states T.marks None es) (sym entries_are) (sound_back None 0 (table_records s T) laws.ascend laws.above (λ k d h j. refl))

  pub file_passes : file_fault s (file_of s T) ≡ None
  file_passes = without_fault s (file_of s T) is_headed is_sound

  -- the same records are of the same levels
  module _ (codes : Codes s) where
    abbrev R : Tables
    R = file_tables s (file_of s T)

    same_file_records : table_records s R ≡ table_records s T
    same_file_records = sym (records_recorded s codes (file_of s T) file_passes) ∙ ap (map typed) entries_are ∙ typed_back 0 (table_records s T)

    levels_recorded : (c : Cell) → level_at R c ≡ level_at T c
    levels_recorded c = same (cases_lt 0 (level_at R c)) (cases_lt 0 (level_at T c))
      where
        one_code : (A B : Tables) → Records s A (table_records s A) → Records s B (table_records s B) → table_records s A ≡ table_records s B → 0 < level_at A c → (0 < level_at B c) × (s.code (level_at A c) ≡ s.code (level_at B c))
        one_code A B a b e above =
            All-contains (λ (r : Record). (0 < level_at B r.cell) × (r.code ≡ s.code (level_at B r.cell))) (table_records s B) (record_of s A c) b.above
            (subst (λ rs. Contains rs (record_of s A c)) e (a.every c above))

        laws_R : Records s R (table_records s R)
        laws_R = file_records s codes (file_of s T) file_passes

        laws_T : Records s T (table_records s T)
        laws_T = records_are s.height T bounded s

        same : (0 < level_at R c) ⊎ (level_at R c ≤ 0) → (0 < level_at T c) ⊎ (level_at T c ≤ 0) → level_at R c ≡ level_at T c
        same (inl r) t =
            let both = one_code R T laws_R laws_T same_file_records r in
            let p = file_graded s codes (file_of s T) c r in
            let q = graded c both.0 in
            let e : ◌≡◌ {A = Option ℕ} (Some (level_at R c)) (Some (level_at T c)) = sym p ∙ ap s.decode both.1 ∙ q in
            cc
        same (inr r) (inl t) = let both = one_code T R laws_T laws_R (sym same_file_records) t in absurd (omega (arith, both.0))
        same (inr r) (inr t) = omega arith

    pub tables_recorded : R ≡ T
    unfolding file_of
    tables_recorded = λ i. record {
      states = T.states;
      marks = T.marks;
      height = sym bounded.tall i;
      step = λ from to. levels_recorded (cell Step from to) i;
      mark = λ state which. levels_recorded (cell Mark state which) i;
    }
