-- What checking promises of a file, from the laws of its scale.
use Rattle.std.proofs.Common.{◌≡◌, ℕ, ◌+◌, ◌*◌, ◌<◌, ◌≤◌, List, length, get_or, Some, None, Option, Ok, Err, Result, OnOk, sym, refl, ap, ◌∙◌, subst, arith}
use Rattle.std.proofs.lemmas.List.FromFn.{get_or-map-range_with_len, length-map-range_with_len}
use Rattle.std.specs.Result.{result_err}
use Rattle.grades.specs.declared.scale.Scale as scale
use Rattle.files.specs.declared.fault.FileFault.{FileFault}
use Rattle.files.specs.Checks.{file_fault}
use Rattle.files.specs.Entries.{states, marks}
use Rattle.files.specs.Format.{level_at, LeadsBack, Graded}
use Rattle.files.specs.Order.{cell_at}
use Rattle.files.specs.Progress.{GradedTo}
use Rattle.files.specs.Saving.{Storable}
use Rattle.files.specs.Recorded.{looked_up, file_tables}
use Rattle.files.specs.Search.{whole_records, found, view_tables}
use Rattle.files.specs.Opening.{Opened, Verdict}
use Rattle.files.proofs.Canonical.{file_records, is_file}
use Rattle.files.proofs.Cells.{cells_by_index}
use Rattle.files.proofs.Laws.{records_are, has_cell}
use Rattle.files.proofs.Lookups.{finds_recorded}
use Rattle.files.proofs.Records.{length-file_of}
use Rattle.files.proofs.Reopened.{records_few, file_passes, tables_recorded}
use Rattle.files.proofs.Sound.{faultless}
use Rattle.files.proofs.Tabled.{Codes, looked_bounded, file_bounded, file_graded}
use Rattle.sheets.specs.Sheets.{states_of, marks_of}
use Rattle.sheets.specs.Tables.{Tables, Bounded}

module _ {S : Type 0} (s : scale.Ghosts S) (tall : (x : S) → s.level x ≤ s.height) (encodes : (c p : ℕ) → s.decode c ≡ Some p → (x : S) × ((s.level x ≡ p) × (s.code p ≡ c))) where
  codes : Codes s
  codes = record {
    within = λ c p e. let x = encodes c p e in omega (arith, tall x.0, x.1.0);
    coded = λ c p e. (encodes c p e).1.1;
  }

  opened : (bytes : List ℕ) → ((k : ℕ) → get_or bytes k 0 < 256) → file_fault s bytes ≡ None → Opened s bytes (file_tables s bytes)
  opened bytes fits passed = record {
    recorded = refl;
    bounded = file_bounded s codes bytes passed;
    graded = file_graded s codes bytes;
    records = file_records s codes bytes passed;
    file = is_file s codes bytes passed fits;
  }

  pub verdict : (bytes : List ℕ) → ((k : ℕ) → get_or bytes k 0 < 256) → (fault : Option FileFault) → fault ≡ file_fault s bytes → Verdict s bytes fault
  verdict bytes fits fault first = record {
    first = first;
    passed = λ none. opened bytes fits (sym first ∙ none);
    saved = λ T bounded graded file. (first ∙ ap (file_fault s) file ∙ file_passes s T bounded graded, ap (file_tables s) file ∙ tables_recorded s T bounded graded codes);
  }

  -- ---- saving

  -- tables, of which every cell by its index is at the level of a grade
  graded_by_index : (T : Tables) → Bounded s.height T → GradedTo s T T.states T.marks (T.states * (T.states + T.marks)) → Graded s T
  graded_by_index T bounded graded c above =
      let many : ℕ = T.states * (T.states + T.marks) in
      let has = has_cell s.height T bounded c.kind c.first c.second above in
      let same = cells_by_index T.states T.marks in
      let inside : has.0 < T.states * (T.states + T.marks) = omega (arith, has.1, ap length same, length-map-range_with_len (cell_at T.states T.marks) 0 (T.states * (T.states + T.marks))) in
      let is : cell_at T.states T.marks has.0 ≡ c =
      sym (get_or-map-range_with_len (cell_at T.states T.marks) 0 (T.states * (T.states + T.marks)) has.0 has.0 c inside (omega arith)) ∙ sym (ap (λ cs. get_or cs has.0 c) same) ∙ has.2 in
      subst (λ x. LeadsBack s (level_at T x)) is (graded has.0 inside)

  pub storable : (T : Tables) → Bounded s.height T → GradedTo s T T.states T.marks (T.states * (T.states + T.marks)) → Storable s T
  storable T bounded by_index =
      let graded = graded_by_index T bounded by_index in
      record {
        few = records_few s s.height T bounded;
        records = records_are s.height T bounded s;
        bounded = bounded;
        graded = graded;
        sized = length-file_of s T;
        opens = file_passes s T bounded graded;
        reopened = tables_recorded s T bounded graded codes;
      }

  -- ---- views

  pub view_bounded : (bytes : List ℕ) → Bounded s.height (view_tables s bytes)
  view_bounded bytes =
      looked_bounded s (states_of (states bytes)) (marks_of (marks bytes)) (found (whole_records bytes)) codes.within (record { least = omega arith; most = omega arith; few = omega arith })

module _ {S : Type 0} (s : scale.Ghosts S) (bytes : List ℕ) where
  -- a view of a file without a fault reads what is recorded
  view_reads : file_fault s bytes ≡ None → view_tables s bytes ≡ file_tables s bytes
  view_reads none =
      let limits = (faultless s bytes none).0.limits in
      let n : states_of (states bytes) ≡ states bytes = omega (arith, limits.least, limits.most) in
      let m : marks_of (marks bytes) ≡ marks bytes = omega (arith, limits.few) in
      λ i. looked_up s (n i) (m i) (λ wanted. finds_recorded s bytes none wanted i)

  pub passed_view : (r : Result (Unit {0}) FileFault) → Verdict s bytes (result_err r) → OnOk r (Opened s bytes (view_tables s bytes))
  passed_view (Ok x) verdict = subst (Opened s bytes) (sym (view_reads (sym verdict.first))) (verdict.passed refl)
  passed_view (Err fault) verdict = tt
