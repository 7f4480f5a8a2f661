-- A file that was saved opens, with the tables that were saved.
use Rattle.std.proofs.Common.{◌≡◌, ℕ, List, take, Some, Option, sym, ap, ◌∙◌, arith}
use Rattle.std.proofs.lemmas.List.{take_at}
use Rattle.grades.specs.declared.scale.Scale as scale
use Rattle.files.specs.declared.fault.FileFault.{FileFault}
use Rattle.files.specs.Format.{Saved, file_of}
use Rattle.files.specs.Saving.{Storable}
use Rattle.files.specs.Opening.{Opened, Verdict}
use Rattle.sheets.specs.Tables.{Tables}

module _ {S : Type 0} (s : scale.Ghosts S) (T : Tables) (before after bytes : List ℕ) (long : ℕ)
    (saved : Saved s T before after long) (storable : Storable s T) (part : bytes ≡ take long after) where
  is_file : bytes ≡ file_of s T
  is_file = part ∙ ap (take long) saved.bytes ∙ take_at (file_of s T) _ long (sym saved.whole)

  pub same_tables : (opened : Tables) (fault : Option FileFault) → Verdict s bytes fault → Opened s bytes opened → opened ≡ T
  same_tables opened fault verdict promised = promised.recorded ∙ (verdict.saved T storable.bounded storable.graded is_file).1

  pub no_fault : (fault : FileFault) → Verdict s bytes (Some fault) → ⊥
  no_fault fault verdict =
      let none = (verdict.saved T storable.bounded storable.graded is_file).0 in
      let z : ◌≡◌ {A = ℕ} 0 1 = cc in omega arith
