-- The bearing sheet, in thousandths: three states, and the marks a (0) and b (1).
use Rattle.std.specs.Prelude.{◌≡◌, ℕ, true, List, [], ◌∷◌, length, is_ok, Result}
use Rattle.grades.specs.declared.scale.Scale as scale
use Rattle.files.specs.Format.{table_records, file_length}
use Rattle.sheets.specs.declared.sheet.Sheet.{Sheet}
use Rattle.sheets.specs.Sheets.{IsWhole, Kept, tables_of}
use Rattle.sheets.specs.Tables.{Tables, all_floor, with_step, with_mark}

-- from, to and level
abbrev pub bearing_steps : List (ℕ × ℕ × ℕ)
bearing_steps = (0, 0, 700) ∷ ((0, 1, 900) ∷ ((1, 1, 600) ∷ ((1, 2, 800) ∷ ((2, 2, 600) ∷ []))))

-- state, mark and level
abbrev pub bearing_marks : List (ℕ × ℕ × ℕ)
bearing_marks = (0, 0, 1000) ∷ ((1, 0, 500) ∷ ((2, 0, 0) ∷ ((0, 1, 0) ∷ ((1, 1, 300) ∷ ((2, 1, 1000) ∷ [])))))

abbrev pub with_steps : Tables → List (ℕ × ℕ × ℕ) → Tables
with_steps T [] = T
with_steps T (step ∷ more) = with_steps (with_step T step.0 step.1 step.2) more

abbrev pub with_marks : Tables → List (ℕ × ℕ × ℕ) → Tables
with_marks T [] = T
with_marks T (mark ∷ more) = with_marks (with_mark T mark.0 mark.1 mark.2) more

abbrev pub bearing : Tables
bearing = with_marks (with_steps (all_floor 3 2 1000) bearing_steps) bearing_marks

-- a whole sheet of the bearing's size takes every call, and its tables are changed so
pub record Becomes {S E : Type 0} (s : scale.Ghosts S) (change : Tables → Tables) (before after : Sheet S) (answer : Result (Unit {0}) E) : Type 0 where
  pub kept : Kept before after
  pub accepted : IsWhole before → before.n ≡ 3 → before.m ≡ 2 → is_ok answer ≡ true
  pub tables : is_ok answer ≡ true → tables_of s after ≡ change (tables_of s before)

-- the length of the file of these tables
abbrev pub length_of : {S : Type 0} → scale.Ghosts S → Tables → ℕ
length_of s T = file_length (length (table_records s T))
