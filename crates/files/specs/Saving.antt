-- What saving tables promises.
use Rattle.std.specs.Prelude.{◌≡◌, ◌≤◌, length, None}
use Rattle.grades.specs.declared.scale.Scale as scale
use Rattle.files.specs.Checks.{file_fault}
use Rattle.files.specs.Format.{Records, Graded, table_records, file_of, file_length}
use Rattle.files.specs.Recorded.{file_tables}
use Rattle.sheets.specs.Tables.{Tables, Bounded}

-- tables that a file holds: its records are one for exactly the cells above the floor; it opens, and records the tables
pub record Storable {S : Type 0} (s : scale.Ghosts S) (T : Tables) : Type 0 where
  pub few : length (table_records s T) ≤ 5120
  pub records : Records s T (table_records s T)
  pub bounded : Bounded s.height T
  pub graded : Graded s T
  pub sized : length (file_of s T) ≡ file_length (length (table_records s T))
  pub opens : file_fault s (file_of s T) ≡ None
  pub reopened : file_tables s (file_of s T) ≡ T
