-- What checking and opening promise.
use Rattle.std.specs.Prelude.{◌≡◌, ℕ, List, None, Option}
use Rattle.grades.specs.declared.scale.Scale as scale
use Rattle.files.specs.declared.fault.FileFault.{FileFault}
use Rattle.files.specs.Checks.{file_fault}
use Rattle.files.specs.Format.{Records, Graded, table_records, file_of}
use Rattle.files.specs.Recorded.{file_tables}
use Rattle.sheets.specs.Tables.{Tables, Bounded}

-- tables that were opened from these bytes: they are what is recorded, and the bytes are their file
pub record Opened {S : Type 0} (s : scale.Ghosts S) (bytes : List ℕ) (T : Tables) : Type 0 where
  pub recorded : T ≡ file_tables s bytes
  pub bounded : Bounded s.height T
  pub graded : Graded s T
  pub records : Records s T (table_records s T)
  pub file : bytes ≡ file_of s T

-- what checking bytes for a scale promises of the fault that it answers, or of answering none
pub record Verdict {S : Type 0} (s : scale.Ghosts S) (bytes : List ℕ) (fault : Option FileFault) : Type 0 where
  pub first : fault ≡ file_fault s bytes
  pub passed : fault ≡ None → Opened s bytes (file_tables s bytes)
  -- the file of any tables passes, and records them
  pub saved : (T : Tables) → Bounded s.height T → Graded s T → bytes ≡ file_of s T → (fault ≡ None) × (file_tables s bytes ≡ T)
