-- The faults of a file, in three layers: a grade's, inside a record's, inside the file's.
use Rattle.std.specs.Prelude.{ℕ, ◌+◌}
use Rattle.files.specs.declared.fault.GradeFault.{GradeFault}
use Rattle.files.specs.declared.fault.GradeFault.TheVariants.{NoGrade, Floor}
use Rattle.files.specs.declared.fault.RecordCause.{RecordCause}
use Rattle.files.specs.declared.fault.RecordCause.TheVariants.{Kind, FirstState, SecondState, Mark, Order, Grade}
use Rattle.files.specs.declared.fault.RecordFault.{RecordFault}
use Rattle.files.specs.declared.fault.FileCause.{FileCause}
use Rattle.files.specs.declared.fault.FileCause.TheVariants.{Letters, Version, Scale, States, Marks, Length, Record}
use Rattle.files.specs.declared.fault.FileFault.{FileFault}
use Rattle.files.specs.Format.{record_position}

-- what a fault answers: its number, and the position of the field at fault
pub record Answer : Type 0 where
  pub number : ℕ
  pub position : ℕ

abbrev answer : (number position : ℕ) → Answer
answer number position = record { number = number; position = position }

-- of a code
abbrev pub grade_number : GradeFault → ℕ
grade_number (NoGrade code) = 1
grade_number (Floor code) = 23

-- of a record, with the position counted from its first byte
abbrev pub record_answer : RecordCause → Answer
record_answer Kind = answer 21 0
record_answer FirstState = answer 2 1
record_answer SecondState = answer 2 2
record_answer Mark = answer 3 2
record_answer Order = answer 22 0
record_answer (Grade fault) = answer (grade_number fault) 3

-- of a file
abbrev pub file_answer : FileCause → Answer
file_answer Letters = answer 17 0
file_answer Version = answer 18 3
file_answer Scale = answer 19 5
file_answer States = answer 4 6
file_answer Marks = answer 4 7
file_answer Length = answer 20 8
file_answer (Record fault) = answer (record_answer fault.cause).number (record_position fault.index + (record_answer fault.cause).position)

-- a grade's fault at a record's index, as that record's
abbrev pub in_record : ℕ × GradeFault → RecordFault
in_record fault = record { index = fault.0; cause = Grade fault.1 }

-- a fault of a file, at its position
abbrev pub in_file : FileCause → FileFault
in_file cause = record { position = (file_answer cause).position; cause = cause }

-- a record's fault, as the file's
abbrev pub of_record : RecordFault → FileFault
of_record fault = in_file (Record fault)
