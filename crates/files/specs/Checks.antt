-- The checks of a file for a scale, in their order: of each list of tests the first that fails gives the fault.
use Rattle.std.specs.Prelude.{ℕ, Bool, true, cond, ◌||◌, List, [], ◌∷◌, length, is_some, Some, None, Option, Ok, Err, Result, ◌==◌, nat_le, nat_lt, slice_index}
use Rattle.std.specs.Option.{unwrap_or, option_map, option_or}
use Rattle.std.specs.Ordering.{is_lt}
use Rattle.grades.specs.Refusals.{needing}
use Rattle.grades.specs.declared.scale.Scale as scale
use Rattle.files.specs.declared.cell.Kind as kinds
use Rattle.files.specs.declared.cell.Kind.TheVariants as kind
use Rattle.files.specs.declared.entry.Entry.{Entry}
use Rattle.files.specs.declared.fault.GradeFault.{GradeFault}
use Rattle.files.specs.declared.fault.GradeFault.TheVariants.{NoGrade, Floor}
use Rattle.files.specs.declared.fault.RecordCause.{RecordCause}
use Rattle.files.specs.declared.fault.RecordCause.TheVariants.{Kind, FirstState, SecondState, Mark, Order}
use Rattle.files.specs.declared.fault.RecordFault.{RecordFault}
use Rattle.files.specs.declared.fault.FileCause.{FileCause}
use Rattle.files.specs.declared.fault.FileCause.TheVariants.{Letters, Version, Scale, States, Marks, Length}
use Rattle.files.specs.declared.fault.FileFault.{FileFault}
use Rattle.files.specs.Entries.{two_bytes, states, marks, count, entries, key}
use Rattle.files.specs.Faults.{in_record, in_file, of_record}
use Rattle.files.specs.Format.{key_order, file_length}

-- the header: WSH, version 1, the scale asked for, 1 to 64 states, at most 16 marks, and as long as its records take, of which there are at most 5,120
abbrev pub header_fault : {S : Type 0} → scale.Ghosts S → List ℕ → Option FileCause
header_fault s bytes =
    needing (nat_le 10 (length bytes)) Letters
    (needing (slice_index bytes 0 == 87) Letters
    (needing (slice_index bytes 1 == 83) Letters
    (needing (slice_index bytes 2 == 72) Letters
    (needing (two_bytes bytes 3 == 1) Version
    (needing (slice_index bytes 5 == s.number) Scale
    (needing (nat_le 1 (states bytes)) States
    (needing (nat_le (states bytes) 64) States
    (needing (nat_le (marks bytes) 16) Marks
    (needing (nat_le (count bytes) 5120) Length
    (needing (length bytes == file_length (count bytes)) Length
    None))))))))))

-- the kind of a byte, 1 or 2
abbrev pub kind_of_byte : ℕ → Result kinds.Kind RecordCause
kind_of_byte byte = cond (byte == 1) (Ok kind.Step) (cond (byte == 2) (Ok kind.Mark) (Err Kind))

-- a code: a grade has it, and that is not the floor
abbrev pub grade_fault : {S : Type 0} → scale.Ghosts S → (code : ℕ) → Option GradeFault
grade_fault s code =
    needing (is_some (s.decode code)) (NoGrade code)
    (needing (nat_lt 0 (unwrap_or (s.decode code) 0)) (Floor code)
    None)

-- the second number is of a state in a step (kind 1), and of a mark else
abbrev pub second_limit : (n m kind : ℕ) → ℕ
second_limit n m kind = cond (kind == 1) n m

-- what it is where it is not below that
abbrev pub second_cause : (kind : ℕ) → RecordCause
second_cause kind = cond (kind == 1) SecondState Mark

-- the first record follows nothing
abbrev pub follows : (before : Option Entry) → Entry → Bool
follows None e = true
follows (Some before) e = is_lt (key_order (key before) (key e))

-- a fault of this record
abbrev pub fault_at : Entry → RecordCause → RecordFault
fault_at e cause = record { index = e.index; cause = cause }

-- a record: its kind, its numbers, its order after the one before, its grade
abbrev pub record_fault : {S : Type 0} → scale.Ghosts S → (n m : ℕ) → (before : Option Entry) → Entry → Option RecordFault
record_fault s n m before e =
    needing (e.kind == 1 || e.kind == 2) (fault_at e Kind)
    (needing (nat_lt e.first n) (fault_at e FirstState)
    (needing (nat_lt e.second (second_limit n m e.kind)) (fault_at e (second_cause e.kind))
    (needing (follows before e) (fault_at e Order)
    (option_map (λ fault. in_record (e.index, fault)) (grade_fault s e.code)))))

-- the first fault of records in turn
abbrev pub records_fault : {S : Type 0} → scale.Ghosts S → (n m : ℕ) → (before : Option Entry) → List Entry → Option RecordFault
records_fault s n m before [] = None
records_fault s n m before (e ∷ es) = option_or (record_fault s n m before e) (records_fault s n m (Some e) es)

-- the first fault of a file: the header's, or else that of its records
abbrev pub file_fault : {S : Type 0} → scale.Ghosts S → List ℕ → Option FileFault
file_fault s bytes =
    option_or (option_map in_file (header_fault s bytes)) (option_map of_record (records_fault s (states bytes) (marks bytes) None (entries bytes)))
