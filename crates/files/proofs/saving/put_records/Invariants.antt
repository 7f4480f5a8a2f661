use Rattle.std.proofs.Common.{◌≡◌, length}
use Rattle.std.proofs.lemmas.List.Edits.{sets}
use Rattle.files.specs.Format.{records_of, bytes_of, file_length}
use Rattle.files.specs.Order.{first_cells}
use Rattle.files.proofs.saving.put_records.Given as goal

-- the records so far are written after the header
abbrev pub invariant-loop-index : goal.invariant-loop-index
invariant-loop-index g l =
    let records = records_of g.K.Grade.Scale (g.K.Structure.tables l.initial.structure) (first_cells l.size.states l.size.marks l.index) in
    record {
      same : l.structure ≡ l.initial.structure;
      next : l.at ≡ file_length (length records);
      written : l.out ≡ sets l.initial.out 10 (bytes_of records);
    }
