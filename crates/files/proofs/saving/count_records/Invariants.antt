use Rattle.std.proofs.Common.{◌≡◌, ◌≤◌, length}
use Rattle.files.specs.Format.{records_of}
use Rattle.files.specs.Order.{first_cells}
use Rattle.files.specs.Progress.{GradedTo}
use Rattle.files.proofs.saving.count_records.Given as goal

abbrev pub invariant-loop-index : goal.invariant-loop-index
invariant-loop-index g l =
    let s = g.K.Grade.Scale in
    let T = g.K.Structure.tables l.initial.structure in
    record {
      same : l.structure ≡ l.initial.structure;
      value : l.count ≡ length (records_of s T (first_cells l.size.states l.size.marks l.index));
      most : l.count ≤ l.index;
      graded : GradedTo s T l.size.states l.size.marks l.index;
    }
