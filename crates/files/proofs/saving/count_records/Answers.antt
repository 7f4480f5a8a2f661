use Rattle.std.proofs.Common.{ap, ◌∙◌, length, length-append, arith, below_more}
use Rattle.files.specs.Format.{level_at, LeadsBack}
use Rattle.files.specs.Order.{cell_at}
use Rattle.files.proofs.Records.{records_next, records_all}
use Rattle.files.proofs.saving.count_records.Goals as goal
use Rattle.files.proofs.saving.count_records.Goals.{then-is_some, else-is_some}

pub loop-index-preserved : goal.loop-index-preserved
loop-index-preserved g c =
    let s = g.K.Grade.Scale in
    let T = g.K.Structure.tables c.args.structure.now in
    let n = c.args.size.states in
    let m = c.args.size.marks in
    let i = c.loop-index.index in
    let so_far = c.loop-index.invariant in
    let next = records_next s T n m i c.record_at.result (rw so_far.same at c.record_at.ensures.value) in
    record {
      same = c.record_at.ensures.same ∙ so_far.same;
      value = elim c.if-is_some.branch [ then-is_some w ↦ grind (arith, ap length next, length-append) | else-is_some w ↦ grind (arith, ap length next, length-append) ];
      most = elim c.if-is_some.branch [ then-is_some w ↦ omega arith | else-is_some w ↦ omega arith ];
      graded = below_more (λ j. LeadsBack s (level_at T (cell_at n m j))) i so_far.graded (rw so_far.same at c.record_at.ensures.graded);
    }

pub returns-clause-value : goal.returns-clause-value
returns-clause-value g c =
    let T = g.K.Structure.tables c.args.structure.now in
    omega (arith, c.loop-index.invariant.value, ap length (records_all g.K.Grade.Scale T c.args.size.states c.args.size.marks c.loop-index.index (omega arith)))
