use Rattle.std.proofs.Common.{◌∙◌, arith}
use Rattle.files.proofs.Opening.{storable}
use Rattle.files.proofs.saving.plan_of.Goals as goal

pub returns : goal.returns
returns g c =
    let s = g.K.Grade.Scale in
    let laws = g.met.K.Grade.Scale in
    let before = c.args.structure.now in
    let is = c.of-size.ensures in
    let counted = c.count_records-count.ensures in
    let count = rw (is.same, is.states, is.marks) at counted.value in
    let whole = storable s laws.within laws.encodes (g.K.Structure.tables before) is.bounded (rw (is.same, is.states, is.marks) at counted.graded) in
    record {
      planned = record { states = is.states; marks = is.marks; count = count; few = omega (arith, whole.few) };
      storable = whole;
      same = counted.same ∙ is.same;
    }
