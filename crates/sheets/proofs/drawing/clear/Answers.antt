use Rattle.std.proofs.Common.{◌∙◌, arith}
use Rattle.sheets.proofs.Grids.{floor_more, floor_all, floor_tables}
use Rattle.sheets.proofs.drawing.clear.Goals as goal

pub loop-grade-preserved : goal.loop-grade-preserved
loop-grade-preserved g c = floor_more g.S.Scale.level c.loop-grade.grade-index c.loop-grade.grades c.floor.result c.loop-grade.invariant (omega arith) (c.floor.ensures ∙ g.met.S.Scale.floors)

pub returns : goal.returns
returns g c =
    let cells = floor_all g.S.Scale.level c.loop-grade.grades c.loop-grade.grade-index (omega arith) c.loop-grade.invariant in
    record { cells = cells; floors = λ n m limits. floor_tables n m g.S.Scale.height _ limits cells }
