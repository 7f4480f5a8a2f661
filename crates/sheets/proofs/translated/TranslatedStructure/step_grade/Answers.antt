use Rattle.std.proofs.Common.{rules}
use Rattle.sheets.specs.Bounds.{through_bounded}
use Rattle.sheets.specs.Tables.{Bounded}
use Rattle.sheets.proofs.translated.TranslatedStructure.step_grade.Goals as goal

pub returns-clause-bounded : goal.returns-clause-bounded
returns-clause-bounded g c =
    let map = c.args.self.now.map in
    let below : Bounded g.M.From.Scale.height (g.K.Structure.tables c.args.self.now.below) = search rules in
    through_bounded (g.M.GradeMap.table map) _ _ (g.met.M.GradeMap.ordered map) (g.met.M.GradeMap.floors map) (g.met.M.GradeMap.tops map) _ below
