use Rattle.sheets.specs.Bounds.{sheet_bounded}
use Rattle.sheets.proofs.sheet.Sheet.size.Goals as goal

pub returns-clause-bounded : goal.returns-clause-bounded
returns-clause-bounded g c = sheet_bounded g.S.Scale g.met.S.Scale.within c.args.self.now
