use Rattle.files.proofs.Opening.{view_bounded}
use Rattle.files.proofs.view.OpenFile.states.Goals as goal

pub returns-clause-bounded : goal.returns-clause-bounded
returns-clause-bounded g c = view_bounded g.S.Scale g.met.S.Scale.within g.met.S.Scale.encodes c.args.self.now.bytes.now
