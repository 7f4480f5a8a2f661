use Rattle.files.proofs.Opening.{verdict}
use Rattle.files.proofs.checking.check_all.Goals as goal

pub returns : goal.returns
returns g c = verdict g.S.Scale g.met.S.Scale.within g.met.S.Scale.encodes c.args.bytes.now (λ k. (c.type_inv.bytes k).fits) _ c.find_fault.ensures
