use Rattle.files.proofs.Opening.{passed_view}
use Rattle.files.proofs.view.pass.Goals as goal

pub returns : goal.returns
returns g c = record { verdict = c.check.ensures; opened = passed_view g.S.Scale c.args.bytes.now c.check.result c.check.ensures }
