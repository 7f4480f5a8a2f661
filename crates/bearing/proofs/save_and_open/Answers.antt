use Rattle.std.proofs.Common.{refl}
use Rattle.bearing.proofs.Reopening.{same_tables, no_fault}
use Rattle.bearing.proofs.save_and_open.Goals as goal

pub returns-in-Ok-open-clause-opened : goal.returns-in-Ok-open-clause-opened
returns-in-Ok-open-clause-opened c =
    let saved = c.in-Ok.ensures.saved in
    let opened = c.in-Ok-open.ensures in
    (saved.sized, same_tables _ _ _ _ _ c.in-Ok.length saved c.in-Ok.ensures.storable refl _ _ opened.verdict opened.opened)

pub returns-in-Err-clause-opened : goal.returns-in-Err-clause-opened
returns-in-Err-clause-opened c =
    absurd (no_fault _ _ _ _ _ c.in-Ok.length c.in-Ok.ensures.saved c.in-Ok.ensures.storable refl _ c.in-Err.ensures.verdict)
