use Rattle.std.proofs.Common.{◌≡◌, drop, None}
use Rattle.files.specs.Entries.{entries_from}
use Rattle.files.specs.Checks.{records_fault}
use Rattle.files.proofs.checking.check_records.Given as goal

-- what is left to check decides
abbrev pub invariant-loop-index : goal.invariant-loop-index
invariant-loop-index g l =
    records_fault g.S.Scale l.header.states l.header.marks None (entries_from 0 l.raws)
    ≡ records_fault g.S.Scale l.header.states l.header.marks l.before (entries_from l.index (drop l.index l.raws))
