use Rattle.std.proofs.Common.{◌≡◌, ◌-◌, ◌≤◌, length}
use Rattle.files.specs.Search.{halved, is_before, partition_point}
use Rattle.files.proofs.view.partition_point.Given as goal

abbrev pub invariant-loop-low : goal.invariant-loop-low
invariant-loop-low l = record {
  ordered : l.low ≤ l.high;
  within : l.high ≤ length l.raws;
  rest : partition_point l.raws l.wanted ≡ halved (is_before l.raws l.wanted) (l.high - l.low) l.low l.high;
}

abbrev pub decreases-loop-low : goal.decreases-loop-low
decreases-loop-low l = l.high - l.low
