use Rattle.std.proofs.Common.{refl}
use Rattle.sheets.specs.Tables.{with_mark}
use Rattle.bearing.proofs.Drawing.{kept_then, changed_then}
use Rattle.bearing.proofs.mark_states.Goals as goal

pub returns : goal.returns
returns c = record {
  kept = kept_then (kept_then (kept_then (kept_then (kept_then c.in_ok-mark.ensures.kept c.in_ok-mark-2.ensures.kept) c.in_ok-mark-3.ensures.kept) c.in_ok-mark-4.ensures.kept) c.in_ok-mark-5.ensures.kept) c.in_ok-mark-6.ensures.kept;
  accepted = λ whole states marks. refl;
  tables = λ ok. changed_then (λ T. with_mark T 2 1 1000) (changed_then (λ T. with_mark T 1 1 300) (changed_then (λ T. with_mark T 0 1 0) (changed_then (λ T. with_mark T 2 0 0) (changed_then (λ T. with_mark T 1 0 500) c.in_ok-mark.ensures.marked c.in_ok-mark-2.ensures.marked) c.in_ok-mark-3.ensures.marked) c.in_ok-mark-4.ensures.marked) c.in_ok-mark-5.ensures.marked) c.in_ok-mark-6.ensures.marked;
}
