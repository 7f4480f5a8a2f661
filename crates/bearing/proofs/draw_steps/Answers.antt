use Rattle.std.proofs.Common.{refl}
use Rattle.sheets.specs.Tables.{with_step}
use Rattle.bearing.proofs.Drawing.{kept_then, changed_then}
use Rattle.bearing.proofs.draw_steps.Goals as goal

pub returns : goal.returns
returns c = record {
  kept = kept_then (kept_then (kept_then (kept_then c.in_ok-draw.ensures.kept c.in_ok-draw-2.ensures.kept) c.in_ok-draw-3.ensures.kept) c.in_ok-draw-4.ensures.kept) c.in_ok-draw-5.ensures.kept;
  accepted = λ whole states marks. refl;
  tables = λ ok. changed_then (λ T. with_step T 2 2 600) (changed_then (λ T. with_step T 1 2 800) (changed_then (λ T. with_step T 1 1 600) (changed_then (λ T. with_step T 0 1 900) c.in_ok-draw.ensures.drawn c.in_ok-draw-2.ensures.drawn) c.in_ok-draw-3.ensures.drawn) c.in_ok-draw-4.ensures.drawn) c.in_ok-draw-5.ensures.drawn;
}
