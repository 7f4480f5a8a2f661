use Rattle.std.proofs.Common.{◌≡◌, true, is_ok, refl, ap, ◌∙◌, rules}
use Rattle.bearing.specs.Bearing.{with_steps, with_marks, bearing_steps, bearing_marks}
use Rattle.bearing.proofs.Drawing.{kept_then}
use Rattle.bearing.proofs.draw_bearing.Goals as goal

pub returns : goal.returns
returns c =
    let drawn : is_ok c.draw_steps.result ≡ true = search rules in
    let marked : is_ok c.mark_states.result ≡ true = search rules in
    let steps = c.draw_steps.ensures in
    let marks = c.mark_states.ensures in
    let tables = marks.tables marked ∙ ap (λ T. with_marks T bearing_marks) (steps.tables drawn) in
    record {
      becomes = record { kept = kept_then steps.kept marks.kept; accepted = λ whole states few. refl; tables = λ ok. tables };
      drawn = λ floor ok. tables ∙ ap (λ T. with_marks (with_steps T bearing_steps) bearing_marks) floor;
    }
