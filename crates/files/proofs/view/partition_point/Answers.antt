use Rattle.std.proofs.Common.{◌≡◌, true, false, ◌∙◌, arith, rules}
use Rattle.files.specs.Search.{middle, is_before}
use Rattle.files.proofs.Halving.{goes_up, goes_down}
use Rattle.files.proofs.view.partition_point.Goals as goal

pub loop-low-preserved-then-lt : goal.loop-low-preserved-then-lt
loop-low-preserved-then-lt c =
    let low = c.loop-low.low in
    let high = c.loop-low.high in
    let test : is_before c.args.raws.now c.args.wanted (middle low high) ≡ true = search rules in
    record {
      ordered = omega arith;
      within = c.loop-low.invariant.within;
      rest = c.loop-low.invariant.rest ∙ goes_up (is_before c.args.raws.now c.args.wanted) low high c.loop-low-test.true test;
    }

pub loop-low-preserved : goal.loop-low-preserved
loop-low-preserved c =
    let low = c.loop-low.low in
    let high = c.loop-low.high in
    let test : is_before c.args.raws.now c.args.wanted (middle low high) ≡ false = search rules in
    record {
      ordered = omega arith;
      within = omega (arith, c.loop-low.invariant.within);
      rest = c.loop-low.invariant.rest ∙ goes_down (is_before c.args.raws.now c.args.wanted) low high c.loop-low-test.true test;
    }
