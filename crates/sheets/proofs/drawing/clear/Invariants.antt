use Rattle.std.proofs.Common.{◌≡◌, ℕ, ◌<◌, map, get_or}
use Rattle.sheets.proofs.drawing.clear.Given as goal

abbrev pub invariant-loop-grade : goal.invariant-loop-grade
invariant-loop-grade g l = (k : ℕ) → k < l.grade-index → get_or (map g.S.Scale.level l.grades) k 0 ≡ 0
