-- Which calls are refused, and the number of each refusal.
use Rattle.std.specs.Prelude.{ℕ, Bool, cond, Some, None, Option, nat_lt}
use Rattle.grades.specs.declared.cut.CutRefusal.{CutRefusal}
use Rattle.grades.specs.declared.cut.CutRefusal.TheVariants.{AtFloor}

-- where the test fails, that refusal; else what comes next
abbrev pub needing : {R : Type 0} → Bool → R → Option R → Option R
needing test refusal next = cond test next (Some refusal)

abbrev pub cut_number : CutRefusal → ℕ
cut_number AtFloor = 6

-- a cut at a grade of this level
abbrev pub cut_refusal : ℕ → Option CutRefusal
cut_refusal level = needing (nat_lt 0 level) AtFloor None
