-- Which calls on a sheet are refused, by the first cause that holds, and the number of each refusal.
use Rattle.std.specs.Prelude.{ℕ, ◌+◌, ◌*◌, Bool, not, is_some, None, Option, ◌==◌, nat_le, nat_lt}
use Rattle.grades.specs.Refusals.{needing}
use Rattle.sheets.specs.declared.refusal.SizeRefusal.{SizeRefusal}
use Rattle.sheets.specs.declared.refusal.SizeRefusal.TheVariants as size
use Rattle.sheets.specs.declared.refusal.DrawRefusal.{DrawRefusal}
use Rattle.sheets.specs.declared.refusal.DrawRefusal.TheVariants as draw
use Rattle.sheets.specs.declared.refusal.MarkRefusal.{MarkRefusal}
use Rattle.sheets.specs.declared.refusal.MarkRefusal.TheVariants as mark

abbrev pub size_number : SizeRefusal → ℕ
size_number size.States = 4
size_number size.Marks = 4
size_number size.Memory = 5

abbrev pub draw_number : DrawRefusal → ℕ
draw_number draw.Memory = 5
draw_number draw.State = 2

abbrev pub mark_number : MarkRefusal → ℕ
mark_number mark.Memory = 5
mark_number mark.State = 2
mark_number mark.Mark = 3

-- a sheet of n states and m marks in memory of so many cells
abbrev pub size_refusal : (n m cells : ℕ) → Option SizeRefusal
size_refusal n m cells =
    needing (nat_le 1 n) size.States (needing (nat_le n 64) size.States (needing (nat_le m 16) size.Marks (needing (cells == n * (n + m)) size.Memory None)))

-- the size passes
abbrev pub is_whole : (n m cells : ℕ) → Bool
is_whole n m cells = not (is_some (size_refusal n m cells))

-- a step of such a sheet. Only memory of another length than passed at its making draws 5
abbrev pub draw_refusal : (n m cells from to : ℕ) → Option DrawRefusal
draw_refusal n m cells from to =
    needing (is_whole n m cells) draw.Memory (needing (nat_lt from n) draw.State (needing (nat_lt to n) draw.State None))

-- a mark of such a sheet
abbrev pub mark_refusal : (n m cells state which : ℕ) → Option MarkRefusal
mark_refusal n m cells state which =
    needing (is_whole n m cells) mark.Memory (needing (nat_lt state n) mark.State (needing (nat_lt which m) mark.Mark None))
