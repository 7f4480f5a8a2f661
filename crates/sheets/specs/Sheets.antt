-- What a sheet's memory means: for each state a stretch of cells, its steps and then its marks.
use Rattle.std.specs.Prelude.{◌≡◌, ℕ, ◌+◌, ◌*◌, min, max, cond, List, map, length, nat_lt, slice_index}
use Rattle.grades.specs.declared.scale.Scale as scale
use Rattle.sheets.specs.declared.sheet.Sheet.{Sheet}
use Rattle.sheets.specs.declared.size.Size.{Size}
use Rattle.sheets.specs.Tables.{Tables, Limits}

-- a size outside the limits counts as the nearest limit
abbrev pub states_of : ℕ → ℕ
states_of n = max 1 (min n 64)

abbrev pub marks_of : ℕ → ℕ
marks_of m = min m 16

-- where in the memory of n states and m marks a step lies, and a mark
abbrev pub step_cell : (n m from to : ℕ) → ℕ
step_cell n m from to = from * (n + m) + to

abbrev pub mark_cell : (n m state which : ℕ) → ℕ
mark_cell n m state which = state * (n + m) + (n + which)

-- p where s is below n and c below w, and else the floor
abbrev pub inside : (s n c w p : ℕ) → ℕ
inside s n c w p = cond (nat_lt s n) (cond (nat_lt c w) p 0) 0

-- over memory of these levels; past its end stands the floor
abbrev pub sheet_tables : (n m height : ℕ) → List ℕ → Tables
sheet_tables n m height cells = record {
  states = n;
  marks = m;
  height = height;
  step = λ s t. inside s n t n (slice_index cells (step_cell n m s t));
  mark = λ s k. inside s n k m (slice_index cells (mark_cell n m s k));
}

-- what memory means to a sheet of this size
abbrev pub memory_tables : {S : Type 0} → scale.Ghosts S → Size → List S → Tables
memory_tables s size grades = sheet_tables size.states size.marks s.height (map s.level grades)

abbrev pub tables_of : {S : Type 0} → scale.Ghosts S → Sheet S → Tables
tables_of s sheet = sheet_tables (states_of sheet.n) (marks_of sheet.m) s.height (map s.level sheet.grades.now)

-- sizes within the limits, and a cell for each step and each mark
pub record Whole (n m cells : ℕ) : Type 0 where
  pub limits : Limits n m
  pub room : cells ≡ n * (n + m)

abbrev pub IsWhole : {S : Type 0} → Sheet S → Type 0
IsWhole sheet = Whole sheet.n sheet.m (length sheet.grades.now)

-- what every call on a sheet keeps: its size, and that it is over the same memory
pub record Kept {S : Type 0} (before after : Sheet S) : Type 0 where
  pub n : after.n ≡ before.n
  pub m : after.m ≡ before.m
  pub length_same : length after.grades.now ≡ length before.grades.now
  pub memory_same : after.grades.ghost_name ≡ before.grades.ghost_name
