-- The sheet file: a header of ten bytes, and then a record of five bytes for each step and each mark above the floor.
use Rattle.std.specs.Prelude.{◌≡◌, ℕ, zero, suc, ◌+◌, ◌*◌, ◌/◌, ◌%◌, ◌<◌, ◌≤◌, Bool, cond, List, [], ◌∷◌, ◌++◌, map, length, drop, Some, None, filter, Option, nat_lt}
use Rattle.std.specs.List.{range_with_len, flat_map, Contains, All}
use Rattle.std.specs.Ordering.{nat_cmp, ordering_then}
use Rattle.std.specs.declared.cmp.Ordering.{Ordering}
use Rattle.std.specs.declared.cmp.Ordering.TheVariants.{Less}
use Rattle.grades.specs.declared.scale.Scale as scale
use Rattle.files.specs.declared.cell.Kind.{Kind}
use Rattle.files.specs.declared.cell.Kind.TheVariants.{Step, Mark}
use Rattle.files.specs.declared.cell.Cell.{Cell}
use Rattle.files.specs.declared.cell.Record.{Record}
use Rattle.sheets.specs.Tables.{Tables}

-- ---- cells, in their order

abbrev pub cell : Kind → (first second : ℕ) → Cell
cell kind first second = record { kind = kind; first = first; second = second }

-- the cells of one state: its steps, or its marks, so many
abbrev pub of_state : Kind → (state many : ℕ) → List Cell
of_state kind state many = map (cell kind state) (range_with_len 0 many)

-- the cells of so many states, from one on
abbrev pub of_states : Kind → (state many states : ℕ) → List Cell
of_states kind state many zero = []
of_states kind state many (suc states) = of_state kind state many ++ of_states kind (state + 1) many states

-- every cell, ascending by kind, by first number and by second number
abbrev pub cells : (n m : ℕ) → List Cell
cells n m = of_states Step 0 n n ++ of_states Mark 0 m n

abbrev pub level_by : Tables → Kind → (first second : ℕ) → ℕ
level_by T Step from to = T.step from to
level_by T Mark state which = T.mark state which

abbrev pub level_at : Tables → Cell → ℕ
level_at T c = level_by T c.kind c.first c.second

-- ---- records

abbrev pub above_floor : Tables → Cell → Bool
above_floor T c = nat_lt 0 (level_at T c)

-- a cell with the code of its level
abbrev pub record_of : {S : Type 0} → scale.Ghosts S → Tables → Cell → Record
record_of s T c = record { cell = c; code = s.code (level_at T c) }

-- a cell's record, or none where it is at the floor
abbrev pub recorded : {S : Type 0} → scale.Ghosts S → Tables → Cell → Option Record
recorded s T c = cond (above_floor T c) (Some (record_of s T c)) None

-- the records of these cells, floors left out
abbrev pub records_of : {S : Type 0} → scale.Ghosts S → Tables → List Cell → List Record
records_of s T cs = map (record_of s T) (filter (above_floor T) cs)

-- ---- bytes

abbrev pub kind_byte : Kind → ℕ
kind_byte Step = 1
kind_byte Mark = 2

-- a number below 65,536 in two bytes, the low one first
abbrev pub low_first : ℕ → List ℕ
low_first x = x % 256 ∷ (x / 256 ∷ [])

abbrev pub record_bytes : Record → List ℕ
record_bytes r = kind_byte r.cell.kind ∷ (r.cell.first ∷ (r.cell.second ∷ low_first r.code))

abbrev pub bytes_of : List Record → List ℕ
bytes_of = flat_map record_bytes

-- the letters WSH, the version 1, the scale's number, the sizes, and how many records follow
abbrev pub header_bytes : (number n m count : ℕ) → List ℕ
header_bytes number n m count = 87 ∷ (83 ∷ (72 ∷ (low_first 1 ++ (number ∷ (n ∷ (m ∷ low_first count))))))

-- the records of these tables
abbrev pub table_records : {S : Type 0} → scale.Ghosts S → Tables → List Record
table_records s T = records_of s T (cells T.states T.marks)

-- the file of these tables, on a scale
unfoldable pub file_of : {S : Type 0} → scale.Ghosts S → Tables → List ℕ
file_of s T = header_bytes s.number T.states T.marks (length (table_records s T)) ++ bytes_of (table_records s T)

-- where the record of an index begins: after ten bytes of header, and five of each record before it
abbrev pub record_position : (index : ℕ) → ℕ
record_position index = 10 + 5 * index

-- a file of k records has 10 + 5k bytes
abbrev pub file_length : (records : ℕ) → ℕ
file_length records = 10 + 5 * records

-- ---- the order of records

-- kind, first number and second number
abbrev pub Key : Type 0
Key = ℕ × ℕ × ℕ

-- by kind, then by first number, then by second number
abbrev pub key_order : Key → Key → Ordering
key_order a b = ordering_then (ordering_then (nat_cmp a.0 b.0) (nat_cmp a.1 b.1)) (nat_cmp a.2 b.2)

abbrev pub cell_key : Cell → Key
cell_key c = (kind_byte c.kind, c.first, c.second)

abbrev pub Before : Cell → Cell → Type 0
Before a b = key_order (cell_key a) (cell_key b) ≡ Less

-- each record comes before all that follow it
abbrev pub Ascend : List Record → Type 0
Ascend [] = Unit {0}
Ascend (r ∷ rs) = All (λ later. Before r.cell later.cell) rs × Ascend rs

-- ---- what the records are

-- the records ascend, and there is one for exactly the cells above the floor, each with the code of its level
pub record Records {S : Type 0} (s : scale.Ghosts S) (T : Tables) (rs : List Record) : Type 0 where
  pub ascend : Ascend rs
  pub above : All (λ r. (0 < level_at T r.cell) × (r.code ≡ s.code (level_at T r.cell))) rs
  pub every : (c : Cell) → 0 < level_at T c → Contains rs (record_of s T c)

-- the memory begins with the file, whose length is answered, and goes on as it was
pub record Saved {S : Type 0} (s : scale.Ghosts S) (T : Tables) (before after : List ℕ) (answer : ℕ) : Type 0 where
  pub records : Records s T (table_records s T)
  pub few : length (table_records s T) ≤ 5120
  pub sized : answer ≡ file_length (length (table_records s T))
  pub whole : answer ≡ length (file_of s T)
  pub bytes : after ≡ file_of s T ++ drop answer before

-- a level's code leads back to it, as a grade's does
abbrev pub LeadsBack : {S : Type 0} → scale.Ghosts S → (level : ℕ) → Type 0
LeadsBack s level = s.decode (s.code level) ≡ Some level

-- each level above the floor is that of a grade
abbrev pub Graded : {S : Type 0} → scale.Ghosts S → Tables → Type 0
Graded s T = (c : Cell) → 0 < level_at T c → LeadsBack s (level_at T c)
