-- The cells of a sheet: a step from a state to a state, or a mark in a state.
use Rattle.std.specs.Prelude.{ℕ, Bool, ◌&&◌, nat_lt}
use Rattle.sheets.specs.declared.cell.Cell.{Cell}
use Rattle.sheets.specs.declared.cell.Cell.TheVariants.{Step, Mark}
use Rattle.sheets.specs.declared.size.Size.{Size}
use Rattle.sheets.specs.Sheets.{step_cell, mark_cell}
use Rattle.sheets.specs.Tables.{Tables, with_step, with_mark}

-- its numbers are of a state and a state, or of a state and a mark
abbrev pub is_inside : Size → Cell → Bool
is_inside size (Step from to) = nat_lt from size.states && nat_lt to size.states
is_inside size (Mark state which) = nat_lt state size.states && nat_lt which size.marks

abbrev pub cell_index : Size → Cell → ℕ
cell_index size (Step from to) = step_cell size.states size.marks from to
cell_index size (Mark state which) = mark_cell size.states size.marks state which

abbrev pub level_at : Tables → Cell → ℕ
level_at T (Step from to) = T.step from to
level_at T (Mark state which) = T.mark state which

-- the one cell at the level p, and all else as it was
abbrev pub with_level : Tables → Cell → (p : ℕ) → Tables
with_level T (Step from to) p = with_step T from to p
with_level T (Mark state which) p = with_mark T state which p
