-- The cells by an index, as saving goes through them. No part of the format: proofs/Cells shows that it is the order of the file.
use Rattle.std.specs.Prelude.{ℕ, ◌-◌, ◌*◌, ◌/◌, ◌%◌, cond, List, map, nat_lt}
use Rattle.std.specs.List.{range_with_len}
use Rattle.files.specs.declared.cell.Kind.TheVariants.{Step, Mark}
use Rattle.files.specs.declared.cell.Cell.{Cell}
use Rattle.files.specs.Format.{cell}

abbrev pub cell_at : (n m index : ℕ) → Cell
cell_at n m index = cond (nat_lt index (n * n)) (cell Step (index / n) (index % n)) (cell Mark ((index - n * n) / m) ((index - n * n) % m))

-- the first so many cells
abbrev pub first_cells : (n m count : ℕ) → List Cell
first_cells n m count = map (cell_at n m) (range_with_len 0 count)
