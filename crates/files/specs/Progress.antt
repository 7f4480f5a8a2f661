-- What is known while a file is written. No part of the format.
use Rattle.std.specs.Prelude.{◌≡◌, ℕ, ◌<◌, ◌≤◌, length}
use Rattle.grades.specs.declared.scale.Scale as scale
use Rattle.files.specs.declared.saving.Plan.{Plan}
use Rattle.files.specs.Format.{level_at, table_records, LeadsBack}
use Rattle.files.specs.Order.{cell_at}
use Rattle.sheets.specs.Tables.{Tables}

-- the sizes of these tables, and how many records their file has
pub record Planned {S : Type 0} (s : scale.Ghosts S) (T : Tables) (plan : Plan) : Type 0 where
  pub states : plan.size.states ≡ T.states
  pub marks : plan.size.marks ≡ T.marks
  pub count : plan.count ≡ length (table_records s T)
  pub few : plan.count ≤ 5120

-- the first so many cells are at levels of grades
abbrev pub GradedTo : {S : Type 0} → scale.Ghosts S → Tables → (n m index : ℕ) → Type 0
GradedTo s T n m index = (i : ℕ) → i < index → LeadsBack s (level_at T (cell_at n m i))
