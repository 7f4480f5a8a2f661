-- When saving is refused, and the number of each refusal.
use Rattle.std.specs.Prelude.{ℕ, None, Option, nat_le}
use Rattle.grades.specs.Refusals.{needing}
use Rattle.files.specs.Format.{file_length}
use Rattle.files.specs.declared.saving.SaveRefusal.{SaveRefusal}
use Rattle.files.specs.declared.saving.SaveRefusal.TheVariants.{Memory}

abbrev pub save_number : SaveRefusal → ℕ
save_number Memory = 24

-- a file of so many records, into memory of this length
abbrev pub save_refusal : (records memory : ℕ) → Option SaveRefusal
save_refusal records memory = needing (nat_le (file_length records) memory) Memory None
