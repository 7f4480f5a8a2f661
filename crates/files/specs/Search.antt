-- How a view looks a record up, by binary search. No part of the format: in a file without a fault it finds what is recorded.
use Rattle.std.specs.Prelude.{ℕ, zero, suc, ◌+◌, ◌-◌, ◌/◌, Bool, cond, List, [], length, get_or, drop, Some, None, Option, nat_lt, slice_get}
use Rattle.std.specs.Option.{option_and_then}
use Rattle.std.specs.Ordering.{is_lt, is_eq}
use Rattle.std.specs.Simd.{first_chunks}
use Rattle.grades.specs.declared.scale.Scale as scale
use Rattle.files.specs.Entries.{two_bytes, states, marks, entry_of, key}
use Rattle.files.specs.Format.{Key, key_order}
use Rattle.files.specs.Recorded.{looked_up}
use Rattle.sheets.specs.Sheets.{states_of, marks_of}
use Rattle.sheets.specs.Tables.{Tables}

abbrev pub middle : (low high : ℕ) → ℕ
middle low high = low + (high - low) / 2

-- where halving between low and high comes to rest, in so many turns: above the middle where the test holds there, and else below
abbrev pub halved : (test : ℕ → Bool) → (turns low high : ℕ) → ℕ
halved test zero low high = low
halved test (suc turns) low high =
    cond (nat_lt low high) (cond (test (middle low high)) (halved test turns (middle low high + 1) high) (halved test turns low (middle low high))) low

-- the whole records after the header, whatever that says
abbrev pub whole_records : List ℕ → List (List ℕ)
whole_records bytes = first_chunks 5 (length (drop 10 bytes) / 5) (drop 10 bytes)

abbrev pub raw_key : List ℕ → Key
raw_key raw = key (entry_of 0 raw)

-- whether the record of an index comes before a key
abbrev pub is_before : List (List ℕ) → (wanted : Key) → (index : ℕ) → Bool
is_before raws wanted index = is_lt (key_order (raw_key (get_or raws index [])) wanted)

-- how many records come before a key, where the records ascend
abbrev pub partition_point : List (List ℕ) → (wanted : Key) → ℕ
partition_point raws wanted = halved (is_before raws wanted) (length raws) 0 (length raws)

-- the code of a record, where it has the key
abbrev pub code_under : List ℕ → (wanted : Key) → Option ℕ
code_under raw wanted = cond (is_eq (key_order (raw_key raw) wanted)) (Some (two_bytes raw 3)) None

-- the same of the record at an index, where there is one
abbrev pub code_at : List (List ℕ) → (wanted : Key) → (index : ℕ) → Option ℕ
code_at raws wanted index = option_and_then (λ raw. code_under raw wanted) (slice_get raws index)

abbrev pub found : List (List ℕ) → (wanted : Key) → Option ℕ
found raws wanted = code_at raws wanted (partition_point raws wanted)

-- what a view reads of any bytes; sizes outside the limits count as the nearest limit
abbrev pub view_tables : {S : Type 0} → scale.Ghosts S → List ℕ → Tables
view_tables s bytes = looked_up s (states_of (states bytes)) (marks_of (marks bytes)) (found (whole_records bytes))
