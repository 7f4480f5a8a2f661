-- The records of a file as its bytes are, whatever they are. What lies past the end reads as 0.
use Rattle.std.specs.Prelude.{ℕ, ◌+◌, ◌*◌, List, [], ◌∷◌, drop, slice_index}
use Rattle.std.specs.Simd.{first_chunks}
use Rattle.files.specs.declared.entry.Entry.{Entry}
use Rattle.files.specs.Format.{Key}

-- the number in two bytes, the low one first
abbrev pub two_bytes : List ℕ → (position : ℕ) → ℕ
two_bytes bytes position = slice_index bytes position + slice_index bytes (position + 1) * 256

-- what the header says: the states, the marks, and how many records follow
abbrev pub states : List ℕ → ℕ
states bytes = slice_index bytes 6

abbrev pub marks : List ℕ → ℕ
marks bytes = slice_index bytes 7

abbrev pub count : List ℕ → ℕ
count bytes = two_bytes bytes 8

-- the records, five bytes each, after the ten of the header
abbrev pub raw_records : List ℕ → List (List ℕ)
raw_records bytes = first_chunks 5 (count bytes) (drop 10 bytes)

-- a record's index and bytes: kind, first number, second number, and the code in two bytes
abbrev pub entry_of : (index : ℕ) → List ℕ → Entry
entry_of index raw = record {
  index = index;
  kind = slice_index raw 0;
  first = slice_index raw 1;
  second = slice_index raw 2;
  code = two_bytes raw 3;
}

-- records, counted from an index on
abbrev pub entries_from : (index : ℕ) → List (List ℕ) → List Entry
entries_from index [] = []
entries_from index (raw ∷ raws) = entry_of index raw ∷ entries_from (index + 1) raws

abbrev pub entries : List ℕ → List Entry
entries bytes = entries_from 0 (raw_records bytes)

abbrev pub key : Entry → Key
key e = (e.kind, e.first, e.second)
