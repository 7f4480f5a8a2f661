-- What a file records, as tables.
use Rattle.std.specs.Prelude.{ℕ, cond, List, [], ◌∷◌, Some, None, Option}
use Rattle.std.specs.Option.{unwrap_or}
use Rattle.std.specs.Ordering.{is_eq}
use Rattle.grades.specs.declared.scale.Scale as scale
use Rattle.files.specs.declared.entry.Entry.{Entry}
use Rattle.files.specs.Entries.{states, marks, entries, key}
use Rattle.files.specs.Format.{Key, key_order}
use Rattle.sheets.specs.Sheets.{inside}
use Rattle.sheets.specs.Tables.{Tables}

-- the code of the first of these records that has a key
abbrev pub code_of : List Entry → (wanted : Key) → Option ℕ
code_of [] wanted = None
code_of (e ∷ es) wanted = cond (is_eq (key_order (key e) wanted)) (Some e.code) (code_of es wanted)

-- the level of a code that was found, and the floor where none was
abbrev pub level_found : {S : Type 0} → scale.Ghosts S → Option ℕ → ℕ
level_found s None = 0
level_found s (Some code) = unwrap_or (s.decode code) 0

-- n states and m marks, with the codes of their steps (kind 1) and marks (kind 2) looked up; outside the numbers stands the floor
abbrev pub looked_up : {S : Type 0} → scale.Ghosts S → (n m : ℕ) → (look : Key → Option ℕ) → Tables
looked_up s n m look = record {
  states = n;
  marks = m;
  height = s.height;
  step = λ from to. inside from n to n (level_found s (look (1, from, to)));
  mark = λ state which. inside state n which m (level_found s (look (2, state, which)));
}

-- the recorded grades; what is not recorded is the floor
abbrev pub file_tables : {S : Type 0} → scale.Ghosts S → List ℕ → Tables
file_tables s bytes = looked_up s (states bytes) (marks bytes) (code_of (entries bytes))
