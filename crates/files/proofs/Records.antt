-- Records, one cell after another, and their bytes.
use Rattle.std.proofs.Common.{◌≡◌, ℕ, suc, ◌+◌, ◌-◌, ◌*◌, ◌<◌, ◌≤◌, Bool, true, false, cond, List, [], ◌∷◌, ◌++◌, map, length, drop, Some, None, filter, Option, sym, refl, ap, ◌∙◌, arith, length-append}
use mathlib.Core.List.{map-append}
use Rattle.std.proofs.lemmas.List.Edits.{sets, sets-eq}
use Rattle.std.specs.List.{range_with_len}
use Rattle.std.specs.Option.{option_to_list}
use Rattle.std.proofs.lemmas.List.FromFn.{map-range_with_len_more}
use Rattle.std.proofs.lemmas.List.Elements.{filter-append}
use Rattle.grades.specs.declared.scale.Scale as scale
use Rattle.std.proofs.lemmas.Grind.{flat_map-append}
use Rattle.files.specs.declared.cell.Cell.{Cell}
use Rattle.files.specs.declared.cell.Record.{Record}
use Rattle.files.specs.Format.{cells, above_floor, record_of, recorded, records_of, record_bytes, bytes_of, header_bytes, table_records, file_of, file_length}
use Rattle.files.specs.Order.{cell_at, first_cells}
use Rattle.files.proofs.Cells.{map-range_with_len-append, cells_by_index}
use Rattle.sheets.specs.Tables.{Tables}

-- ---- records

module _ {S : Type 0} (s : scale.Ghosts S) (T : Tables) (n m : ℕ) where
  records_of-append : (xs ys : List Cell) → records_of s T (xs ++ ys) ≡ records_of s T xs ++ records_of s T ys
  records_of-append xs ys = ap (map (record_of s T)) (filter-append (above_floor T) xs ys) ∙ map-append (record_of s T) (filter (above_floor T) xs) (filter (above_floor T) ys)

  records_more : (i : ℕ) → records_of s T (first_cells n m (i + 1)) ≡ records_of s T (first_cells n m i) ++ records_of s T (cell_at n m i ∷ [])
  records_more i = ap (records_of s T) (map-range_with_len_more (cell_at n m) 0 i i (omega arith)) ∙ records_of-append (first_cells n m i) (cell_at n m i ∷ [])

  -- the next cell adds its record, or none
  pub records_next : (i : ℕ) (read : Option Record) → read ≡ recorded s T (cell_at n m i) → records_of s T (first_cells n m (i + 1)) ≡ records_of s T (first_cells n m i) ++ option_to_list read
  records_next i read is = records_more i ∙ ap (λ rs. records_of s T (first_cells n m i) ++ rs) (by (above_floor T (cell_at n m i)) ∙ ap option_to_list (sym is))
    where
      by : (b : Bool) → map (record_of s T) (cond b (cell_at n m i ∷ []) []) ≡ option_to_list (cond b (Some (record_of s T (cell_at n m i))) None)
      by true = refl
      by false = refl

  -- the cells by their index are all cells
  pub records_all : (k : ℕ) → k ≡ n * (n + m) → records_of s T (first_cells n m k) ≡ records_of s T (cells n m)
  records_all k e = ap (λ (k : ℕ). records_of s T (first_cells n m k)) e ∙ ap (records_of s T) (sym (cells_by_index n m))

  -- fewer cells have no more records
  pub records_grow : (i j : ℕ) → i ≤ j → length (records_of s T (first_cells n m i)) ≤ length (records_of s T (first_cells n m j))
  records_grow i j h =
      let k : i + (j - i) ≡ j = omega arith in
      let parts : records_of s T (first_cells n m j) ≡ records_of s T (first_cells n m i) ++ records_of s T (map (cell_at n m) (range_with_len i (j - i)))
      = ap (λ (x : ℕ). records_of s T (first_cells n m x)) (sym k) ∙ ap (records_of s T) (sym (map-range_with_len-append (cell_at n m) 0 i i (j - i) (omega arith))) ∙ records_of-append (first_cells n m i) (map (cell_at n m) (range_with_len i (j - i))) in
      omega (arith, ap length parts, length-append (records_of s T (first_cells n m i)) (records_of s T (map (cell_at n m) (range_with_len i (j - i)))))

  -- a cell above the floor has a record beyond those of the cells before it
  pub records_beyond : (i : ℕ) (entry : Record) → i < n * (n + m) → Some entry ≡ recorded s T (cell_at n m i) → length (records_of s T (first_cells n m i)) < length (records_of s T (cells n m))
  records_beyond i entry h is =
      omega (
        arith,
        ap length (records_next i (Some entry) is),
        length-append (records_of s T (first_cells n m i)) (entry ∷ []),
        records_grow (i + 1) (n * (n + m)) (omega arith),
        ap length (records_all (n * (n + m)) refl),
      )

-- ---- bytes

pub length-bytes_of : (rs : List Record) → length (bytes_of rs) ≡ 5 * length rs
length-bytes_of [] = refl
length-bytes_of (r ∷ rs) = omega (arith, length-bytes_of rs)

-- what is written after what was written
pub sets-append : {A : Type 0} (l : List A) (i j : ℕ) (vs ws : List A) → j ≡ i + length vs → sets (sets l i vs) j ws ≡ sets l i (vs ++ ws)
sets-append l i j [] ws e = let s : j ≡ i = omega arith in ap (λ (k : ℕ). sets l k ws) s
sets-append l i j (v ∷ vs) ws e = sets-append _ (suc i) j vs ws (omega arith)

-- one record more
pub sets_more : (rs : List Record) (entry : Record) (before out : List ℕ) (at : ℕ) → at ≡ file_length (length rs) → out ≡ sets before 10 (bytes_of rs) → sets out at (record_bytes entry) ≡ sets before 10 (bytes_of (rs ++ entry ∷ []))
sets_more rs entry before out at next written =
    ap (λ l. sets l at (record_bytes entry)) written ∙ sets-append before 10 at (bytes_of rs) (record_bytes entry) (omega (arith, length-bytes_of rs)) ∙ ap (sets before 10) (sym (flat_map-append record_bytes rs (entry ∷ [])))

-- ---- the whole file

pub length-file_of : {S : Type 0} (s : scale.Ghosts S) (T : Tables) → length (file_of s T) ≡ file_length (length (table_records s T))
unfolding file_of
length-file_of s T = omega (arith, length-bytes_of (table_records s T))

-- the header and the records of tables, written one after the other, are their file
pub file_written : {S : Type 0} (s : scale.Ghosts S) (T : Tables) (before : List ℕ) → file_length (length (table_records s T)) ≤ length before →
    sets (sets before 0 (header_bytes s.number T.states T.marks (length (table_records s T)))) 10 (bytes_of (table_records s T)) ≡ file_of s T ++ drop (file_length (length (table_records s T))) before
unfolding file_of
file_written s T before room =
    let rs = table_records s T in
    let header = header_bytes s.number T.states T.marks (length rs) in
    let long : 0 + length (file_of s T) ≡ file_length (length rs) = omega (arith, length-file_of s T) in
    sets-append before 0 10 header (bytes_of rs) refl ∙ sets-eq (file_of s T) before 0 (omega (arith, length-file_of s T)) ∙ ap (λ (end : ℕ). file_of s T ++ drop end before) long
