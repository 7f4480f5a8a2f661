-- Lemmas on sheets: the cells of the memory, what is read of them, and what one write changes.
use Rattle.std.proofs.Common.{◌≡◌, ℕ, zero, suc, ◌+◌, ◌*◌, ◌/◌, ◌%◌, ◌<◌, ◌≤◌, Bool, true, false, cond, ◌&&◌, eqb, ltb, ◌≢◌, List, [], ◌∷◌, map, length, get_or, set, sym, refl, ap, ◌∙◌, arith, get_or-set_other, get_or-set_same, below_more, ltb-true, eqb-true}
use borrow.Author.Tests.{eqb-false}
use lib.Arith.{digits_lt, digits_div, digits_mod}
use lib.ListN.{length-map}
use Rattle.std.proofs.lemmas.Bool.{and_parts}
use Rattle.std.proofs.lemmas.List.{map-set, get_or_past}
use Rattle.grades.specs.declared.scale.Scale as scale
use Rattle.sheets.specs.declared.cell.Cell.{Cell}
use Rattle.sheets.specs.declared.cell.Cell.TheVariants.{Step, Mark}
use Rattle.sheets.specs.declared.size.Size.{Size}
use Rattle.sheets.specs.Bounds.{inside_in, grid, grid_within}
use Rattle.sheets.specs.Cells.{is_inside, cell_index, level_at, with_level}
use Rattle.sheets.specs.Sheets.{states_of, marks_of, inside, sheet_tables, memory_tables, Whole}
use Rattle.sheets.specs.Tables.{Tables, Limits, all_floor, updated}

-- ---- levels of a list

level_past : {S : Type 0} (level : S → ℕ) (xs : List S) (i : ℕ) → length xs ≤ i → get_or (map level xs) i 0 ≡ 0
level_past level xs i h = get_or_past (map level xs) i 0 (simp length-map h)

pub floor_more : {S : Type 0} (level : S → ℕ) (s : ℕ) (ws : List S) (x : S) → ((k : ℕ) → k < s → get_or (map level ws) k 0 ≡ 0) → s < length ws → level x ≡ 0 →
    (k : ℕ) → k < s + 1 → get_or (map level (set ws s x)) k 0 ≡ 0
floor_more level s ws x w inside e =
    let set_is : map level (set ws s x) ≡ set (map level ws) s (level x) = map-set level ws s x in
    let in2 : s < length (map level ws) = rw length-map inside in
    below_more (λ k. get_or (map level (set ws s x)) k 0 ≡ 0) s
    (λ k l. ap (λ (l : List ℕ). get_or l k 0) set_is ∙ get_or-set_other (map level ws) s k (level x) 0 (λ q. omega arith) ∙ w k l)
    (ap (λ (l : List ℕ). get_or l s 0) set_is ∙ get_or-set_same (map level ws) s (level x) 0 in2 ∙ e)

-- past the end the floor stands
pub floor_all : {S : Type 0} (level : S → ℕ) (ws : List S) (s : ℕ) → length ws ≤ s → ((k : ℕ) → k < s → get_or (map level ws) k 0 ≡ 0) → (k : ℕ) → get_or (map level ws) k 0 ≡ 0
floor_all level [] s h w k = refl
floor_all level (x ∷ ws) s h w zero = w 0 (omega arith)
floor_all level (x ∷ ws) s h w (suc k) = floor_all level ws (length ws) (omega arith) (λ i l. w (suc i) (omega arith)) k

-- ---- grids: rows of one width, each with its columns at some places

-- two cells that lie at one index of the memory are one
same_row : (width s c u d : ℕ) → c < width → d < width → s * width + c ≡ u * width + d → s ≡ u
same_row width s c u d hc hd e = sym (digits_div s hc) ∙ ap (λ (x : ℕ). x / width) e ∙ digits_div u hd

same_column : (width s c u d : ℕ) → c < width → d < width → s * width + c ≡ u * width + d → c ≡ d
same_column width s c u d hc hd e = sym (digits_mod s hc) ∙ ap (λ (x : ℕ). x % width) e ∙ digits_mod u hd

-- what a grid reads after one cell of the memory was set: by whether the grid has that cell at (s, c), and where not
grid_elsewhere : (xs : List ℕ) (rows columns width : ℕ) (column : ℕ → ℕ) (at g s c : ℕ) → (c < columns → s * width + column c ≢ at) →
    grid (set xs at g) rows columns width column s c ≡ grid xs rows columns width column s c
grid_elsewhere xs rows columns width column at g s c apart =
    elim (ltb s rows) as (λ v. cond v (cond (ltb c columns) (get_or (set xs at g) (s * width + column c) 0) 0) 0 ≡ cond v (cond (ltb c columns) (get_or xs (s * width + column c) 0) 0) 0)
    [ true ↦ inner (ltb c columns) refl | false ↦ refl ]
  where
    inner : (v : Bool) → ltb c columns ≡ v → cond v (get_or (set xs at g) (s * width + column c) 0) 0 ≡ cond v (get_or xs (s * width + column c) 0) 0
    inner true e = get_or-set_other xs at (s * width + column c) g 0 (apart (ltb-true c columns e))
    inner false e = refl

grid_set : (xs : List ℕ) (rows columns width : ℕ) (column : ℕ → ℕ) → ((c : ℕ) → c < columns → column c < width) → ((c d : ℕ) → column c ≡ column d → c ≡ d) →
    (s c g : ℕ) → s < rows → c < columns → s * width + column c < length xs →
    (u d : ℕ) → grid (set xs (s * width + column c) g) rows columns width column u d ≡ updated (grid xs rows columns width column) s c g u d
grid_set xs rows columns width column narrow one s c g hs hc inside u d = first (eqb u s) refl
  where
    other : (u ≡ s → d ≡ c → ⊥) → grid (set xs (s * width + column c) g) rows columns width column u d ≡ grid xs rows columns width column u d
    other apart = grid_elsewhere xs rows columns width column (s * width + column c) g u d
        (λ hd q. apart (same_row width u (column d) s (column c) (narrow d hd) (narrow c hc) q) (one d c (same_column width u (column d) s (column c) (narrow d hd) (narrow c hc) q)))

    here : u ≡ s → d ≡ c → grid (set xs (s * width + column c) g) rows columns width column u d ≡ g
    here p q = rw (p, q) (inside_in s rows c columns _ hs hc ∙ get_or-set_same xs (s * width + column c) g 0 inside)

    second : (w : Bool) → eqb d c ≡ w → u ≡ s → grid (set xs (s * width + column c) g) rows columns width column u d ≡ cond w g (grid xs rows columns width column u d)
    second true e p = here p (eqb-true d c e)
    second false e p = other (λ _ q. eqb-false d c e q)

    first : (v : Bool) → eqb u s ≡ v → grid (set xs (s * width + column c) g) rows columns width column u d ≡ cond v (cond (eqb d c) g (grid xs rows columns width column u d)) (grid xs rows columns width column u d)
    first true e = second (eqb d c) refl (eqb-true u s e)
    first false e = other (λ p _. eqb-false u s e p)

-- ---- the cells of a sheet

tables_are : (n m h : ℕ) {st st' mk mk' : ℕ → ℕ → ℕ} → ((s t : ℕ) → st s t ≡ st' s t) → ((s k : ℕ) → mk s k ≡ mk' s k) →
    ◌≡◌ {A = Tables} (record { states = n; marks = m; height = h; step = st; mark = mk }) (record { states = n; marks = m; height = h; step = st'; mark = mk' })
tables_are n m h p q = λ i. record { states = n; marks = m; height = h; step = λ s t. p s t i; mark = λ s k. q s k i }

-- what memory means, by the size that a sheet's numbers count as
pub tables_counted : {S : Type 0} (s : scale.Ghosts S) (size : Size) (n m : ℕ) (grades : List S) → size.states ≡ states_of n → size.marks ≡ marks_of m →
    sheet_tables (states_of n) (marks_of m) s.height (map s.level grades) ≡ memory_tables s size grades
tables_counted s size n m grades states marks = λ i. sheet_tables (sym states i) (sym marks i) s.height (map s.level grades)

-- the numbers of a cell that a sheet of this size has
below : (s n c w : ℕ) → ltb s n && ltb c w ≡ true → (s < n) × (c < w)
below s n c w has = let parts = and_parts (ltb s n) (ltb c w) has in (ltb-true s n parts.0, ltb-true c w parts.1)

module _ (size : Size) (cells : ℕ) (whole : Whole size.states size.marks cells) where
  -- the memory of a whole sheet has every cell
  pub index_room : (cell : Cell) → is_inside size cell ≡ true → cell_index size cell < cells
  index_room (Step from to) has =
      let numbers = below from size.states to size.states has in
      let l : from * (size.states + size.marks) + to < size.states * (size.states + size.marks) = digits_lt numbers.0 (omega (arith, numbers.1)) in
      omega (arith, whole.room)
  index_room (Mark state which) has =
      let numbers = below state size.states which size.marks has in
      let l : state * (size.states + size.marks) + (size.states + which) < size.states * (size.states + size.marks) = digits_lt numbers.0 (omega (arith, numbers.1)) in
      omega (arith, whole.room)

module _ {S : Type 0} (s : scale.Ghosts S) (size : Size) (grades : List S) where
  abbrev n : ℕ
  n = size.states

  abbrev m : ℕ
  m = size.marks

  abbrev xs : List ℕ
  xs = map s.level grades

  -- a cell that the memory does not reach is at the floor
  pub past_the_end : (cell : Cell) → is_inside size cell ≡ true → length grades ≤ cell_index size cell → level_at (memory_tables s size grades) cell ≡ 0
  past_the_end (Step from to) has past =
      let numbers = below from n to n has in inside_in from n to n _ numbers.0 numbers.1 ∙ level_past s.level grades (cell_index size (Step from to)) past
  past_the_end (Mark state which) has past =
      let numbers = below state n which m has in inside_in state n which m _ numbers.0 numbers.1 ∙ level_past s.level grades (cell_index size (Mark state which)) past

  -- one cell set in the memory of a whole sheet, and its tables afterwards
  pub set_cell : (cell : Cell) (at : ℕ) (g : S) → Whole size.states size.marks (length grades) → is_inside size cell ≡ true → at ≡ cell_index size cell →
      memory_tables s size (set grades at g) ≡ with_level (memory_tables s size grades) cell (s.level g)
  set_cell cell at g whole has is =
      ap (sheet_tables n m s.height) (map-set s.level grades at g ∙ ap (λ (i : ℕ). set xs i (s.level g)) is)
      ∙ set_levels cell has (omega (arith, index_room size (length grades) whole cell has, long))
    where
      long : length (map s.level grades) ≡ length grades
      long = simp length-map

      set_levels : (cell : Cell) → is_inside size cell ≡ true → cell_index size cell < length (map s.level grades) →
          sheet_tables n m s.height (set xs (cell_index size cell) (s.level g)) ≡ with_level (memory_tables s size grades) cell (s.level g)
      set_levels (Step from to) has room =
          let numbers = below from n to n has in
          tables_are n m s.height
          (grid_set xs n n (n + m) (λ t. t) (λ c l. omega arith) (λ c d q. q) from to (s.level g) numbers.0 numbers.1 room)
          (λ u k. grid_elsewhere xs n m (n + m) (λ k. n + k) (from * (n + m) + to) (s.level g) u k
          (λ hk q. let c : n + k ≡ to = same_column (n + m) u (n + k) from to (omega arith) (omega (arith, numbers.1)) q in omega (arith, numbers.1)))
      set_levels (Mark state which) has room =
          let numbers = below state n which m has in
          tables_are n m s.height
          (λ u t. grid_elsewhere xs n n (n + m) (λ t. t) (state * (n + m) + (n + which)) (s.level g) u t
          (λ ht q. let c : t ≡ n + which = same_column (n + m) u t state (n + which) (omega arith) (omega (arith, numbers.1)) q in omega arith))
          (grid_set xs n m (n + m) (λ k. n + k) (λ c l. omega arith) (λ c d q. omega arith) state which (s.level g) numbers.0 numbers.1 room)

pub floor_tables : (n m h : ℕ) (xs : List ℕ) → Limits n m → ((i : ℕ) → get_or xs i 0 ≡ 0) → sheet_tables (states_of n) (marks_of m) h xs ≡ all_floor n m h
floor_tables n m h xs limits z =
    tables_are (states_of n) (marks_of m) h
    (λ s t. floor_grid (states_of n) (states_of n) (states_of n + marks_of m) (λ t. t) s t)
    (λ s k. floor_grid (states_of n) (marks_of m) (states_of n + marks_of m) (λ k. states_of n + k) s k)
    ∙ (λ i. all_floor (states i) (marks i) h)
  where
    states : states_of n ≡ n
    states = omega (arith, limits.least, limits.most)

    marks : marks_of m ≡ m
    marks = omega (arith, limits.few)

    floor_grid : (rows columns width : ℕ) (column : ℕ → ℕ) (s c : ℕ) → grid xs rows columns width column s c ≡ 0
    floor_grid rows columns width column s c =
        let l : grid xs rows columns width column s c ≤ 0 = grid_within 0 xs (λ i. omega (arith, z i)) rows columns width column s c in omega arith
