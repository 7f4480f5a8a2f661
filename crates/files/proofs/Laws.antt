-- The records of tables ascend, and there is one for exactly the cells above the floor.
use Rattle.std.proofs.Common.{◌≡◌, ℕ, zero, suc, ◌+◌, ◌<◌, ◌≤◌, Bool, true, false, cond, ◌⊎◌, List, [], ◌∷◌, ◌++◌, map, length, get_or, filter, sym, refl, ap, ◌∙◌, subst, inl, inr, arith, ltb-true, lt-ltb}
use lib.ListN.{length-map}
use Rattle.std.specs.List.{range_with_len, Contains, All}
use Rattle.std.proofs.lemmas.Bool.{cases_lt}
use Rattle.std.proofs.lemmas.List.{get_or-map}
use Rattle.std.proofs.lemmas.List.FromFn.{get_or-map-range_with_len, length-map-range_with_len}
use Rattle.std.proofs.lemmas.List.Elements.{All-nil, All-cons, All-append, All-weaker, All-map, All-filter, All-head, All-tail, filter_passes, Contains-append_left, Contains-append_right}
use Rattle.grades.specs.declared.scale.Scale as scale
use Rattle.files.specs.declared.cell.Kind.{Kind}
use Rattle.files.specs.declared.cell.Kind.TheVariants.{Step, Mark}
use Rattle.files.specs.declared.cell.Cell.{Cell}
use Rattle.files.specs.Format.{cell, of_state, of_states, cells, level_by, level_at, above_floor, record_of, kind_byte, cell_key, Before, Ascend, Records, table_records}
use Rattle.files.proofs.Keys.{less_from_parts}
use Rattle.files.proofs.Sound.{limit}
use Rattle.sheets.specs.Tables.{Tables, Bounded}

-- ---- lists of cells that ascend

abbrev Up : List Cell → Type 0
Up [] = Unit {0}
Up (c ∷ cs) = All (Before c) cs × Up cs

Up-append : (xs ys : List Cell) → Up xs → Up ys → All (λ x. All (Before x) ys) xs → Up (xs ++ ys)
Up-append [] ys ux uy across = uy
Up-append (x ∷ xs) ys ux uy across =
    (All-append (Before x) xs ys ux.0 (All-head (λ x. All (Before x) ys) x xs across), Up-append xs ys ux.1 uy (All-tail (λ x. All (Before x) ys) x xs across))

up_kept : (p : Cell → Bool) (xs : List Cell) → Up xs → Up (filter p xs)
up_kept p [] u = tt
up_kept p (x ∷ xs) u = by (p x) (All-filter p (Before x) xs u.0) (up_kept p xs u.1)
  where
    by : (b : Bool) → All (Before x) (filter p xs) → Up (filter p xs) → Up (cond b (x ∷ filter p xs) (filter p xs))
    by true a v = (a, v)
    by false a v = v

up_records : {S : Type 0} (s : scale.Ghosts S) (T : Tables) (xs : List Cell) → Up xs → Ascend (map (record_of s T) xs)
up_records s T [] u = tt
up_records s T (x ∷ xs) u = (All-map (λ later. Before x later.cell) (record_of s T) xs u.0, up_records s T xs u.1)

-- ---- the cells of a state, and of states

before : (a b : Cell) → (kind_byte a.kind < kind_byte b.kind) ⊎ ((a.kind ≡ b.kind) × ((a.first < b.first) ⊎ ((a.first ≡ b.first) × (a.second < b.second)))) → Before a b
before a b (inl l) = less_from_parts (cell_key a) (cell_key b) (inl l)
before a b (inr (k, l)) = less_from_parts (cell_key a) (cell_key b) (inr (ap kind_byte k, l))

-- of this kind and state, and from this number on
abbrev OfState : Kind → (state low : ℕ) → Cell → Type 0
OfState kind state low c = (c.kind ≡ kind) × (c.first ≡ state) × (low ≤ c.second)

state_all : (kind : Kind) (state a many : ℕ) → All (OfState kind state a) (map (cell kind state) (range_with_len a many))
state_all kind state a zero = All-nil (OfState kind state a)
state_all kind state a (suc many) =
    All-cons (OfState kind state a) _ _ (refl, refl, omega arith)
    (All-weaker (OfState kind state (a + 1)) (OfState kind state a) (λ c o. (o.0, o.1, omega (arith, o.2))) (map (cell kind state) (range_with_len (a + 1) many)) (state_all kind state (a + 1) many))

state_up : (kind : Kind) (state a many : ℕ) → Up (map (cell kind state) (range_with_len a many))
state_up kind state a zero = tt
state_up kind state a (suc many) = (
  All-weaker (OfState kind state (a + 1)) (Before (cell kind state a)) (λ c o. before (cell kind state a) c (inr (sym o.0, inr (sym o.1, omega (arith, o.2))))) (map (cell kind state) (range_with_len (a + 1) many)) (state_all kind state (a + 1) many),
  state_up kind state (a + 1) many,
)

-- of this kind, and from this state on
abbrev FromState : Kind → (low : ℕ) → Cell → Type 0
FromState kind low c = (c.kind ≡ kind) × (low ≤ c.first)

states_all : (kind : Kind) (state many states : ℕ) → All (FromState kind state) (of_states kind state many states)
states_all kind state many zero = All-nil (FromState kind state)
states_all kind state many (suc states) =
    All-append (FromState kind state) (of_state kind state many) (of_states kind (state + 1) many states)
    (All-weaker (OfState kind state 0) (FromState kind state) (λ c o. (o.0, omega (arith, o.1))) (of_state kind state many) (state_all kind state 0 many))
    (All-weaker (FromState kind (state + 1)) (FromState kind state) (λ c o. (o.0, omega (arith, o.1))) (of_states kind (state + 1) many states) (states_all kind (state + 1) many states))

states_up : (kind : Kind) (state many states : ℕ) → Up (of_states kind state many states)
states_up kind state many zero = tt
states_up kind state many (suc states) =
    Up-append (of_state kind state many) (of_states kind (state + 1) many states) (state_up kind state 0 many) (states_up kind (state + 1) many states)
    (All-weaker (OfState kind state 0) (λ x. All (Before x) (of_states kind (state + 1) many states)) across (of_state kind state many) (state_all kind state 0 many))
  where
    across : (x : Cell) → OfState kind state 0 x → All (Before x) (of_states kind (state + 1) many states)
    across x o =
        All-weaker (FromState kind (state + 1)) (Before x) (λ c f. before x c (inr (o.0 ∙ sym f.0, inl (omega (arith, o.1, f.1))))) (of_states kind (state + 1) many states) (states_all kind (state + 1) many states)

cells_up : (n m : ℕ) → Up (cells n m)
cells_up n m =
    Up-append (of_states Step 0 n n) (of_states Mark 0 m n) (states_up Step 0 n n) (states_up Mark 0 m n)
    (All-weaker (FromState Step 0) (λ x. All (Before x) (of_states Mark 0 m n)) across (of_states Step 0 n n) (states_all Step 0 n n))
  where
    across : (x : Cell) → FromState Step 0 x → All (Before x) (of_states Mark 0 m n)
    across x o =
        All-weaker (FromState Mark 0) (Before x) (λ c f. before x c (inl (omega (arith, ap kind_byte o.0, ap kind_byte f.0)))) (of_states Mark 0 m n) (states_all Mark 0 m n)

-- ---- what a list has

Contains-kept : {X : Type 0} (p : X → Bool) (xs : List X) (x : X) (k : ℕ) → k < length xs → get_or xs k x ≡ x → p x ≡ true → Contains (filter p xs) x
Contains-kept p [] x k h e px = absurd (omega arith)
Contains-kept p (y ∷ ys) x zero h e px = rw (ap p e ∙ px) (0, omega arith, e)
Contains-kept p (y ∷ ys) x (suc k) h e px = by (p y) (Contains-kept p ys x k (omega arith) e px)
  where
    by : (b : Bool) → Contains (filter p ys) x → Contains (cond b (y ∷ filter p ys) (filter p ys)) x
    by true found = (suc found.0, omega (arith, found.1), found.2)
    by false found = found

pub Contains-map : {X Y : Type 0} (f : X → Y) (xs : List X) (x : X) → Contains xs x → Contains (map f xs) (f x)
Contains-map f xs x found = (found.0, rw length-map found.1, get_or-map f xs found.0 x (f x) found.1 ∙ ap f found.2)

has_state : (kind : Kind) (state second many : ℕ) → second < many → Contains (of_state kind state many) (cell kind state second)
has_state kind state second many h =
    (second, rw (length-map-range_with_len (cell kind state) 0 many) h, get_or-map-range_with_len (cell kind state) 0 many second second _ h (omega arith))

has_states : (kind : Kind) (state many states first second : ℕ) → state ≤ first → first < state + states → second < many → Contains (of_states kind state many states) (cell kind first second)
has_states kind state many zero first second low high h = absurd (omega arith)
has_states kind state many (suc states) first second low high h = by (cases_lt state first) (λ l. has_states kind (state + 1) many states first second (omega arith) (omega arith) h)
  where
    by : (state < first) ⊎ (first ≤ state) → (state < first → Contains (of_states kind (state + 1) many states) (cell kind first second)) → Contains (of_state kind state many ++ of_states kind (state + 1) many states) (cell kind first second)
    by (inl l) later = Contains-append_right (of_state kind state many) (of_states kind (state + 1) many states) (cell kind first second) (later l)
    by (inr l) later =
        let same : state ≡ first = omega arith in
        Contains-append_left (of_state kind state many) (of_states kind (state + 1) many states) (cell kind first second) (subst (λ (f : ℕ). Contains (of_state kind state many) (cell kind f second)) same (has_state kind state second many h))

-- ---- records of tables within the limits

module _ (h : ℕ) (T : Tables) (bounded : Bounded h T) where
  -- a cell above the floor is inside the numbers
  pub in_numbers : (kind : Kind) (first second : ℕ) → 0 < level_by T kind first second → (first < T.states) × (second < limit T.states T.marks kind)
  in_numbers kind first second above = both kind above
    where
      below : (a n p : ℕ) → 0 < p → (n ≤ a → p ≡ 0) → a < n
      below a n p up out = by (cases_lt a n)
        where
          by : (a < n) ⊎ (n ≤ a) → a < n
          by (inl l) = l
          by (inr l) = absurd (omega (arith, out l))

      both : (kind : Kind) → 0 < level_by T kind first second → (first < T.states) × (second < limit T.states T.marks kind)
      both Step up = (below first _ _ up (λ l. bounded.steps_outside first second (inl l)), below second _ _ up (λ l. bounded.steps_outside first second (inr l)))
      both Mark up = (below first _ _ up (λ l. bounded.marks_outside first second (inl l)), below second _ _ up (λ l. bounded.marks_outside first second (inr l)))

  pub has_cell : (kind : Kind) (first second : ℕ) → 0 < level_by T kind first second → Contains (cells T.states T.marks) (cell kind first second)
  has_cell Step from to above =
      let inside = in_numbers Step from to above in
      Contains-append_left (of_states Step 0 T.states T.states) (of_states Mark 0 T.marks T.states) (cell Step from to) (has_states Step 0 T.states T.states from to (omega arith) (omega (arith, inside.0)) inside.1)
  has_cell Mark state which above =
      let inside = in_numbers Mark state which above in
      Contains-append_right (of_states Step 0 T.states T.states) (of_states Mark 0 T.marks T.states) (cell Mark state which) (has_states Mark 0 T.marks T.states state which (omega arith) (omega (arith, inside.0)) inside.1)

  pub records_are : {S : Type 0} (s : scale.Ghosts S) → Records s T (table_records s T)
  records_are s =
      let cs = cells T.states T.marks in
      record {
        ascend = up_records s T (filter (above_floor T) cs) (up_kept (above_floor T) cs (cells_up T.states T.marks));
        above = All-map (λ r. (0 < level_at T r.cell) × (r.code ≡ s.code (level_at T r.cell))) (record_of s T) (filter (above_floor T) cs)
            (All-weaker (λ c. above_floor T c ≡ true) (λ c. (0 < level_at T c) × (s.code (level_at T c) ≡ s.code (level_at T c))) (λ c e. (ltb-true 0 (level_at T c) e, refl)) (filter (above_floor T) cs) (filter_passes (above_floor T) cs));
        every = λ c above. let f = has_cell c.kind c.first c.second above in
            Contains-map (record_of s T) (filter (above_floor T) cs) c (Contains-kept (above_floor T) cs c f.0 f.1 f.2 (lt-ltb 0 (level_at T c) above));
      }
