-- The cells in the order of the file are the cells by their index.
use Rattle.std.proofs.Common.{◌≡◌, ℕ, zero, suc, ◌+◌, ◌-◌, ◌*◌, ◌/◌, ◌%◌, ◌<◌, ◌∷◌, ◌++◌, map, sym, refl, ap, ◌∙◌, ap₂, suc-mul, mul-add, arith, le-ltb, lt-ltb}
use lib.Arith.{digits_div, digits_mod}
use Rattle.std.specs.List.{range_with_len}
use Rattle.files.specs.declared.cell.Kind.{Kind}
use Rattle.files.specs.declared.cell.Kind.TheVariants.{Step, Mark}
use Rattle.files.specs.declared.cell.Cell.{Cell}
use Rattle.files.specs.Format.{cell, of_states, cells}
use Rattle.files.specs.Order.{cell_at, first_cells}

-- lists made from functions of the index are equal where the functions are
map-range_with_len_same : {X : Type 0} (f g : ℕ → X) (a b n : ℕ) → ((j : ℕ) → j < n → f (a + j) ≡ g (b + j)) → map f (range_with_len a n) ≡ map g (range_with_len b n)
map-range_with_len_same f g a b zero same = refl
map-range_with_len_same f g a b (suc n) same =
    let a0 : a + 0 ≡ a = omega arith in
    let b0 : b + 0 ≡ b = omega arith in
    ap₂ (λ x xs. x ∷ xs) (ap f (sym a0) ∙ same 0 (omega arith) ∙ ap g b0)
    (map-range_with_len_same f g (a + 1) (b + 1) n (λ j h.
    let aj : a + 1 + j ≡ a + suc j = omega arith in
    let bj : b + 1 + j ≡ b + suc j = omega arith in
    ap f aj ∙ same (suc j) (omega arith) ∙ ap g (sym bj)))

pub map-range_with_len-append : {X : Type 0} (f : ℕ → X) (a b n k : ℕ) → b ≡ a + n → map f (range_with_len a n) ++ map f (range_with_len b k) ≡ map f (range_with_len a (n + k))
map-range_with_len-append f a b zero k e =
    let start : b ≡ a = omega arith in
    let none : 0 + k ≡ k = omega arith in
    ap₂ (λ (x y : ℕ). map f (range_with_len x y)) start (sym none)
map-range_with_len-append f a b (suc n) k e =
    let more : suc n + k ≡ suc (n + k) = omega arith in
    ap (λ xs. f a ∷ xs) (map-range_with_len-append f (a + 1) b n k (omega arith)) ∙ ap (λ (y : ℕ). map f (range_with_len a y)) (sym more)

-- the cell at an index of states of so many cells each
abbrev in_states : Kind → (many : ℕ) → ℕ → Cell
in_states kind many i = cell kind (i / many) (i % many)

states_by_index : (kind : Kind) (state many states : ℕ) → of_states kind state many states ≡ map (in_states kind many) (range_with_len (state * many) (states * many))
states_by_index kind state many zero = let z : 0 * many ≡ 0 = omega arith in ap (λ (n : ℕ). map (in_states kind many) (range_with_len (state * many) n)) (sym z)
states_by_index kind state many (suc states) =
    let next : (state + 1) * many ≡ state * many + many = omega (arith, suc-mul state many) in
    let more : many + states * many ≡ suc states * many = omega (arith, suc-mul states many) in
    ap₂ (λ xs ys. xs ++ ys)
    (map-range_with_len_same (cell kind state) (in_states kind many) 0 (state * many) many (λ j h.
    let j0 : 0 + j ≡ j = omega arith in
    ap (cell kind state) j0 ∙ ap₂ (λ (a b : ℕ). cell kind a b) (sym (digits_div state h)) (sym (digits_mod state h))))
    (states_by_index kind (state + 1) many states)
    ∙ map-range_with_len-append (in_states kind many) (state * many) ((state + 1) * many) many (states * many) next
    ∙ ap (λ (n : ℕ). map (in_states kind many) (range_with_len (state * many) n)) more

pub cells_by_index : (n m : ℕ) → cells n m ≡ first_cells n m (n * (n + m))
cells_by_index n m =
    ap₂ (λ xs ys. xs ++ ys)
    (states_by_index Step 0 n n ∙ map-range_with_len_same (in_states Step n) (cell_at n m) (0 * n) 0 (n * n) (λ j h.
    let j0 : 0 * n + j ≡ j = omega arith in
    let j1 : 0 + j ≡ j = omega arith in
    ap (in_states Step n) j0 ∙ sym (ap (cell_at n m) j1 ∙ rw (lt-ltb j (n * n) h))))
    (states_by_index Mark 0 m n ∙ map-range_with_len_same (in_states Mark m) (cell_at n m) (0 * m) (n * n) (n * m) (λ j h.
    let j0 : 0 * m + j ≡ j = omega arith in
    let j1 : n * n + j - n * n ≡ j = omega arith in
    ap (in_states Mark m) j0 ∙ sym (rw (le-ltb (n * n + j) (n * n) (omega arith)) (ap (in_states Mark m) j1))))
    ∙ map-range_with_len-append (cell_at n m) 0 (n * n) (n * n) (n * m) (omega arith)
    ∙ ap (λ (k : ℕ). first_cells n m k) (sym (mul-add n n m))
