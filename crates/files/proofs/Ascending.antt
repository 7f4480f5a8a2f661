-- Records that ascend are known by which records they are.
use Rattle.std.proofs.Common.{◌≡◌, ◌⊎◌, List, [], ◌∷◌, map, sym, refl, ap, ◌∙◌, ap₂, inl, inr, arith}
use Rattle.std.specs.List.{Contains}
use Rattle.std.specs.Ordering.{ordering_index, ordering_reverse}
use Rattle.std.proofs.lemmas.Cmp.{tied_itself}
use Rattle.std.proofs.lemmas.List.Elements.{All-contains}
use Rattle.files.specs.declared.cell.Cell.{Cell}
use Rattle.files.specs.declared.cell.Record.{Record}
use Rattle.files.specs.Format.{key_order, cell_key, Before, Ascend}
use Rattle.files.proofs.Keys.{key_total}
use Rattle.files.proofs.Lookups.{Contains-cons_cases, Contains-head, Contains-cons}

before_apart : (a b : Cell) → Before a b → a ≡ b → ⊥
before_apart a b l e =
    let tied = sym (ap (λ (c : Cell). key_order (cell_key c) (cell_key b)) e) ∙ l in
    omega (arith, ap ordering_index (sym (tied_itself key_total (cell_key b)) ∙ tied))

before_once : (a b : Cell) → Before a b → Before b a → ⊥
before_once a b l m = omega (arith, ap ordering_index (sym l ∙ key_total.antisymm (cell_key a) (cell_key b) ∙ ap ordering_reverse m))

nothing_has : {X : Type 0} (x : X) → Contains {X = X} [] x → ⊥
nothing_has x has = omega (arith, has.1)

pub Ascend_same : (xs ys : List Record) → Ascend xs → Ascend ys → ((r : Record) → Contains xs r → Contains ys r) → ((r : Record) → Contains ys r → Contains xs r) → xs ≡ ys
Ascend_same [] [] ux uy there back = refl
Ascend_same [] (y ∷ ys) ux uy there back = absurd (nothing_has y (back y (Contains-head y ys)))
Ascend_same (x ∷ xs) [] ux uy there back = absurd (nothing_has x (there x (Contains-head x xs)))
Ascend_same (x ∷ xs) (y ∷ ys) ux uy there back =
    ap₂ (λ r rs. r ∷ rs) first (Ascend_same xs ys ux.1 uy.1 (λ r has. later r has) (λ r has. earlier r has))
  where
    after_x : (r : Record) → Contains xs r → Before x.cell r.cell
    after_x r has = All-contains (λ later. Before x.cell later.cell) xs r ux.0 has

    after_y : (r : Record) → Contains ys r → Before y.cell r.cell
    after_y r has = All-contains (λ later. Before y.cell later.cell) ys r uy.0 has

    first : x ≡ y
    first = by (Contains-cons_cases y ys x (there x (Contains-head x xs))) (Contains-cons_cases x xs y (back y (Contains-head y ys)))
      where
        by : (y ≡ x) ⊎ Contains ys x → (x ≡ y) ⊎ Contains xs y → x ≡ y
        by (inl e) q = sym e
        by (inr p) (inl e) = e
        by (inr p) (inr q) = absurd (before_once y.cell x.cell (after_y x p) (after_x y q))

    later : (r : Record) → Contains xs r → Contains ys r
    later r has = by (Contains-cons_cases y ys r (there r (Contains-cons x xs r has)))
      where
        by : (y ≡ r) ⊎ Contains ys r → Contains ys r
        by (inl e) = absurd (before_apart x.cell r.cell (after_x r has) (ap (λ (s : Record). s.cell) (first ∙ e)))
        by (inr p) = p

    earlier : (r : Record) → Contains ys r → Contains xs r
    earlier r has = by (Contains-cons_cases x xs r (back r (Contains-cons y ys r has)))
      where
        by : (x ≡ r) ⊎ Contains xs r → Contains xs r
        by (inl e) = absurd (before_apart y.cell r.cell (after_y r has) (ap (λ (s : Record). s.cell) (sym first ∙ e)))
        by (inr p) = p

pub Contains-map_back : {X Y : Type 0} (f : X → Y) (xs : List X) (y : Y) → Contains (map f xs) y → (x : X) × Contains xs x × (f x ≡ y)
Contains-map_back f [] y has = absurd (nothing_has y has)
Contains-map_back f (x ∷ xs) y has = by (Contains-cons_cases (f x) (map f xs) y has) (Contains-map_back f xs y)
  where
    by : (f x ≡ y) ⊎ Contains (map f xs) y → (Contains (map f xs) y → (z : _) × Contains xs z × (f z ≡ y)) → (z : _) × Contains (x ∷ xs) z × (f z ≡ y)
    by (inl e) later = (x, Contains-head x xs, e)
    by (inr h) later = let z = later h in (z.0, Contains-cons x xs z.0 z.1, z.2)
