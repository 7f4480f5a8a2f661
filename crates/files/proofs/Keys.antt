-- The order of keys is total, and keys that tie are one.
use Rattle.std.proofs.Common.{◌≡◌, ◌<◌, true, ◌⊎◌, refl, ap, inl, inr, sym, arith}
use mathlib.Core.Bool.{false≢true}
use Rattle.std.specs.Cmp.{IsTotalOrder}
use Rattle.std.specs.Ordering.{ordering_then, nat_cmp, is_lt, ordering_index, MatchOrdering}
use Rattle.std.specs.declared.cmp.Ordering.{Ordering}
use Rattle.std.specs.declared.cmp.Ordering.TheVariants.{Less, Equal, Greater}
use Rattle.std.proofs.lemmas.Bool.Decides.{nat_tests}
use Rattle.std.proofs.lemmas.Cmp.{ranked, nat_cmp_total, on_total, then_total}
use Rattle.files.specs.Format.{Key, key_order}

pub key_total : IsTotalOrder key_order
key_total = then_total (then_total (on_total (λ (k : Key). k.0) nat_cmp_total) (on_total (λ (k : Key). k.1) nat_cmp_total)) (on_total (λ (k : Key). k.2) nat_cmp_total)

pub less_from_test : (o : Ordering) → is_lt o ≡ true → o ≡ Less
less_from_test Less e = refl
less_from_test Equal e = absurd (false≢true e)
less_from_test Greater e = absurd (false≢true e)

tied_parts : (a b : Ordering) → ordering_then a b ≡ Equal → (a ≡ Equal) × (b ≡ Equal)
tied_parts Less b e = absurd (omega (arith, ap ordering_index e))
tied_parts Equal b e = (refl, e)
tied_parts Greater b e = absurd (omega (arith, ap ordering_index e))

pub same_from_tied : (a b : Key) → key_order a b ≡ Equal → a ≡ b
same_from_tied a b e =
    let p = tied_parts _ _ e in
    let q = tied_parts _ _ p.0 in
    λ i. (ranked a.0 b.0 _ (sym q.0) i, ranked a.1 b.1 _ (sym q.1) i, ranked a.2 b.2 _ (sym p.1) i)

pub less_from_parts : (a b : Key) → (a.0 < b.0) ⊎ ((a.0 ≡ b.0) × ((a.1 < b.1) ⊎ ((a.1 ≡ b.1) × (a.2 < b.2)))) → key_order a b ≡ Less
less_from_parts a b (inl l) = grind (arith, nat_tests)
less_from_parts a b (inr (p, inl l)) = grind (arith, nat_tests)
less_from_parts a b (inr (p, inr (q, l))) = grind (arith, nat_tests)

-- and back
pub parts_from_less : (a b : Key) → key_order a b ≡ Less → (a.0 < b.0) ⊎ ((a.0 ≡ b.0) × ((a.1 < b.1) ⊎ ((a.1 ≡ b.1) × (a.2 < b.2))))
parts_from_less a b e = by (nat_cmp a.0 b.0) (nat_cmp a.1 b.1) (nat_cmp a.2 b.2) (ranked a.0 b.0 _ refl) (ranked a.1 b.1 _ refl) (ranked a.2 b.2 _ refl) e
  where
    by : (x y z : Ordering) → MatchOrdering x (a.0 < b.0) (a.0 ≡ b.0) (b.0 < a.0) → MatchOrdering y (a.1 < b.1) (a.1 ≡ b.1) (b.1 < a.1) → MatchOrdering z (a.2 < b.2) (a.2 ≡ b.2) (b.2 < a.2) →
        ordering_then (ordering_then x y) z ≡ Less → (a.0 < b.0) ⊎ ((a.0 ≡ b.0) × ((a.1 < b.1) ⊎ ((a.1 ≡ b.1) × (a.2 < b.2))))
    by Less y z p q r e = inl p
    by Equal Less z p q r e = inr (p, inl q)
    by Equal Equal Less p q r e = inr (p, inr (q, r))
    by Equal Equal Equal p q r e = absurd (omega (arith, ap ordering_index e))
    by Equal Equal Greater p q r e = absurd (omega (arith, ap ordering_index e))
    by Equal Greater z p q r e = absurd (omega (arith, ap ordering_index e))
    by Greater y z p q r e = absurd (omega (arith, ap ordering_index e))
