-- A table of spans never reverses order if the levels that its spans are taken to ascend, which is a test that antt computes.
use Rattle.std.specs.Prelude.{◌≡◌, ℕ, ◌≤◌, Bool, true, false, cond, ◌&&◌, List, [], ◌∷◌, nat_le, refl}
use Rattle.std.proofs.Common.{arith}
use Rattle.std.proofs.lemmas.Bool.{leb-true, leb-false, and_parts}
use Rattle.grades.specs.Maps.{spans}

abbrev pub rising : (low : ℕ) → List (ℕ × ℕ) → (rest : ℕ) → Bool
rising low [] rest = nat_le low rest
rising low (span ∷ later) rest = nat_le low span.1 && rising span.1 later rest

spans_from : (low : ℕ) (table : List (ℕ × ℕ)) (rest : ℕ) → rising low table rest ≡ true → (q : ℕ) → low ≤ spans table rest q
spans_from low [] rest up q = leb-true low rest up
spans_from low (span ∷ later) rest up q =
    let parts = and_parts (nat_le low span.1) (rising span.1 later rest) up in
    let here : low ≤ span.1 = leb-true low span.1 parts.0 in
    let there : span.1 ≤ spans later rest q = spans_from span.1 later rest parts.1 q in
    elim (nat_le q span.0) as (λ v. low ≤ cond v span.1 (spans later rest q)) [ true ↦ here | false ↦ omega arith ]

pub spans_ordered : (low : ℕ) (table : List (ℕ × ℕ)) (rest : ℕ) → rising low table rest ≡ true → (p q : ℕ) → p ≤ q → spans table rest p ≤ spans table rest q
spans_ordered low [] rest up p q l = omega arith
spans_ordered low (span ∷ later) rest up p q l = by (nat_le p span.0) refl (nat_le q span.0) refl (spans_from span.1 later rest up_later q) (spans_ordered span.1 later rest up_later p q l)
  where
    up_later : rising span.1 later rest ≡ true
    up_later = (and_parts (nat_le low span.1) (rising span.1 later rest) up).1

    by : (v : Bool) → nat_le p span.0 ≡ v → (w : Bool) → nat_le q span.0 ≡ w → span.1 ≤ spans later rest q → spans later rest p ≤ spans later rest q →
        cond v span.1 (spans later rest p) ≤ cond w span.1 (spans later rest q)
    by true e true f above ordered = omega arith
    by true e false f above ordered = above
    by false e true f above ordered = absurd (omega (arith, leb-false p span.0 e, leb-true q span.0 f))
    by false e false f above ordered = ordered
