-- Halving: that it does not hang on how many turns it has, and where it comes to rest.
use Rattle.std.proofs.Common.{◌≡◌, ℕ, zero, suc, ◌+◌, ◌-◌, ◌<◌, ◌≤◌, Bool, true, false, cond, ltb, ◌⊎◌, sym, refl, ap, ◌∙◌, inl, inr, arith, ltb-false, ltb-true, le-ltb, lt-ltb}
use Rattle.std.proofs.lemmas.Bool.{cases_lt, cond-true, cond-false}
use Rattle.files.specs.Search.{middle, halved}

-- nothing is left to halve
rests : (test : ℕ → Bool) (turns low high : ℕ) → high ≤ low → halved test turns low high ≡ low
rests test zero low high h = refl
rests test (suc turns) low high h = rw (le-ltb low high h)

-- more turns than are left make no difference
pub turns_enough : (test : ℕ → Bool) (a b low high : ℕ) → high - low ≤ a → high - low ≤ b → halved test a low high ≡ halved test b low high
turns_enough test zero b low high ha hb = sym (rests test b low high (omega arith))
turns_enough test (suc a) zero low high ha hb = rests test (suc a) low high (omega arith)
turns_enough test (suc a) (suc b) low high ha hb = by (ltb low high) refl (turns_enough test a b)
  where
    inner : (t : Bool) → low < high → ((low high : ℕ) → high - low ≤ a → high - low ≤ b → halved test a low high ≡ halved test b low high) →
        cond t (halved test a (middle low high + 1) high) (halved test a low (middle low high)) ≡ cond t (halved test b (middle low high + 1) high) (halved test b low (middle low high))
    inner true l fewer = fewer (middle low high + 1) high (omega arith) (omega arith)
    inner false l fewer = fewer low (middle low high) (omega arith) (omega arith)

    by : (s : Bool) → ltb low high ≡ s → ((low high : ℕ) → high - low ≤ a → high - low ≤ b → halved test a low high ≡ halved test b low high) →
        cond s (cond (test (middle low high)) (halved test a (middle low high + 1) high) (halved test a low (middle low high))) low
        ≡ cond s (cond (test (middle low high)) (halved test b (middle low high + 1) high) (halved test b low (middle low high))) low
    by true e fewer = inner (test (middle low high)) (ltb-true low high e) fewer
    by false e fewer = refl

module _ (test : ℕ → Bool) (low high : ℕ) (l : low < high) where
  one_turn : (turns : ℕ) → halved test (suc turns) low high ≡ cond (test (middle low high)) (halved test turns (middle low high + 1) high) (halved test turns low (middle low high))
  one_turn turns = rw (lt-ltb low high l)

  left : high - low ≡ suc (high - low - 1)
  left = omega arith

  pub goes_up : test (middle low high) ≡ true → halved test (high - low) low high ≡ halved test (high - (middle low high + 1)) (middle low high + 1) high
  goes_up t =
      ap (λ (k : ℕ). halved test k low high) left ∙ one_turn (high - low - 1) ∙ cond-true (test (middle low high)) _ _ t
      ∙ turns_enough test (high - low - 1) (high - (middle low high + 1)) (middle low high + 1) high (omega arith) (omega arith)

  pub goes_down : test (middle low high) ≡ false → halved test (high - low) low high ≡ halved test (middle low high - low) low (middle low high)
  goes_down t =
      ap (λ (k : ℕ). halved test k low high) left ∙ one_turn (high - low - 1) ∙ cond-false (test (middle low high)) _ _ t
      ∙ turns_enough test (high - low - 1) (middle low high - low) low (middle low high) (omega arith) (omega arith)

-- a test that holds up to some index, and from there on no more, comes to rest there
pub record Rest (test : ℕ → Bool) (low high r : ℕ) : Type 0 where
  pub least : low ≤ r
  pub most : r ≤ high
  pub holds : (i : ℕ) → low ≤ i → i < r → test i ≡ true
  pub fails : (i : ℕ) → r ≤ i → i < high → test i ≡ false

module _ (test : ℕ → Bool) (end : ℕ) (down : (i j : ℕ) → i ≤ j → j < end → test j ≡ true → test i ≡ true) where
  up : (i j : ℕ) → i ≤ j → j < end → test i ≡ false → test j ≡ false
  up i j h l f = by (test j) refl
    where
      by : (t : Bool) → test j ≡ t → test j ≡ false
      by true e = let z : ◌≡◌ {A = Bool} true false = sym (down i j h l e) ∙ f in let y : ◌≡◌ {A = ℕ} 0 1 = cc in absurd (omega arith)
      by false e = e

  pub comes_to_rest : (turns low high : ℕ) → high - low ≤ turns → low ≤ high → high ≤ end → Rest test low high (halved test turns low high)
  comes_to_rest zero low high ht h he = record {
    least = omega arith;
    most = h;
    holds = λ i p q. absurd (omega arith);
    fails = λ i p q. absurd (omega arith);
  }
  comes_to_rest (suc turns) low high ht h he = by (ltb low high) refl (comes_to_rest turns)
    where
      above : test (middle low high) ≡ true → low < high → Rest test (middle low high + 1) high (halved test turns (middle low high + 1) high) → Rest test low high (halved test turns (middle low high + 1) high)
      above e l later = record {
        least = omega (arith, later.least);
        most = later.most;
        holds = λ i p q. first i q (cases_lt i (middle low high + 1));
        fails = later.fails;
      }
        where
          first : (i : ℕ) → i < halved test turns (middle low high + 1) high → (i < middle low high + 1) ⊎ (middle low high + 1 ≤ i) → test i ≡ true
          first i q (inl p) = down i (middle low high) (omega arith) (omega arith) e
          first i q (inr p) = later.holds i p q

      below : test (middle low high) ≡ false → low < high → Rest test low (middle low high) (halved test turns low (middle low high)) → Rest test low high (halved test turns low (middle low high))
      below e l earlier = record {
        least = earlier.least;
        most = omega (arith, earlier.most);
        holds = earlier.holds;
        fails = λ i p q. last i p q (cases_lt i (middle low high));
      }
        where
          last : (i : ℕ) → halved test turns low (middle low high) ≤ i → i < high → (i < middle low high) ⊎ (middle low high ≤ i) → test i ≡ false
          last i p q (inl r) = earlier.fails i p r
          last i p q (inr r) = up (middle low high) i r (omega arith) e

      inner : (t : Bool) → test (middle low high) ≡ t → low < high → ((low high : ℕ) → high - low ≤ turns → low ≤ high → high ≤ end → Rest test low high (halved test turns low high)) →
          Rest test low high (cond t (halved test turns (middle low high + 1) high) (halved test turns low (middle low high)))
      inner true e l fewer = above e l (fewer (middle low high + 1) high (omega arith) (omega arith) he)
      inner false e l fewer = below e l (fewer low (middle low high) (omega arith) (omega arith) (omega arith))

      by : (s : Bool) → ltb low high ≡ s → ((low high : ℕ) → high - low ≤ turns → low ≤ high → high ≤ end → Rest test low high (halved test turns low high)) →
          Rest test low high (cond s (cond (test (middle low high)) (halved test turns (middle low high + 1) high) (halved test turns low (middle low high))) low)
      by true e fewer = inner (test (middle low high)) refl (ltb-true low high e) fewer
      by false e fewer = let same : high ≤ low = ltb-false low high e in record {
        least = omega arith;
        most = h;
        holds = λ i p q. absurd (omega arith);
        fails = λ i p q. absurd (omega arith);
      }
