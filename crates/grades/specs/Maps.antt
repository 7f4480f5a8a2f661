-- What the maps mean: the level that each level is taken to.
use Rattle.std.specs.Prelude.{ℕ, cond, List, [], ◌∷◌, nat_le, nat_lt}

-- each pair is a span of levels, by its last, with the level that the span is taken to; what lies after the last span is taken to `rest`
abbrev pub spans : List (ℕ × ℕ) → (rest : ℕ) → ℕ → ℕ
spans [] rest p = rest
spans (span ∷ later) rest p = cond (nat_le p span.0) span.1 (spans later rest p)

-- never, hardly, seldom, even, often, mostly, and sure for the rest
abbrev pub word_spans : List (ℕ × ℕ)
word_spans = (0, 0) ∷ ((1, 100) ∷ ((2, 300) ∷ ((3, 500) ∷ ((4, 700) ∷ ((5, 900) ∷ [])))))

abbrev pub words_to_thousandths : ℕ → ℕ
words_to_thousandths = spans word_spans 1000

-- never at 0, hardly to 199, seldom to 399, even to 600, often to 800, mostly to 999, and sure for the rest
abbrev pub thousandth_spans : List (ℕ × ℕ)
thousandth_spans = (0, 0) ∷ ((199, 1) ∷ ((399, 2) ∷ ((600, 3) ∷ ((800, 4) ∷ ((999, 5) ∷ [])))))

abbrev pub thousandths_to_words : ℕ → ℕ
thousandths_to_words = spans thousandth_spans 6

-- yes at levels above the floor that are at least the cut's, no at the rest
abbrev pub cut_at : ℕ → ℕ → ℕ
cut_at cut p = cond (nat_lt 0 p) (cond (nat_le cut p) 1 0) 0
