-- What a structure means: its size, and the level of each step and of each mark.
use Rattle.std.specs.Prelude.{◌≡◌, ℕ, ◌≤◌, cond, ◌⊎◌, ◌==◌}

pub record Tables : Type 0 where
  pub states : ℕ
  pub marks : ℕ
  -- the height of the scale that the levels are of
  pub height : ℕ
  -- from a state to a state
  pub step : ℕ → ℕ → ℕ
  -- in a state, of a mark
  pub mark : ℕ → ℕ → ℕ

-- 1 to 64 states, and at most 16 marks
pub record Limits (n m : ℕ) : Type 0 where
  pub least : 1 ≤ n
  pub most : n ≤ 64
  pub few : m ≤ 16

-- the sizes lie within the limits, the levels within the height h, and outside the numbers stands the floor
pub record Bounded (h : ℕ) (T : Tables) : Type 0 where
  pub tall : T.height ≡ h
  pub limits : Limits T.states T.marks
  pub steps_within : (s t : ℕ) → T.step s t ≤ h
  pub marks_within : (s k : ℕ) → T.mark s k ≤ h
  pub steps_outside : (s t : ℕ) → (T.states ≤ s) ⊎ (T.states ≤ t) → T.step s t ≡ 0
  pub marks_outside : (s k : ℕ) → (T.states ≤ s) ⊎ (T.marks ≤ k) → T.mark s k ≡ 0

-- n states and m marks, every step and mark at the floor
abbrev pub all_floor : (n m h : ℕ) → Tables
all_floor n m h = record { states = n; marks = m; height = h; step = λ s t. 0; mark = λ s k. 0 }

-- every level as f takes it, to a scale of height h
abbrev pub through : (ℕ → ℕ) → (h : ℕ) → Tables → Tables
through f h T = record {
  states = T.states;
  marks = T.marks;
  height = h;
  step = λ s t. f (T.step s t);
  mark = λ s k. f (T.mark s k);
}

-- the function with the value p at (a, b)
abbrev pub updated : (ℕ → ℕ → ℕ) → (a b p : ℕ) → ℕ → ℕ → ℕ
updated f a b p s t = cond (s == a) (cond (t == b) p (f s t)) (f s t)

-- the one step at the level p, and all else as it was
abbrev pub with_step : Tables → (from to p : ℕ) → Tables
with_step T from to p = record {
  states = T.states;
  marks = T.marks;
  height = T.height;
  step = updated T.step from to p;
  mark = T.mark;
}

-- the one mark at the level p, and all else as it was
abbrev pub with_mark : Tables → (state which p : ℕ) → Tables
with_mark T state which p = record {
  states = T.states;
  marks = T.marks;
  height = T.height;
  step = T.step;
  mark = updated T.mark state which p;
}
