-- In records that pass their checks, halving finds what is recorded.
use Rattle.std.proofs.Common.{◌≡◌, ℕ, zero, suc, ◌+◌, ◌/◌, ◌<◌, ◌≤◌, true, false, cond, ◌⊎◌, List, [], ◌∷◌, length, get_or, drop, Some, None, Option, sym, refl, ap, ◌∙◌, inl, inr, arith}
use mathlib.Core.Bool.{false≢true}
use Rattle.std.specs.List.{Contains, All}
use Rattle.std.specs.List.Sorted.{IsSortedBy}
use Rattle.std.specs.Simd.{first_chunks}
use Rattle.std.specs.Ordering.{is_lt, is_eq, ordering_index, ordering_reverse}
use Rattle.std.specs.declared.cmp.Ordering.{Ordering}
use Rattle.std.specs.declared.cmp.Ordering.TheVariants.{Less, Equal, Greater}
use Rattle.std.proofs.lemmas.Bool.{cases_lt}
use Rattle.std.proofs.lemmas.Cmp.{tied_itself}
use Rattle.std.proofs.lemmas.List.{get_or_default, length-drop}
use Rattle.std.proofs.lemmas.List.Elements.{All-nil, All-cons, All-contains, All-weaker}
use Rattle.std.proofs.lemmas.Option.{none-some, slice_get-get_or, slice_get_past}
use Rattle.std.proofs.lemmas.List.Sorted.{searchable_from_sorted}
use Rattle.grades.specs.declared.scale.Scale as scale
use Rattle.files.specs.declared.entry.Entry.{Entry}
use Rattle.files.specs.Checks.{file_fault}
use Rattle.files.specs.Entries.{two_bytes, states, marks, count, raw_records, entry_of, entries_from, entries, key}
use Rattle.files.specs.Format.{Key, key_order}
use Rattle.files.specs.Recorded.{code_of}
use Rattle.files.specs.Search.{whole_records, raw_key, is_before, partition_point, found}
use Rattle.files.proofs.Halving.{Rest, comes_to_rest}
use Rattle.files.proofs.Keys.{key_total, less_from_test, same_from_tied}
use Rattle.files.proofs.Sound.{Sound, faultless}

-- ---- what a list has

pub Contains-cons_cases : {X : Type 0} (x : X) (xs : List X) (y : X) → Contains (x ∷ xs) y → (x ≡ y) ⊎ Contains xs y
Contains-cons_cases x xs y (zero, h, at) = inl at
Contains-cons_cases x xs y (suc k, h, at) = inr (k, omega arith, at)

pub Contains-head : {X : Type 0} (x : X) (xs : List X) → Contains (x ∷ xs) x
Contains-head x xs = (0, omega arith, refl)

pub Contains-cons : {X : Type 0} (x : X) (xs : List X) (y : X) → Contains xs y → Contains (x ∷ xs) y
Contains-cons x xs y found = (suc found.0, omega (arith, found.1), found.2)

-- ---- the first record of a key

pub code_found : (es : List Entry) (wanted : Key) (c : ℕ) → code_of es wanted ≡ Some c → (e : Entry) × Contains es e × (key e ≡ wanted) × (e.code ≡ c)
code_found [] wanted c none = absurd (none-some c none)
code_found (e ∷ es) wanted c is = by (key_order (key e) wanted) refl is (code_found es wanted c)
  where
    later : (code_of es wanted ≡ Some c → (f : Entry) × Contains es f × (key f ≡ wanted) × (f.code ≡ c)) → code_of es wanted ≡ Some c → (f : Entry) × Contains (e ∷ es) f × (key f ≡ wanted) × (f.code ≡ c)
    later rest here = let f = rest here in (f.0, Contains-cons e es f.0 f.1, f.2, f.3)

    by : (o : Ordering) → key_order (key e) wanted ≡ o → cond (is_eq o) (Some e.code) (code_of es wanted) ≡ Some c →
        (code_of es wanted ≡ Some c → (f : Entry) × Contains es f × (key f ≡ wanted) × (f.code ≡ c)) → (f : Entry) × Contains (e ∷ es) f × (key f ≡ wanted) × (f.code ≡ c)
    by Less same here rest = later rest here
    by Equal same here rest = (e, Contains-head e es, same_from_tied (key e) wanted same, cc)
    by Greater same here rest = later rest here

module _ {S : Type 0} (s : scale.Ghosts S) (n m : ℕ) where
  -- each record comes before all that follow it
  pub all_after : (b : Entry) (es : List Entry) → Sound s n m (Some b) es → All (λ e. key_order (key b) (key e) ≡ Less) es
  all_after b [] x = All-nil _
  all_after b (e ∷ es) x =
      let next = less_from_test _ x.1 in
      All-cons (λ f. key_order (key b) (key f) ≡ Less) e es next
      (All-weaker (λ f. key_order (key e) (key f) ≡ Less) (λ f. key_order (key b) (key f) ≡ Less) (λ f later. key_total.trans (key b) (key e) (key f) next later) es (all_after e es x.2))

  pub code_had : (before : Option Entry) (es : List Entry) (e : Entry) → Sound s n m before es → Contains es e → code_of es (key e) ≡ Some e.code
  code_had before [] e x has = absurd (omega (arith, has.1))
  code_had before (f ∷ es) e x has = by (Contains-cons_cases f es e has) (code_had (Some f) es e x.2)
    where
      by : (f ≡ e) ⊎ Contains es e → (Contains es e → code_of es (key e) ≡ Some e.code) → code_of (f ∷ es) (key e) ≡ Some e.code
      by (inl same) later = rw (ap (λ (k : Entry). key_order (key k) (key e)) same ∙ tied_itself key_total (key e)) (ap (λ (y : Entry). Some y.code) same)
      by (inr has) later = rw (All-contains (λ y. key_order (key f) (key y) ≡ Less) es e (all_after f es x.2) has) (later has)

-- ---- a binary search

-- a raw record is among the records by its index
has_raw : (i : ℕ) (raws : List (List ℕ)) (k : ℕ) (d : List ℕ) (j : ℕ) → k < length raws → i + k ≡ j → Contains (entries_from i raws) (entry_of j (get_or raws k d))
has_raw i [] k d j h e = absurd (omega arith)
has_raw i (raw ∷ raws) zero d j h e = let same : i ≡ j = omega arith in (0, omega arith, ap (λ (x : ℕ). entry_of x raw) same)
has_raw i (raw ∷ raws) (suc k) d j h e = Contains-cons _ _ _ (has_raw (i + 1) raws k d j (omega arith) (omega arith))

none_has : (wanted : Key) (i : ℕ) (raws : List (List ℕ)) → All (λ raw. is_eq (key_order (raw_key raw) wanted) ≡ false) raws → code_of (entries_from i raws) wanted ≡ None
none_has wanted i [] all = refl
none_has wanted i (raw ∷ raws) all = rw (all 0 raw (omega arith)) (none_has wanted (i + 1) raws (λ k d h. all (suc k) d (omega arith)))

module _ {S : Type 0} (s : scale.Ghosts S) (n m : ℕ) where
  rising : (before : Option Entry) (i : ℕ) (raws : List (List ℕ)) → Sound s n m before (entries_from i raws) → IsSortedBy (λ a b. is_lt (key_order (raw_key a) (raw_key b))) raws
  rising before i [] x k d l h = absurd (omega arith)
  rising before i (raw ∷ []) x k d l h = absurd (omega arith)
  rising before i (raw ∷ (next ∷ raws)) x zero d l h =
      ap is_lt (key_total.antisymm (raw_key next) (raw_key raw) ∙ ap ordering_reverse (less_from_test _ x.2.1))
  rising before i (raw ∷ (next ∷ raws)) x (suc k) d l h =
      let more : suc k + 1 ≡ suc (k + 1) = omega arith in
      rw more (rising (Some (entry_of i raw)) (i + 1) (next ∷ raws) x.2 k d (omega arith) (omega arith))

-- ---- what halving finds

before_from_index : (o : Ordering) → ordering_index o ≤ 0 → is_lt o ≡ true
before_from_index Less h = refl
before_from_index Equal h = absurd (omega (arith, h))
before_from_index Greater h = absurd (omega (arith, h))

apart_before : (o : Ordering) → is_lt o ≡ true → is_eq o ≡ false
apart_before o e = ap is_eq (less_from_test o e)

apart_after : (o : Ordering) → 2 ≤ ordering_index o → is_eq o ≡ false
apart_after Less h = refl
apart_after Equal h = absurd (omega (arith, h))
apart_after Greater h = refl

module _ {S : Type 0} (s : scale.Ghosts S) (n m : ℕ) (raws : List (List ℕ)) (sound : Sound s n m None (entries_from 0 raws)) (wanted : Key) where
  abbrev order : (index : ℕ) → Ordering
  order index = key_order (raw_key (get_or raws index [])) wanted

  nearing : (i j : ℕ) → i ≤ j → j < length raws → ordering_index (order i) ≤ ordering_index (order j)
  nearing i j le l = searchable_from_sorted key_total raw_key raws wanted (rising s n m None 0 raws sound) i j [] le l

  down : (i j : ℕ) → i ≤ j → j < length raws → is_before raws wanted j ≡ true → is_before raws wanted i ≡ true
  down i j le l t = before_from_index (order i) (omega (arith, nearing i j le l, ap ordering_index (less_from_test (order j) t)))

  rest : Rest (is_before raws wanted) 0 (length raws) (partition_point raws wanted)
  rest = comes_to_rest (is_before raws wanted) (length raws) down (length raws) 0 (length raws) (omega arith) (omega arith) (omega arith)

  -- none before the point of rest has the key
  before_point : (j : ℕ) → j < partition_point raws wanted → is_eq (order j) ≡ false
  before_point j l = apart_before (order j) (rest.holds j (omega arith) l)

  -- and none at all, where none has it from there on
  found_nowhere : ((j : ℕ) → partition_point raws wanted ≤ j → j < length raws → is_eq (order j) ≡ false) → code_of (entries_from 0 raws) wanted ≡ None
  found_nowhere after = none_has wanted 0 raws (λ j d h. rw (get_or_default raws j d [] h) (by j h (cases_lt j (partition_point raws wanted))))
    where
      by : (j : ℕ) → j < length raws → (j < partition_point raws wanted) ⊎ (partition_point raws wanted ≤ j) → is_eq (order j) ≡ false
      by j h (inl l) = before_point j l
      by j h (inr l) = after j l h

  found_at : (k : ℕ) → k < length raws → order k ≡ Equal → code_of (entries_from 0 raws) wanted ≡ Some (two_bytes (get_or raws k []) 3)
  found_at k h tied =
      ap (code_of (entries_from 0 raws)) (sym (same_from_tied _ _ tied))
      ∙ code_had s n m None (entries_from 0 raws) (entry_of k (get_or raws k [])) sound (has_raw 0 raws k [] k h (omega arith))

  -- what is found by halving is what is recorded
  pub finds : found raws wanted ≡ code_of (entries_from 0 raws) wanted
  finds = by (cases_lt (partition_point raws wanted) (length raws))
    where
      here : (o : Ordering) → order (partition_point raws wanted) ≡ o → partition_point raws wanted < length raws → cond (is_eq o) (Some (two_bytes (get_or raws (partition_point raws wanted) []) 3)) None ≡ code_of (entries_from 0 raws) wanted
      here Less e l = absurd (false≢true (sym (rest.fails (partition_point raws wanted) (omega arith) l) ∙ ap is_lt e))
      here Equal e l = sym (found_at (partition_point raws wanted) l e)
      here Greater e l = sym (found_nowhere (λ j le h. apart_after (order j) (omega (arith, nearing (partition_point raws wanted) j le h, ap ordering_index e))))

      by : (partition_point raws wanted < length raws) ⊎ (length raws ≤ partition_point raws wanted) → found raws wanted ≡ code_of (entries_from 0 raws) wanted
      by (inl l) = rw (slice_get-get_or raws (partition_point raws wanted) [] l) (here (order (partition_point raws wanted)) refl l)
      by (inr l) = rw (slice_get_past raws (partition_point raws wanted) l) (sym (found_nowhere (λ j le h. absurd (omega arith))))

-- in a file without a fault the whole records are those that its header counts
module _ {S : Type 0} (s : scale.Ghosts S) (bytes : List ℕ) (passed : file_fault s bytes ≡ None) where
  whole_are : whole_records bytes ≡ raw_records bytes
  whole_are =
      let many : length (drop 10 bytes) / 5 ≡ count bytes = omega (arith, length-drop 10 bytes, (faultless s bytes passed).0.whole) in
      ap (λ (k : ℕ). first_chunks 5 k (drop 10 bytes)) many

  pub finds_recorded : (wanted : Key) → found (whole_records bytes) wanted ≡ code_of (entries bytes) wanted
  finds_recorded wanted =
      ap (λ raws. found raws wanted) whole_are ∙ finds s (states bytes) (marks bytes) (raw_records bytes) (faultless s bytes passed).1 wanted
