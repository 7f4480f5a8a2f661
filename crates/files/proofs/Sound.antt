-- A file has no fault exactly if its header and each of its records are as they should be.
use Rattle.std.proofs.Common.{◌≡◌, ℕ, ◌<◌, ◌≤◌, Bool, true, false, ◌||◌, eqb, ltb, ◌⊎◌, List, [], ◌∷◌, length, get_or, is_some, Some, None, Option, unwrap_or, sym, refl, ap, inl, inr, ltb-true, lt-ltb, eq-eqb, eqb-true, le-leb, leb-true}
use mathlib.Core.Bool.{false≢true}
use Rattle.std.proofs.lemmas.Bool.{or_cases}
use Rattle.std.proofs.lemmas.Option.{none-some}
use Rattle.std.specs.Option.{option_map, option_or}
use Rattle.grades.specs.Refusals.{needing}
use Rattle.grades.specs.declared.scale.Scale as scale
use Rattle.files.specs.declared.cell.Kind.{Kind}
use Rattle.files.specs.declared.cell.Kind.TheVariants.{Step, Mark}
use Rattle.files.specs.declared.entry.Entry.{Entry}
use Rattle.files.specs.Entries.{two_bytes, states, marks, count, entries}
use Rattle.files.specs.Checks.{header_fault, grade_fault, second_limit, follows, record_fault, records_fault, file_fault}
use Rattle.files.specs.Format.{kind_byte, file_length}
use Rattle.sheets.specs.Tables.{Limits}

-- ---- ladders without a refusal

needed : {R : Type 0} (test : Bool) (refusal : R) (next : Option R) → needing test refusal next ≡ None → (test ≡ true) × (next ≡ None)
needed true refusal next e = (refl, e)
needed false refusal next e = absurd (none-some refusal (sym e))

pub meets : {R : Type 0} (test : Bool) (refusal : R) (next : Option R) → test ≡ true → next ≡ None → needing test refusal next ≡ None
meets test refusal next t e = rw t e

neither : {R : Type 0} (a b : Option R) → option_or a b ≡ None → (a ≡ None) × (b ≡ None)
neither None b e = (refl, e)
neither (Some x) b e = absurd (none-some x (sym e))

unmapped : {A B : Type 0} (f : A → B) (o : Option A) → option_map f o ≡ None → o ≡ None
unmapped f None e = refl
unmapped f (Some x) e = absurd (none-some (f x) (sym e))

-- ---- records

-- the second number's limit
abbrev pub limit : (n m : ℕ) → Kind → ℕ
limit n m Step = n
limit n m Mark = m

pub record Proper {S : Type 0} (s : scale.Ghosts S) (n m : ℕ) (e : Entry) : Type 0 where
  pub kind : Kind
  pub kind_is : e.kind ≡ kind_byte kind
  pub first : e.first < n
  pub second : e.second < limit n m kind
  pub level : ℕ
  pub level_is : s.decode e.code ≡ Some level
  pub above : 0 < level

-- each is proper, and follows the one before
abbrev pub Sound : {S : Type 0} → scale.Ghosts S → (n m : ℕ) → (before : Option Entry) → List Entry → Type 0
Sound s n m before [] = Unit {0}
Sound s n m before (e ∷ es) = Proper s n m e × (follows before e ≡ true) × Sound s n m (Some e) es

level_here : (o : Option ℕ) → is_some o ≡ true → 0 < unwrap_or o 0 → (p : ℕ) × (o ≡ Some p) × (0 < p)
level_here None s h = absurd (false≢true s)
level_here (Some p) s h = (p, refl, h)

kind_here : (n m kind second : ℕ) → (eqb kind 1 || eqb kind 2) ≡ true → second < second_limit n m kind → (k : Kind) × (kind ≡ kind_byte k) × (second < limit n m k)
kind_here n m kind second either h = by (or_cases (eqb kind 1) (eqb kind 2) either)
  where
    by : (eqb kind 1 ≡ true) ⊎ (eqb kind 2 ≡ true) → (k : Kind) × (kind ≡ kind_byte k) × (second < limit n m k)
    by (inl e) = (Step, eqb-true kind 1 e, rw e at h)
    by (inr e) = let is : kind ≡ 2 = eqb-true kind 2 e in (Mark, is, rw is at h)

module _ {S : Type 0} (s : scale.Ghosts S) (n m : ℕ) where
  is_proper : (before : Option Entry) (e : Entry) → record_fault s n m before e ≡ None → Proper s n m e × (follows before e ≡ true)
  is_proper before e none =
      let a = needed _ _ _ none in
      let b = needed _ _ _ a.1 in
      let c = needed _ _ _ b.1 in
      let d = needed _ _ _ c.1 in
      let f = needed _ _ _ (unmapped _ (grade_fault s e.code) d.1) in
      let h = needed _ _ _ f.1 in
      let kind = kind_here n m e.kind e.second a.0 (ltb-true _ _ c.0) in
      let level = level_here (s.decode e.code) f.0 (ltb-true _ _ h.0) in (
        record {
          kind = kind.0;
          kind_is = kind.1;
          first = ltb-true _ _ b.0;
          second = kind.2;
          level = level.0;
          level_is = level.1;
          above = level.2;
        },
        d.0,
      )

  pub is_sound : (before : Option Entry) (es : List Entry) → records_fault s n m before es ≡ None → Sound s n m before es
  is_sound before [] none = tt
  is_sound before (e ∷ es) none =
      let both = neither (record_fault s n m before e) (records_fault s n m (Some e) es) none in
      let here = is_proper before e both.0 in
      (here.0, here.1, is_sound (Some e) es both.1)

  kind_test : (kind : ℕ) (k : Kind) → kind ≡ kind_byte k → (eqb kind 1 || eqb kind 2) ≡ true
  kind_test kind Step e = rw e
  kind_test kind Mark e = rw e

  second_test : (kind second : ℕ) (k : Kind) → kind ≡ kind_byte k → second < limit n m k → ltb second (second_limit n m kind) ≡ true
  second_test kind second Step e h = rw e (lt-ltb second n h)
  second_test kind second Mark e h = rw e (lt-ltb second m h)

  grade_passes : (code p : ℕ) → s.decode code ≡ Some p → 0 < p → grade_fault s code ≡ None
  grade_passes code p is above = rw (is, lt-ltb 0 p above)

  proper_passes : (before : Option Entry) (e : Entry) → Proper s n m e → follows before e ≡ true → record_fault s n m before e ≡ None
  proper_passes before e p f =
      meets _ _ _ (kind_test e.kind p.kind p.kind_is)
      (meets _ _ _ (lt-ltb e.first n p.first)
      (meets _ _ _ (second_test e.kind e.second p.kind p.kind_is p.second)
      (meets _ _ _ f
      (ap (option_map _) (grade_passes e.code p.level p.level_is p.above)))))

  pub sound_passes : (before : Option Entry) (es : List Entry) → Sound s n m before es → records_fault s n m before es ≡ None
  sound_passes before [] x = refl
  sound_passes before (e ∷ es) x = rw (proper_passes before e x.0 x.1) (sound_passes (Some e) es x.2)

-- ---- the header

pub record Headed {S : Type 0} (s : scale.Ghosts S) (bytes : List ℕ) : Type 0 where
  pub long : 10 ≤ length bytes
  pub letter_w : get_or bytes 0 0 ≡ 87
  pub letter_s : get_or bytes 1 0 ≡ 83
  pub letter_h : get_or bytes 2 0 ≡ 72
  pub version : two_bytes bytes 3 ≡ 1
  pub scale : get_or bytes 5 0 ≡ s.number
  pub limits : Limits (states bytes) (marks bytes)
  pub few : count bytes ≤ 5120
  pub whole : length bytes ≡ file_length (count bytes)

is_headed : {S : Type 0} (s : scale.Ghosts S) (bytes : List ℕ) → header_fault s bytes ≡ None → Headed s bytes
is_headed s bytes none =
    let a = needed _ _ _ none in
    let b = needed _ _ _ a.1 in
    let c = needed _ _ _ b.1 in
    let d = needed _ _ _ c.1 in
    let e = needed _ _ _ d.1 in
    let f = needed _ _ _ e.1 in
    let g = needed _ _ _ f.1 in
    let h = needed _ _ _ g.1 in
    let i = needed _ _ _ h.1 in
    let j = needed _ _ _ i.1 in
    let k = needed _ _ _ j.1 in
    record {
      long = leb-true _ _ a.0;
      letter_w = eqb-true _ _ b.0;
      letter_s = eqb-true _ _ c.0;
      letter_h = eqb-true _ _ d.0;
      version = eqb-true _ _ e.0;
      scale = eqb-true _ _ f.0;
      limits = record { least = leb-true _ _ g.0; most = leb-true _ _ h.0; few = leb-true _ _ i.0 };
      few = leb-true _ _ j.0;
      whole = eqb-true _ _ k.0;
    }

headed_passes : {S : Type 0} (s : scale.Ghosts S) (bytes : List ℕ) → Headed s bytes → header_fault s bytes ≡ None
headed_passes s bytes x =
    meets _ _ _ (le-leb _ _ x.long)
    (meets _ _ _ (eq-eqb _ _ x.letter_w)
    (meets _ _ _ (eq-eqb _ _ x.letter_s)
    (meets _ _ _ (eq-eqb _ _ x.letter_h)
    (meets _ _ _ (eq-eqb _ _ x.version)
    (meets _ _ _ (eq-eqb _ _ x.scale)
    (meets _ _ _ (le-leb _ _ x.limits.least)
    (meets _ _ _ (le-leb _ _ x.limits.most)
    (meets _ _ _ (le-leb _ _ x.limits.few)
    (meets _ _ _ (le-leb _ _ x.few)
    (meets _ _ _ (eq-eqb _ _ x.whole) refl))))))))))

-- ---- the file

module _ {S : Type 0} (s : scale.Ghosts S) (bytes : List ℕ) where
  pub faultless : file_fault s bytes ≡ None → Headed s bytes × Sound s (states bytes) (marks bytes) None (entries bytes)
  faultless none =
      let both = neither (option_map _ (header_fault s bytes)) (option_map _ (records_fault s (states bytes) (marks bytes) None (entries bytes))) none in
      (is_headed s bytes (unmapped _ _ both.0), is_sound s (states bytes) (marks bytes) None (entries bytes) (unmapped _ _ both.1))

  pub without_fault : Headed s bytes → Sound s (states bytes) (marks bytes) None (entries bytes) → file_fault s bytes ≡ None
  without_fault headed sound = rw (headed_passes s bytes headed, sound_passes s (states bytes) (marks bytes) None (entries bytes) sound)
