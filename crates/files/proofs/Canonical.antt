-- A file without a fault is the file of the tables that it records.
use Rattle.std.proofs.Common.{◌≡◌, ℕ, zero, suc, ◌+◌, ◌*◌, ◌/◌, ◌%◌, ◌<◌, ◌≤◌, cond, eqb, List, [], ◌∷◌, map, length, get_or, drop, Some, None, Option, sym, refl, ap, ◌∙◌, subst, arith}
use lib.ListN.{length-map}
use Rattle.std.specs.List.{Contains, All}
use Rattle.std.specs.Simd.{first_chunks}
use Rattle.std.proofs.lemmas.List.{drop_more, get_or-drop, length-drop}
use Rattle.std.proofs.lemmas.List.Elements.{All-nil, All-cons, All-head, All-tail, All-contains, All-map}
use Rattle.grades.specs.declared.scale.Scale as scale
use Rattle.files.specs.declared.cell.Kind.{Kind}
use Rattle.files.specs.declared.cell.Kind.TheVariants.{Step, Mark}
use Rattle.files.specs.declared.cell.Cell.{Cell}
use Rattle.files.specs.declared.cell.Record.{Record}
use Rattle.files.specs.declared.entry.Entry.{Entry}
use Rattle.files.specs.Checks.{file_fault}
use Rattle.files.specs.Entries.{states, marks, count, entries_from, entries, key}
use Rattle.files.specs.Format.{Key, key_order, cell, cell_key, kind_byte, level_at, record_of, bytes_of, table_records, file_of, Before, Ascend, Records}
use Rattle.files.specs.Recorded.{level_found, code_of, file_tables}
use Rattle.files.proofs.Ascending.{Ascend_same, Contains-map_back}
use Rattle.files.proofs.Laws.{records_are, Contains-map}
use Rattle.files.proofs.Lookups.{all_after, code_found, code_had}
use Rattle.files.proofs.Sound.{Proper, Sound, Headed, limit, faultless}
use Rattle.files.proofs.Tabled.{Codes, found_above, level_looked, looked_above, file_bounded}
use Rattle.sheets.specs.Bounds.{inside_in}

-- ---- records by their kinds

abbrev kind_of : ℕ → Kind
kind_of kind = cond (eqb kind 1) Step Mark

abbrev cell_of : Entry → Cell
cell_of e = cell (kind_of e.kind) e.first e.second

abbrev pub typed : Entry → Record
typed e = record { cell = cell_of e; code = e.code }

pub kind_back : (kind : Kind) → kind_of (kind_byte kind) ≡ kind
kind_back Step = refl
kind_back Mark = refl

module _ {S : Type 0} (s : scale.Ghosts S) (n m : ℕ) where
  kind_typed : (e : Entry) (p : Proper s n m e) → kind_of e.kind ≡ p.kind
  kind_typed e p = ap kind_of p.kind_is ∙ kind_back p.kind

  key_typed : (e : Entry) → Proper s n m e → cell_key (cell_of e) ≡ key e
  key_typed e p = let kind = ap kind_byte (kind_typed e p) ∙ sym p.kind_is in λ i. (kind i, e.first, e.second)

  all_proper : (before : Option Entry) (es : List Entry) → Sound s n m before es → All (Proper s n m) es
  all_proper before [] x = All-nil (Proper s n m)
  all_proper before (e ∷ es) x = All-cons (Proper s n m) e es x.0 (all_proper (Some e) es x.2)

  ascend_typed : (before : Option Entry) (es : List Entry) → Sound s n m before es → Ascend (map typed es)
  ascend_typed before [] x = tt
  ascend_typed before (e ∷ es) x =
      let after = all_after s n m e es x.2 in
      let proper = all_proper (Some e) es x.2 in (
        All-map (λ r. Before (cell_of e) r.cell) typed es (λ k d h.
            ap (λ (a : Key). key_order a (cell_key (cell_of (get_or es k d)))) (key_typed e x.0) ∙ ap (key_order (key e)) (key_typed (get_or es k d) (proper k d h)) ∙ after k d h),
        ascend_typed (Some e) es x.2,
      )

  -- the bytes of records are those that they are read from
  bytes_typed : (index many : ℕ) (bytes : List ℕ) → ((k : ℕ) → get_or bytes k 0 < 256) → length bytes ≡ 5 * many → All (Proper s n m) (entries_from index (first_chunks 5 many bytes)) →
      bytes ≡ bytes_of (map typed (entries_from index (first_chunks 5 many bytes)))
  bytes_typed index zero [] fits h all = refl
  bytes_typed index zero (a ∷ bytes) fits h all = absurd (omega arith)
  bytes_typed index (suc many) [] fits h all = absurd (omega arith)
  bytes_typed index (suc many) (a ∷ []) fits h all = absurd (omega arith)
  bytes_typed index (suc many) (a ∷ (b ∷ [])) fits h all = absurd (omega arith)
  bytes_typed index (suc many) (a ∷ (b ∷ (c ∷ []))) fits h all = absurd (omega arith)
  bytes_typed index (suc many) (a ∷ (b ∷ (c ∷ (d ∷ [])))) fits h all = absurd (omega arith)
  bytes_typed index (suc many) (a ∷ (b ∷ (c ∷ (d ∷ (e ∷ bytes))))) fits h all =
      let rest = bytes_typed (index + 1) many bytes (λ k. fits (suc (suc (suc (suc (suc k)))))) (omega arith) (All-tail (Proper s n m) _ _ all) in
      let proper = All-head (Proper s n m) _ _ all in
      let kind : kind_byte (kind_of a) ≡ a = ap (λ (k : Key). k.0) (key_typed _ proper) in
      let small = fits 3 in
      let low : (d + e * 256) % 256 ≡ d = omega arith in
      let high : (d + e * 256) / 256 ≡ e = omega arith in
      cc

length-entries : (index many : ℕ) (bytes : List ℕ) → length (entries_from index (first_chunks 5 many bytes)) ≡ many
length-entries index zero bytes = refl
length-entries index (suc many) bytes = ap suc (length-entries (index + 1) many (drop 5 bytes))

-- five bytes at a time

next : (bs : List ℕ) (i j : ℕ) → i < length bs → j ≡ i + 1 → drop i bs ≡ get_or bs i 0 ∷ drop j bs
next bs i j h e = drop_more bs i 0 h ∙ ap (λ (z : ℕ). get_or bs i 0 ∷ drop z bs) (sym e)

five : (bs : List ℕ) (a b : ℕ) → a + 5 ≤ length bs → b ≡ a + 5 → drop a bs ≡ get_or bs a 0 ∷ (get_or bs (a + 1) 0 ∷ (get_or bs (a + 2) 0 ∷ (get_or bs (a + 3) 0 ∷ (get_or bs (a + 4) 0 ∷ drop b bs))))
five bs a b h e =
    next bs a (a + 1) (omega arith) refl ∙ ap (λ z. get_or bs a 0 ∷ z)
    (next bs (a + 1) (a + 2) (omega arith) (omega arith) ∙ ap (λ z. get_or bs (a + 1) 0 ∷ z)
    (next bs (a + 2) (a + 3) (omega arith) (omega arith) ∙ ap (λ z. get_or bs (a + 2) 0 ∷ z)
    (next bs (a + 3) (a + 4) (omega arith) (omega arith) ∙ ap (λ z. get_or bs (a + 3) 0 ∷ z)
    (next bs (a + 4) b (omega arith) (omega arith)))))

-- ---- the file

module _ {S : Type 0} (s : scale.Ghosts S) (codes : Codes s) (bytes : List ℕ) (passed : file_fault s bytes ≡ None) where
  headed : Headed s bytes
  headed = (faultless s bytes passed).0

  sound : Sound s (states bytes) (marks bytes) None (entries bytes)
  sound = (faultless s bytes passed).1

  pub file_records : Records s (file_tables s bytes) (table_records s (file_tables s bytes))
  file_records = records_are s.height (file_tables s bytes) (file_bounded s codes bytes passed) s

  proper : All (Proper s (states bytes) (marks bytes)) (entries bytes)
  proper = all_proper s (states bytes) (marks bytes) None (entries bytes) sound

  -- a record's cell is at its grade's level
  record_level : (e : Entry) → Contains (entries bytes) e → (p : Proper s (states bytes) (marks bytes) e) → level_at (file_tables s bytes) (cell_of e) ≡ p.level
  record_level e has p =
      level_looked s (states bytes) (marks bytes) (code_of (entries bytes)) (kind_of e.kind) e.first e.second
      ∙ inside_in e.first (states bytes) e.second (limit (states bytes) (marks bytes) (kind_of e.kind)) _ p.first
      (omega (arith, p.second, ap (limit (states bytes) (marks bytes)) (kind_typed s (states bytes) (marks bytes) e p)))
      ∙ ap (λ (k : Key). level_found s (code_of (entries bytes) k)) (key_typed s (states bytes) (marks bytes) e p)
      ∙ ap (level_found s) (code_had s (states bytes) (marks bytes) None (entries bytes) e sound has)
      ∙ rw p.level_is

  there : (r : Record) → Contains (map typed (entries bytes)) r → Contains (table_records s (file_tables s bytes)) r
  there r has =
      let back = Contains-map_back typed (entries bytes) r has in
      let e = back.0 in
      let p = All-contains (Proper s (states bytes) (marks bytes)) (entries bytes) e proper back.1 in
      let level : level_at (file_tables s bytes) (cell_of e) ≡ p.level = record_level e back.1 p in
      let found = file_records.every (cell_of e) (omega (arith, p.above)) in
      let same : s.code (level_at (file_tables s bytes) (cell_of e)) ≡ e.code = ap s.code level ∙ codes.coded e.code p.level p.level_is in
      let is : record_of s (file_tables s bytes) (cell_of e) ≡ r = ap (λ (x : ℕ). record { cell = cell_of e; code = x }) same ∙ back.2 in
      subst (λ x. Contains (table_records s (file_tables s bytes)) x) is found

  back : (r : Record) → Contains (table_records s (file_tables s bytes)) r → Contains (map typed (entries bytes)) r
  back r has =
      let c = r.cell in
      let above = All-contains (λ (x : Record). (0 < level_at (file_tables s bytes) x.cell) × (x.code ≡ s.code (level_at (file_tables s bytes) x.cell))) _ r file_records.above has in
      let looked = looked_above s (states bytes) (marks bytes) (code_of (entries bytes)) c above.0 in
      let found = found_above s (code_of (entries bytes) (cell_key c)) (omega (arith, above.0, looked.2)) in
      let entry = code_found (entries bytes) (cell_key c) found.0 found.1 in
      let e = entry.0 in
      let kind : kind_of e.kind ≡ c.kind = ap (λ (k : Key). kind_of k.0) entry.2 ∙ kind_back c.kind in
      let first : e.first ≡ c.first = ap (λ (k : Key). k.1) entry.2 in
      let second : e.second ≡ c.second = ap (λ (k : Key). k.2) entry.2 in
      let same : e.code ≡ r.code = entry.3 ∙ sym (codes.coded found.0 _ found.2) ∙ ap s.code (sym looked.2) ∙ sym above.1 in
      let is : typed e ≡ r = λ i. record { cell = record { kind = kind i; first = first i; second = second i }; code = same i } in
      subst (λ x. Contains (map typed (entries bytes)) x) is (Contains-map typed (entries bytes) e entry.1)

  pub records_recorded : map typed (entries bytes) ≡ table_records s (file_tables s bytes)
  records_recorded =
      Ascend_same (map typed (entries bytes)) (table_records s (file_tables s bytes))
      (ascend_typed s (states bytes) (marks bytes) None (entries bytes) sound) file_records.ascend there back

  pub is_file : ((k : ℕ) → get_or bytes k 0 < 256) → bytes ≡ file_of s (file_tables s bytes)
  unfolding file_of
  is_file fits =
      let rs = table_records s (file_tables s bytes) in
      let many : length (table_records s (file_tables s bytes)) ≡ count bytes = ap length (sym records_recorded) ∙ simp length-map (length-entries 0 (count bytes) (drop 10 bytes)) in
      let tail : drop 10 bytes ≡ bytes_of (table_records s (file_tables s bytes)) =
      bytes_typed s (states bytes) (marks bytes) 0 (count bytes) (drop 10 bytes) (λ k. rw get_or-drop (fits (10 + k))) (rw length-drop (omega (arith, headed.whole))) proper ∙ ap bytes_of records_recorded in
      let f3 = fits 3 in
      let f8 = fits 8 in
      let b0 = headed.letter_w in
      let b1 = headed.letter_s in
      let b2 = headed.letter_h in
      let b3 : get_or bytes 3 0 ≡ 1 = omega (arith, headed.version) in
      let b4 : get_or bytes 4 0 ≡ 0 = omega (arith, headed.version) in
      let b5 = headed.scale in
      let b8 : get_or bytes 8 0 ≡ length rs % 256 = omega (arith, many) in
      let b9 : get_or bytes 9 0 ≡ length rs / 256 = omega (arith, many) in
      five bytes 0 5 (omega (arith, headed.long)) refl
      ∙ ap (λ z. get_or bytes 0 0 ∷ (get_or bytes 1 0 ∷ (get_or bytes 2 0 ∷ (get_or bytes 3 0 ∷ (get_or bytes 4 0 ∷ z))))) (five bytes 5 10 (omega (arith, headed.long)) refl)
      ∙ cc
