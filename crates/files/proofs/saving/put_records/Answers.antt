use Rattle.std.proofs.Common.{◌≡◌, ◌+◌, ◌*◌, [], ◌∷◌, ◌++◌, length, Some, None, Option, sym, refl, ap, ◌∙◌, arith}
use Rattle.std.proofs.lemmas.List.{append-nil, length_push}
use Rattle.std.proofs.lemmas.List.Edits.{sets}
use Rattle.files.specs.Format.{recorded, records_of, bytes_of}
use Rattle.files.specs.Order.{cell_at, first_cells}
use Rattle.files.proofs.Records.{records_next, records_all, records_beyond, sets_more}
use Rattle.files.proofs.saving.put_records.Goals as goal
use Rattle.files.proofs.saving.put_records.Goals.{in-Some, in_default}

none_from : {X : Type 0} (o : Option X) → ((x : X) → o ≡ Some x → ⊥) → o ≡ None
none_from None h = refl
none_from (Some x) h = absurd (h x refl)

pub put_record-requires : goal.put_record-requires
put_record-requires g c =
    let so_far = c.loop-index.invariant in
    let is = rw (so_far.same, c.in-Some.is) at c.record_at.ensures.value in
    omega (arith, c.requires, so_far.next, records_beyond g.K.Grade.Scale (g.K.Structure.tables c.args.structure.now) c.args.size.states c.args.size.marks c.loop-index.index c.in-Some.entry (omega arith) is)

pub loop-index-preserved : goal.loop-index-preserved
loop-index-preserved g c =
    let s = g.K.Grade.Scale in
    let T = g.K.Structure.tables c.args.structure.now in
    let n = c.args.size.states in
    let m = c.args.size.marks in
    let i = c.loop-index.index in
    let before = c.args.out.now in
    let so_far = c.loop-index.invariant in
    let read : c.record_at.result ≡ recorded s T (cell_at n m i) = rw so_far.same at c.record_at.ensures.value in
    elim c.match-record_at.branch [
      | in-Some w ↦
          let more : records_of s T (first_cells n m (i + 1)) ≡ records_of s T (first_cells n m i) ++ (w.in-Some.entry ∷ []) = records_next s T n m i (Some w.in-Some.entry) (rw w.in-Some.is at read) in
          record {
            same = c.record_at.ensures.same ∙ so_far.same;
            next = rw more (omega (arith, so_far.next, length_push (records_of s T (first_cells n m i)) w.in-Some.entry));
            written = rw (w.out-is, w.put_record.ensures.written, more) (sets_more (records_of s T (first_cells n m i)) w.in-Some.entry before c.loop-index.out c.loop-index.at so_far.next so_far.written);
          }
      | in_default w ↦
          let more : records_of s T (first_cells n m (i + 1)) ≡ records_of s T (first_cells n m i) = records_next s T n m i None (sym (none_from c.record_at.result w.in_default.not-Some) ∙ read) ∙ append-nil _ in
          record {
            same = c.record_at.ensures.same ∙ so_far.same;
            next = w.at-is ∙ so_far.next ∙ ap (λ rs. 10 + 5 * length rs) (sym more);
            written = w.out-is ∙ so_far.written ∙ ap (λ rs. sets before 10 (bytes_of rs)) (sym more);
          }
    ]

pub returns-clause-written : goal.returns-clause-written
returns-clause-written g c =
    c.loop-index.invariant.written ∙ ap (λ rs. sets c.args.out.now 10 (bytes_of rs)) (records_all g.K.Grade.Scale (g.K.Structure.tables c.args.structure.now) c.args.size.states c.args.size.marks c.loop-index.index (omega arith))
