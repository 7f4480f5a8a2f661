use Rattle.std.proofs.Common.{◌∙◌, sym, refl, arith}
use Rattle.std.proofs.lemmas.List.Edits.{sets-eq}
use Rattle.std.proofs.lemmas.Slice.{put_mid-paste}
use Rattle.files.specs.Format.{record_bytes}
use Rattle.files.proofs.saving.put_record.Goals as goal

pub returns-clause-written : goal.returns-clause-written
returns-clause-written c =
    let bytes = record_bytes c.args.entry in
    put_mid-paste c.args.at _ c.args.out.now c.copy_from_slice.new.self bytes 5 (c.copy_from_slice.ensures.after ∙ c.to_bytes.ensures) (omega arith) refl
    ∙ sym (sets-eq bytes c.args.out.now c.args.at (omega (arith, c.requires)))
