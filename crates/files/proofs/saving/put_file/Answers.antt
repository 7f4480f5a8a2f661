use Rattle.std.proofs.Common.{◌∙◌}
use Rattle.files.proofs.Records.{file_written}
use Rattle.files.proofs.saving.put_file.Goals as goal

pub returns-clause-written : goal.returns-clause-written
returns-clause-written g c =
    let planned = c.requires.planned in
    let written = rw (c.put_header.ensures, c.number.ensures, planned.states, planned.marks, planned.count) at c.put_records.ensures.written in
    rw planned.count (written ∙ file_written g.K.Grade.Scale (g.K.Structure.tables c.args.structure.now) c.args.out.now (rw planned.count at c.requires.room))
