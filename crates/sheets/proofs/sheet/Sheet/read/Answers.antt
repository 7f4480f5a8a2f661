use Rattle.std.proofs.Common.{◌≡◌, ◌≤◌, true, length, sym, ap, ◌∙◌, rules}
use Rattle.sheets.specs.Cells.{is_inside, cell_index, level_at}
use Rattle.sheets.proofs.Grids.{past_the_end, tables_counted}
use Rattle.sheets.proofs.sheet.Sheet.read.Goals as goal

pub returns-in-None-clause-value : goal.returns-in-None-clause-value
returns-in-None-clause-value g c =
    let sheet = c.args.self.now in
    let size = c.size-size.result in
    let counted = tables_counted g.S.Scale size sheet.n sheet.m sheet.grades.now c.size-size.ensures.states c.size-size.ensures.marks in
    let has : is_inside size c.args.cell ≡ true = search rules in
    let past : length sheet.grades.now ≤ cell_index size c.args.cell = search rules in
    c.floor-in-None.ensures ∙ g.met.S.Scale.floors ∙ sym (ap (λ T. level_at T c.args.cell) counted ∙ past_the_end g.S.Scale size sheet.grades.now c.args.cell has past)
