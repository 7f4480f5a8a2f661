use Rattle.std.proofs.Common.{◌<◌, length, arith, rules}
use Rattle.sheets.proofs.Grids.{index_room, set_cell}
use Rattle.sheets.proofs.drawing.put.Goals as goal

pub offset_bounds-grades-index : goal.offset_bounds-grades-index
offset_bounds-grades-index g c =
    let inside : c.index.result < length c.args.grades.now = omega (arith, c.index.ensures, index_room c.args.size (length c.args.grades.now) c.requires.whole c.args.cell c.requires.inside) in
    search rules

pub returns : goal.returns
returns g c = set_cell g.S.Scale c.args.size c.args.grades.now c.args.cell c.index.result c.args.grade c.requires.whole c.requires.inside c.index.ensures
