-- `lookup::placed_cell` meets its contract: the corners of the point's cell, which `corners_around` reads, and the point's place in it.
use Rattle.lookup.proofs.Covering.{bounded_in}
use Rattle.lookup.proofs.Places.{cell_inside}
use Rattle.lookup.proofs.placed_cell.Goals as goal

pub corners_around-requires : goal.corners_around-requires
corners_around-requires c =
    (c.requires.1, cell_inside (bounded_in c.args.image.now c.requires.0) c.cell_of-cell.ensures)
