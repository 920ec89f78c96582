-- `grids::height_cell_inside` meets its contract: question 9 as its test answered, of the corners of the point's cell.
use Rattle.lookup.proofs.Places.{cell_inside}
use Rattle.grids.proofs.height_cell_inside.Goals as goal

pub corners_at-corners-requires : goal.corners_at-corners-requires
corners_at-corners-requires c = (c.requires.0, cell_inside c.requires.1 c.cell_of-cell.ensures)
