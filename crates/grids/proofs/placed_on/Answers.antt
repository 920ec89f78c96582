-- `grids::placed_on` meets its contract: the corners of the point's cell are in the image.
use Rattle.lookup.proofs.Places.{cell_inside}
use Rattle.grids.proofs.placed_on.Goals as goal

pub corrections_at-requires : goal.corrections_at-requires
corrections_at-requires c =
    let cell = rw c.geometry_for-g.ensures at c.cell_of-cell.ensures in
    cell_inside c.requires cell
