-- `lookup::cell_around` meets its contract: the corners of the point's cell, and the point's place in it.
use Rattle.lookup.specs.Held.{held_at}
use Rattle.lookup.proofs.Covering.{bounded_in, part_below}
use Rattle.lookup.proofs.cell_around.Goals as goal

pub held_cell-requires : goal.held_cell-requires
held_cell-requires c =
    let g = c.args.image.now.layout.latitude.geometry in
    let p = c.args.p in (
      bounded_in c.args.image.now c.requires.0,
      rw c.placed_cell.ensures (part_below g.latitude p.latitude),
      rw c.placed_cell.ensures (part_below g.longitude p.longitude),
    )

pub returns : goal.returns
unfolding held_at
returns c = rw (c.held_cell.ensures, c.placed_cell.ensures)
