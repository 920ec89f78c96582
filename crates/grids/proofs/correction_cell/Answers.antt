-- `grids::correction_cell` meets its contract: the cell on the grid that the point's corrections are taken from.
use mathlib.Core.Path.{◌∙◌}
use Rattle.grids.specs.Grids.{correction_cell, correction_cell_for}
use Rattle.grids.proofs.Chosen.{chosen, cell_chosen, chosen_serves}
use Rattle.grids.proofs.correction_cell.Goals as goal

pub cell_on-requires : goal.cell_on-requires
cell_on-requires c =
    let s = c.args in
    let serves = chosen_serves s.image.now s.p c.is_taken_dense.result c.requires c.is_taken_dense.ensures in
    serves.bounded

pub returns : goal.returns
unfolding correction_cell_for
returns c =
    let s = c.args in
    let i = s.image.now in
    c.cell_on.ensures
    ∙ cell_chosen i s.p c.is_taken_dense.result
    ∙ (λ j. let k = chosen i.bytes.now i.layout (c.is_taken_dense.ensures j) in correction_cell k.corrections k.latitude k.longitude s.p)
