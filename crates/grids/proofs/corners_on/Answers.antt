-- `grids::corners_on` meets its contract: both planes begin in the image, and the corners are read from the nodes of one of them.
use mathlib.Core.Path.{◌∙◌}
use native.Mathlib.Omega.{arith}
use Rattle.rules.specs.Image.{columns}
use Rattle.rules.specs.Bilinear.{corners}
use Rattle.nodes.specs.Either.{either, node_values}
use Rattle.rules.proofs.Lent.{part_from}
use Rattle.nodes.proofs.Parts.{first_inside}
use Rattle.grids.proofs.Chosen.{either_values, either_inside}
use Rattle.grids.proofs.corners_on.Goals as goal

pub slice_bounds-corners_of_either-count : goal.slice_bounds-corners_of_either-count
slice_bounds-corners_of_either-count c = omega (arith, first_inside c.requires.0)

pub slice_bounds-corners_of_either-start : goal.slice_bounds-corners_of_either-start
slice_bounds-corners_of_either-start c = omega (arith, first_inside c.requires.0)

pub slice_bounds-corners_of_either-count-2 : goal.slice_bounds-corners_of_either-count-2
slice_bounds-corners_of_either-count-2 c = omega (arith, first_inside c.requires.1)

pub slice_bounds-corners_of_either-start-2 : goal.slice_bounds-corners_of_either-start-2
slice_bounds-corners_of_either-start-2 c = omega (arith, first_inside c.requires.1)

pub corners_of_either-requires : goal.corners_of_either-requires
corners_of_either-requires c =
    let a = c.args in
    let b = a.image.now in
    rw c.plane_for-chosen.ensures
    (either_inside b a.fine a.coarse c.requires.0 c.requires.1 a.dense a.row a.column c.requires.2.0 c.requires.2.1)

pub returns : goal.returns
returns c =
    let a = c.args in
    let b = a.image.now in
    let nodes = either a.dense (part_from b a.fine.first) (part_from b a.coarse.first) in
    let p = c.plane_for-chosen.ensures in
    c.corners_of_either.ensures
    ∙ (λ i. corners (node_values nodes (p i).stride (columns (p i).geometry)) a.row a.column)
    ∙ (λ i. corners (λ row column. either_values b a.fine a.coarse a.dense row column i) a.row a.column)
