-- The cell of a point in the bounds and the point's place there: the cell's nodes are nodes of the grid, and the place is in the cell.
use mathlib.Core.Path.{◌≡◌, sym, subst}
use Prim.Native.Nat.{◌+◌, ◌<◌}
use native.Mathlib.Omega.{arith}
use Rattle.rules.specs.declared.Geometry.{Geometry}
use Rattle.rules.specs.declared.Point.{Point}
use Rattle.rules.specs.Image.{rows, columns}
use Rattle.rules.proofs.Cells.{cell_nodes, part_for_most, on_latitude, on_longitude}
use Rattle.bilinear.specs.Mean.{InCell}
use Rattle.lookup.specs.declared.CellPlace.{CellPlace}
use Rattle.lookup.specs.Held.{Bounded, spacings_of, cell_place}

module _ {g : Geometry} {p : Point} (b : Bounded g p) where
  pub in_cell : InCell (spacings_of g) (cell_place g p).at
  in_cell =
      let sized = b.geometry in
      record {
        u_most = part_for_most g.latitude p.latitude sized.latitude.sized (on_latitude g p b.point);
        v_most = part_for_most g.longitude p.longitude sized.longitude.sized (on_longitude g p b.point);
        latitude_spacing = omega arith;
        longitude_spacing = omega arith;
      }

  -- The same of a cell that was found.
  module _ {c : CellPlace} (e : c ≡ cell_place g p) where
    pub cell_inside : (c.row + 1 < rows g) × (c.column + 1 < columns g)
    cell_inside =
        let sized = b.geometry in
        rw e (cell_nodes g.latitude _ sized.latitude.sized, cell_nodes g.longitude _ sized.longitude.sized)

    pub place_inside : InCell (spacings_of g) c.at
    place_inside = subst (λ (c : CellPlace). InCell (spacings_of g) c.at) (sym e) in_cell
