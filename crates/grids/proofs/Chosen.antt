-- The grid that a point's corrections are taken from, by its planes: those of the dense grid or those of the coarse one. Its values are
-- read from the nodes of either.
use mathlib.Core.Bool.{Bool, true, false, cond}
use mathlib.Core.List.{List}
use mathlib.Core.Path.{◌≡◌, refl, sym, subst, ◌∙◌}
use Prim.Native.Nat.{ℕ, ◌+◌, ◌-◌, ◌<◌}
use native.Mathlib.Omega.{arith}
use lib.ListN.{length}
use Rattle.rules.specs.declared.Plane.{Plane}
use Rattle.rules.specs.declared.Layout.{Layout}
use Rattle.rules.specs.declared.Point.{Point}
use Rattle.rules.specs.Image.{Grid, grid_of, plane, rows, columns}
use Rattle.rules.specs.Limits.{InImage, Open, OpenAround}
use Rattle.rules.specs.Lookup.{dense_grid, grid_for}
use Rattle.image.specs.declared.fit.FitImage.{FitImage}
use Rattle.nodes.specs.Either.{either, node_values, CellInside}
use Rattle.rules.proofs.Lent.{part_from, part_length}
use Rattle.nodes.proofs.Parts.{plane_nodes}
use Rattle.lookup.specs.declared.CellCorners.{CellCorners}
use Rattle.lookup.specs.declared.HeldCell.{HeldCell}
use Rattle.lookup.specs.declared.Placed.{Placed}
use Rattle.lookup.specs.Held.{Bounded, Around, zeros, held_cell, held_at, lies_in}
use Rattle.lookup.proofs.Covering.{Serves, serves, open_around}
use Rattle.lookup.proofs.Found.{same_cell}
use Rattle.grids.specs.Grids.{taken_dense, latitude_plane, longitude_plane, placed_squares_of, correction_cell, correction_cell_of}

-- ---- the grid of these planes
-- Both planes of a grid have one geometry.
pub one_geometry : {size : ℕ} {l : Layout} → Open size l → (t : Bool) → (longitude_plane l t).geometry ≡ (latitude_plane l t).geometry
one_geometry o true = refl
one_geometry o false = o.longitude_geometry

abbrev pub chosen : List ℕ → Layout → Bool → Grid
chosen b l t = cond t (dense_grid (grid_of b l)) (grid_of b l)

module _ (i : FitImage) where
  abbrev chosen_in : Bool → Grid
  chosen_in = chosen i.bytes.now i.layout

  chosen_geometry : (t : Bool) → (chosen_in t).corrections ≡ (latitude_plane i.layout t).geometry
  chosen_geometry true = refl
  chosen_geometry false = refl

  -- The corners of a point's cell there.
  pub cell_chosen : (p : Point) (t : Bool) → let k = chosen_in t in
      correction_cell_of i t p ≡ correction_cell k.corrections k.latitude k.longitude p
  cell_chosen p true = refl
  cell_chosen p false = refl

  -- The cell that is held there has zeros for heights, where these stand on a separate grid.
  abbrev pub held_of : Point → Bool → HeldCell
  held_of p t =
      let cell = placed_squares_of i t p in
      let corners : CellCorners = record { latitude = cell.corners.latitude; longitude = cell.corners.longitude; height = zeros } in
      let placed : Placed CellCorners = record { corners = corners; spacings = cell.spacings; at = cell.at } in
      held_cell i.layout.latitude.geometry p placed

  pub held_chosen : (p : Point) → i.layout.separate ≡ true → (t : Bool)
      → held_of p t ≡ held_at i.layout.latitude.geometry (chosen_in t) p
  unfolding held_at
  held_chosen p two true = refl
  held_chosen p two false = rw two

  -- It serves the point whose corrections are taken there.
  pub chosen_serves : (p : Point) (t : Bool) → Around i p → t ≡ taken_dense i.layout p
      → Serves i.layout.latitude.geometry (latitude_plane i.layout t).geometry p
  chosen_serves p t o e = rw (e, ← chosen_geometry (taken_dense i.layout p)) (serves i.bytes.now i.layout p (open_around i o))

-- ---- two points
module _ {b : List ℕ} {l : Layout} {r q : Point} (o : OpenAround b l r) (u : OpenAround b l q) (e : taken_dense l q ≡ taken_dense l r) where
  -- The cell held around one point is that of another which lies in it and takes its corrections from the same grid.
  pub still_held : (h : HeldCell) → let bounds = l.latitude.geometry in
      h ≡ held_at bounds (grid_for (grid_of b l) r) r → lies_in h bounds q ≡ true → h ≡ held_at bounds (grid_for (grid_of b l) q) q
  still_held h k lies =
      let bounds = l.latitude.geometry in
      let there = subst (λ (t : Bool). Bounded (chosen b l t).corrections q) e (serves b l q u).bounded in
      same_cell bounds (grid_for (grid_of b l) r) r (serves b l r o) q there h k lies
      ∙ (λ i. held_at bounds (chosen b l (sym e i)) q)

-- ---- one plane of either grid, whose nodes are lent from its first value on
module _ (b : List ℕ) (d c : Plane) where
  abbrev nodes : Bool → List ℕ
  nodes t = either t (part_from b d.first) (part_from b c.first)

  pub either_values : (t : Bool) (row column : ℕ)
      → let p = either t d c in node_values (nodes t) p.stride (columns p.geometry) row column ≡ plane b p row column
  either_values true row column = plane_nodes b d row column
  either_values false row column = plane_nodes b c row column

  nodes_length : (t : Bool) → length (nodes t) ≡ length b - (either t d c).first
  nodes_length true = part_length b d.first
  nodes_length false = part_length b c.first

  either_in : InImage (length b) d → InImage (length b) c → (t : Bool) → InImage (length b) (either t d c)
  either_in i j true = i
  either_in i j false = j

  pub either_inside : InImage (length b) d → InImage (length b) c → (t : Bool) (row column : ℕ)
      → let p = either t d c in row + 1 < rows p.geometry → column + 1 < columns p.geometry
      → CellInside (length (nodes t)) p.stride (columns p.geometry) row column
  either_inside i j t row column k l =
      let p = either_in i j t in
      let sized = p.geometry in
      rw (nodes_length t)
      (record {
        row_most = omega (arith, sized.latitude.sized.count_most);
        columns_most = sized.longitude.sized.count_most;
        column_most = omega (arith, sized.longitude.sized.count_most);
        bytes = omega (arith, p.bytes (row + 1) (column + 1) k l);
      })
