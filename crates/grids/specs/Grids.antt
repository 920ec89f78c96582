-- The lookups where heights stand on a separate grid: the corners of a point's cell, those of the corrections on the grid that serves the
-- point, with the questions put to them, and the values between them.
use Rattle.std.specs.Prelude.{Bool, cond, ◌&&◌, Some, None, ℕ, ℤ}
use Rattle.rules.specs.declared.Geometry.{Geometry}
use Rattle.rules.specs.declared.Plane.{Plane}
use Rattle.rules.specs.declared.Layout.{Layout}
use Rattle.rules.specs.declared.Point.{Point}
use Rattle.rules.specs.declared.Correction.{Correction}
use Rattle.rules.specs.Units.{correction_limit, quasi_geoid_limit}
use Rattle.rules.specs.Answers.{Outcome, values, ask, and_then}
use Rattle.rules.specs.Image.{Grid, plane, beside_of}
use Rattle.rules.specs.Limits.{CornersWithin}
use Rattle.rules.specs.Bilinear.{corners, corners_for, value_at}
use Rattle.rules.specs.Lookup.{Height, inside, square_passes, grid_for}
use Rattle.image.specs.declared.fit.FitImage.{FitImage}
use Rattle.nodes.specs.Either.{either}
use Rattle.bilinear.specs.Mean.{InCell}
use Rattle.rules.specs.declared.Square.{Square}
use Rattle.lookup.specs.declared.PointValues.{PointValues}
use Rattle.lookup.specs.declared.Placed.{Placed}
use Rattle.lookup.specs.Held.{spacings_of, cell_place, value_in, PointFound, values_found}
use Rattle.grids.specs.declared.CorrectionSquares.{CorrectionSquares}

-- Are a point's corrections taken from the dense grid?
abbrev pub taken_dense : Layout → Point → Bool
taken_dense l p = l.nested && inside l.dense.geometry p

-- The planes of both corrections on the dense grid, or on the coarse one.
abbrev pub latitude_plane : Layout → (inDense : Bool) → Plane
latitude_plane l t = either t l.dense l.latitude

abbrev pub longitude_plane : Layout → (inDense : Bool) → Plane
longitude_plane l t = either t (beside_of l.dense) l.longitude

-- Both corrections at the corners of the cell of a row and a column.
abbrev pub squares_at : (latitude longitude : ℕ → ℕ → ℤ) → (row column : ℕ) → CorrectionSquares
squares_at f h row column = record { latitude = corners f row column; longitude = corners h row column }

-- Question 9 of both.
abbrev pub squares_pass : CorrectionSquares → Bool
squares_pass c = square_passes correction_limit c.latitude && square_passes correction_limit c.longitude

-- The corners of a point's cell on a grid of corrections, by its geometry and their values,
abbrev pub placed_squares : Geometry → (latitude longitude : ℕ → ℕ → ℤ) → Point → Placed CorrectionSquares
placed_squares g latitude longitude p =
    let cell = cell_place g p in
    record { corners = squares_at latitude longitude cell.row cell.column; spacings = spacings_of g; at = cell.at }

-- after question 9.
unfoldable pub correction_cell : Geometry → (latitude longitude : ℕ → ℕ → ℤ) → Point → Outcome (Placed CorrectionSquares)
correction_cell g latitude longitude p =
    let cell = placed_squares g latitude longitude p in
    ask (squares_pass cell.corners) 9 (values cell)

-- Both of the dense grid, or of the coarse one.
abbrev pub placed_squares_of : FitImage → (inDense : Bool) → Point → Placed CorrectionSquares
placed_squares_of i t p =
    let l = i.layout in
    let b = i.bytes.now in
    placed_squares (latitude_plane l t).geometry (plane b (latitude_plane l t)) (plane b (longitude_plane l t)) p

abbrev pub correction_cell_of : FitImage → (inDense : Bool) → Point → Outcome (Placed CorrectionSquares)
correction_cell_of i t p =
    let l = i.layout in
    let b = i.bytes.now in
    correction_cell (latitude_plane l t).geometry (plane b (latitude_plane l t)) (plane b (longitude_plane l t)) p

-- The same on the grid that the point's corrections are taken from.
unfoldable pub correction_cell_for : Grid → Point → Outcome (Placed CorrectionSquares)
correction_cell_for g p = let k = grid_for g p in correction_cell k.corrections k.latitude k.longitude p

-- The same on a height grid, after question 9, and before it question 15.
abbrev pub asked_height : Geometry → (ℕ → ℕ → ℤ) → Point → Outcome (Placed Square)
asked_height g f q =
    ask (square_passes quasi_geoid_limit (corners_for g f q)) 9
    (values (record { corners = corners_for g f q; spacings = spacings_of g; at = (cell_place g q).at }))

unfoldable pub height_cell : Geometry → (ℕ → ℕ → ℤ) → Point → Outcome (Placed Square)
height_cell g f q = ask (inside g q) 15 (asked_height g f q)

-- Corners that question 9 let pass, and a place in the cell: what weighing them asks.
pub record CorrectionsWeighed (c : Placed CorrectionSquares) : Type 0 where
  pub latitude_within : CornersWithin correction_limit c.corners.latitude
  pub longitude_within : CornersWithin correction_limit c.corners.longitude
  pub place : InCell c.spacings c.at

pub record HeightsWeighed (h : Placed Square) : Type 0 where
  pub height_within : CornersWithin quasi_geoid_limit h.corners
  pub place : InCell h.spacings h.at

-- The corrections between their corners, the height between its own, and all values between the corners on both grids.
abbrev pub corrections_between : Placed CorrectionSquares → Correction
corrections_between c =
    record { latitude = value_in c.corners.latitude c.spacings c.at; longitude = value_in c.corners.longitude c.spacings c.at }

abbrev pub height_between : Placed Square → ℤ
height_between h = value_in h.corners h.spacings h.at

abbrev pub values_on : Placed CorrectionSquares → Placed Square → PointValues
values_on c h = record { correction = corrections_between c; height = height_between h }

-- The lookup of all values at a point in the bounds of the corrections.
unfoldable pub grids_lookup : Grid → Point → Outcome PointFound
grids_lookup g p =
    and_then (correction_cell_for g p) (λ c.
    and_then (height_cell g.heights g.height p) (λ h.
    values (values_found (values_on c h))))

-- The lookup of the height at a point,
unfoldable pub height_on : Geometry → (ℕ → ℕ → ℤ) → Point → Outcome Height
height_on g f q = ask (inside g q) 15 (ask (square_passes quasi_geoid_limit (corners_for g f q)) 9 (values (Some (value_at g f q))))

-- and kind 2's, at any point.
abbrev pub height_on_or_none : Geometry → (ℕ → ℕ → ℤ) → Point → Outcome Height
height_on_or_none g f q = cond (inside g q) (height_on g f q) (values None)
