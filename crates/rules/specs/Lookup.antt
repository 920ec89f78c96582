-- Document 01, "Questions in order": the bounds of questions 8 and 10, question 9, and the lookups of the values at a point in the bounds;
-- and notes 1, 5 and 6 of document 02: question 15, the lookups on two grids, which of two grids a point's corrections are taken from, and
-- the lookups at any point.
use Rattle.std.specs.Prelude.{Bool, true, false, cond, ◌&&◌, Option, Some, None, ℕ, ℤ, pos}
use Rattle.std.specs.Int.Signed.{le_z}
use Rattle.rules.specs.declared.Axis.{Axis}
use Rattle.rules.specs.declared.Geometry.{Geometry}
use Rattle.rules.specs.declared.Point.{Point}
use Rattle.rules.specs.declared.Square.{Square}
use Rattle.rules.specs.declared.Correction.{Correction}
use Rattle.rules.specs.Units.{within, correction_limit, quasi_geoid_limit}
use Rattle.rules.specs.Answers.{Outcome, values, ask}
use Rattle.rules.specs.Image.{Grid, far_bound}
use Rattle.rules.specs.Bilinear.{cell_for, corners, corners_for, value_at}

-- A quasi-geoid height, or that there is none.
abbrev pub Height : Type 0
Height = Option ℤ

-- An angle from an axis's start to its far bound, both included.
unfoldable pub on_axis : Axis → ℤ → Bool
on_axis a z = le_z a.start z && le_z z (far_bound a)

-- 8. Is the given point in the bounds, all four included? 10 asks the same of each pk.
unfoldable pub inside : Geometry → Point → Bool
inside g p = on_axis g.latitude p.latitude && on_axis g.longitude p.longitude

-- Question 9 of one value: the four corners of a cell are within its limit.
unfoldable pub square_passes : (limit : ℕ) → Square → Bool
square_passes limit c =
    (within limit c.southwest && within limit c.southeast) && (within limit c.northwest && within limit c.northeast)

-- 9. In the cell of a point in the bounds, do all four nodes have corrections within 10,000,000 and height within 1,000,000 of zero?
unfoldable pub question9 : Grid → Point → Bool
question9 g p =
    let row = cell_for g.corrections.latitude p.latitude in
    let column = cell_for g.corrections.longitude p.longitude in
    square_passes correction_limit (corners g.latitude row column)
    && (square_passes correction_limit (corners g.longitude row column)
    && square_passes quasi_geoid_limit (corners g.height row column))

-- The corrections and the quasi-geoid height at a point in the bounds.
abbrev pub corrections_at : Grid → Point → Correction
corrections_at g p = record { latitude = value_at g.corrections g.latitude p; longitude = value_at g.corrections g.longitude p }

abbrev pub quasi_geoid_at : Grid → Point → ℤ
quasi_geoid_at g p = value_at g.heights g.height p

-- The lookup of each in edition 1: question 9 for the point's cell, then the value.
unfoldable pub correction_lookup : Grid → Point → Outcome Correction
correction_lookup g p = ask (question9 g p) 9 (values (corrections_at g p))

unfoldable pub height_lookup : Grid → Point → Outcome Height
height_lookup g p = ask (question9 g p) 9 (values (Some (quasi_geoid_at g p)))

-- Edition 2: 9 asks the point's cell on the correction grid for corrections,
unfoldable pub corrections_pass : Grid → Point → Bool
corrections_pass g p =
    square_passes correction_limit (corners_for g.corrections g.latitude p)
    && square_passes correction_limit (corners_for g.corrections g.longitude p)

-- and its cell on the height grid for heights.
unfoldable pub heights_pass : Grid → Point → Bool
heights_pass g p = square_passes quasi_geoid_limit (corners_for g.heights g.height p)

-- The lookup on the correction grid.
unfoldable pub correction_grid_lookup : Grid → Point → Outcome Correction
correction_grid_lookup g p = ask (corrections_pass g p) 9 (values (corrections_at g p))

-- Kind 1: the grid with the dense corrections in place of the coarse ones,
abbrev pub dense_grid : Grid → Grid
dense_grid g =
    record {
      separate = true;
      nested = false;
      unbounded = false;
      corrections = g.dense;
      heights = g.heights;
      dense = g.dense;
      latitude = g.dense_latitude;
      longitude = g.dense_longitude;
      height = g.height;
      dense_latitude = g.dense_latitude;
      dense_longitude = g.dense_longitude;
    }

-- and the one that a point's corrections are taken from: the dense one in the dense bounds, all four included, else the coarse one.
abbrev pub grid_for : Grid → Point → Grid
grid_for g p = cond (g.nested && inside g.dense p) (dense_grid g) g

-- 15. Is the Bessel point on the height grid, its bounds included? Then question 9, then the height.
unfoldable pub height_grid_lookup : Grid → Point → Outcome Height
height_grid_lookup g q = ask (inside g.heights q) 15 (ask (heights_pass g q) 9 (values (Some (quasi_geoid_at g q))))

-- Kind 2, at any point: outside the bounds of the corrections both are zero, and no cell is used,
abbrev pub no_correction : Correction
no_correction = record { latitude = pos 0; longitude = pos 0 }

unfoldable pub corrections_or_zero : Grid → Point → Outcome Correction
corrections_or_zero g p = cond (inside g.corrections p) (correction_grid_lookup g p) (values no_correction)

-- and off the height grid there is no height.
unfoldable pub height_or_none : Grid → Point → Outcome Height
height_or_none g q = cond (inside g.heights q) (ask (heights_pass g q) 9 (values (Some (quasi_geoid_at g q)))) (values None)
