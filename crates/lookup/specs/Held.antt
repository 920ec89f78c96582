-- The cell around a point as it is read from an image, which points lie in such a cell, and the values there. Bounds are those of the
-- corrections; a cell may be of a grid inside them.
use Rattle.std.specs.Prelude.{Bool, true, false, cond, ◌&&◌, ◌≡◌, Some, Result, ℕ, ◌-◌, ◌≤◌, ℤ, pos}
use Rattle.rules.specs.declared.Geometry.{Geometry}
use Rattle.rules.specs.declared.Point.{Point}
use Rattle.rules.specs.declared.Square.{Square}
use Rattle.rules.specs.declared.Correction.{Correction}
use Rattle.rules.specs.declared.Spacings.{Spacings}
use Rattle.rules.specs.declared.PlaceInCell.{PlaceInCell}
use Rattle.rules.specs.declared.Refusal.{Refusal}
use Rattle.rules.specs.Units.{correction_limit, quasi_geoid_limit}
use Rattle.rules.specs.Answers.{Outcome, values, ask, mapped, outcome_of}
use Rattle.rules.specs.Image.{Grid}
use Rattle.rules.specs.Limits.{GeometryPasses}
use Rattle.rules.specs.Bilinear.{offset, cell_for, part_for, corners, bilinear, value_at}
use Rattle.rules.specs.Lookup.{Height, inside, square_passes, question9, corrections_at}
use Rattle.image.specs.declared.fit.FitImage.{FitImage}
use Rattle.image.specs.Fit.{grid_in}
use Rattle.axis.specs.Place.{reaches}
use Rattle.bilinear.specs.Mean.{InCell}
use Rattle.lookup.specs.declared.CellCorners.{CellCorners}
use Rattle.lookup.specs.declared.Placed.{Placed}
use Rattle.lookup.specs.declared.HeldCell.{HeldCell}
use Rattle.lookup.specs.declared.PointValues.{PointValues}
use Rattle.lookup.specs.declared.Offsets.{Offsets}
use Rattle.lookup.specs.declared.CellPlace.{CellPlace}

-- A point in the bounds of a geometry that questions 3 to 5 let pass.
pub record Bounded (g : Geometry) (p : Point) : Type 0 where
  pub geometry : GeometryPasses g
  pub point : inside g p ≡ true

-- A point in the bounds of a fit image.
abbrev pub Around : FitImage → Point → Type 0
Around i p = inside (grid_in i).corrections p ≡ true

-- And of one whose heights stand at the corrections' nodes.
abbrev pub NodesAround : FitImage → Point → Type 0
NodesAround i p = Around i p × ((grid_in i).separate ≡ false)

-- The spacings of a grid.
abbrev pub spacings_of : Geometry → Spacings
spacings_of g = record { latitude = g.latitude.spacing; longitude = g.longitude.spacing }

-- How far a point in the bounds lies from the south and the west bound.
abbrev pub offsets_of : Geometry → Point → Offsets
offsets_of g p = record { northing = offset g.latitude p.latitude; easting = offset g.longitude p.longitude }

-- The cell of a point in the bounds, and the point's place in it.
abbrev pub cell_place : Geometry → Point → CellPlace
cell_place g p =
    record {
      row = cell_for g.latitude p.latitude;
      column = cell_for g.longitude p.longitude;
      at = record { u = part_for g.latitude p.latitude; v = part_for g.longitude p.longitude };
    }

abbrev pub zeros : Square
zeros = record { southwest = pos 0; southeast = pos 0; northwest = pos 0; northeast = pos 0 }

-- The heights at the corners of the cell of a row and a column: zeros, which pass question 9, where they stand on a separate grid, since a
-- cell of corrections then has none.
abbrev pub height_corners : (separate : Bool) → (ℕ → ℕ → ℤ) → (row column : ℕ) → Square
height_corners separate f row column = cond separate zeros (corners f row column)

-- Each value there.
abbrev pub cell_corners : Grid → (row column : ℕ) → CellCorners
cell_corners g row column =
    record {
      latitude = corners g.latitude row column;
      longitude = corners g.longitude row column;
      height = height_corners g.separate g.height row column;
    }

-- The corners of the cell of a point in the bounds of a grid.
abbrev pub placed_cell : Grid → Point → Placed CellCorners
placed_cell g p =
    let cell = cell_place g.corrections p in
    record { corners = cell_corners g cell.row cell.column; spacings = spacings_of g.corrections; at = cell.at }

-- Question 9 of the three values at a cell's corners.
unfoldable pub corners_pass : CellCorners → Bool
corners_pass c =
    square_passes correction_limit c.latitude
    && (square_passes correction_limit c.longitude && square_passes quasi_geoid_limit c.height)

-- The held cell of a point in the bounds, from its corners.
abbrev pub held_cell : (bounds : Geometry) → Point → Placed CellCorners → HeldCell
held_cell bounds p cell =
    record {
      south = (offsets_of bounds p).northing - cell.at.u;
      west = (offsets_of bounds p).easting - cell.at.v;
      spacings = cell.spacings;
      corners = cell.corners;
      passes = corners_pass cell.corners;
    }

-- The cell of a grid around a point in its bounds.
unfoldable pub held_at : (bounds : Geometry) → Grid → Point → HeldCell
held_at bounds g p = held_cell bounds p (placed_cell g p)

-- The cell before one is read, in which no point lies.
abbrev pub no_cell : HeldCell
no_cell =
    record {
      south = 0;
      west = 0;
      spacings = record { latitude = 0; longitude = 0 };
      corners = record { latitude = zeros; longitude = zeros; height = zeros };
      passes = false;
    }

-- A point at or past both sides of a held cell, and less than one spacing from each.
unfoldable pub lies_in : HeldCell → (bounds : Geometry) → Point → Bool
lies_in h bounds p =
    reaches h.south h.spacings.latitude (offsets_of bounds p).northing
    && reaches h.west h.spacings.longitude (offsets_of bounds p).easting

-- The place of a point in a held cell.
abbrev pub place_in : HeldCell → (bounds : Geometry) → Point → PlaceInCell
place_in h bounds p = record { u = (offsets_of bounds p).northing - h.south; v = (offsets_of bounds p).easting - h.west }

-- A held cell holds a point in the bounds that is at or past both of its sides, and at most one spacing from each. The cell's answer to
-- question 9 is that of its corners.
pub record Holds (h : HeldCell) (bounds : Geometry) (p : Point) : Type 0 where
  pub bounded : Bounded bounds p
  pub south : h.south ≤ (offsets_of bounds p).northing
  pub west : h.west ≤ (offsets_of bounds p).easting
  pub place : InCell h.spacings (place_in h bounds p)
  pub asked : h.passes ≡ corners_pass h.corners

-- The bilinear value of a square's corners at a place in a cell.
unfoldable pub value_in : Square → Spacings → PlaceInCell → ℤ
value_in c s at = bilinear c at.u at.v s.latitude s.longitude

-- At a point in a held cell the corrections, and after question 9 the height.
abbrev pub corrections_in : HeldCell → (bounds : Geometry) → Point → Correction
corrections_in h bounds p =
    let at = place_in h bounds p in
    record { latitude = value_in h.corners.latitude h.spacings at; longitude = value_in h.corners.longitude h.spacings at }

abbrev pub height_in : HeldCell → (bounds : Geometry) → Point → Outcome Height
height_in h bounds p = ask h.passes 9 (values (Some (value_in h.corners.height h.spacings (place_in h bounds p))))

-- All three values at a point's place in its cell.
abbrev pub values_in : Placed CellCorners → PointValues
values_in cell =
    let c = cell.corners in
    record {
      correction = record { latitude = value_in c.latitude cell.spacings cell.at; longitude = value_in c.longitude cell.spacings cell.at };
      height = value_in c.height cell.spacings cell.at;
    }

-- What is found at a point: its corrections, and its height or that it has none.
pub record PointFound : Type 0 where
  pub correction : Correction
  pub height : Height

abbrev pub point_found : Correction → Height → PointFound
point_found c z = record { correction = c; height = z }

-- The lookup of all values at a point in the bounds, on one grid: question 9 for its cell, then the values.
unfoldable pub node_lookup : Grid → Point → Outcome PointFound
node_lookup g p = ask (question9 g p) 9 (values (point_found (corrections_at g p) (Some (value_at g.corrections g.height p))))

-- The code's answer, in these terms.
abbrev pub values_found : PointValues → PointFound
values_found v = point_found v.correction (Some v.height)

abbrev pub point_lookup_of : Result PointValues Refusal → Outcome PointFound
point_lookup_of result = mapped values_found (outcome_of result)
