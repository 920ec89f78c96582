-- Two grids of kinds 0 and 3 with the same nodes answer every point alike, and their checks give the same.
use Rattle.std.specs.Prelude.{true, false, ◌≡◌, ℕ, ◌<◌, ℤ}
use Rattle.rules.specs.declared.Geometry.{Geometry}
use Rattle.rules.specs.Units.{stop_distance}
use Rattle.rules.specs.Image.{Grid, rows, columns}
use Rattle.rules.specs.Lookup.{inside, correction_grid_lookup, height_grid_lookup}
use Rattle.rules.specs.Ways.{Source}

-- Two values are the same at every node of a geometry.
abbrev pub SameAtNodes : Geometry → (f h : ℕ → ℕ → ℤ) → Type 0
SameAtNodes g f h = (row column : ℕ) → row < rows g → column < columns g → f row column ≡ h row column

-- A grid as kinds 0 and 3 have it: the heights on a separate grid, no dense grid, and bounds.
pub record OnTwoGrids (g : Grid) : Type 0 where
  pub separate : g.separate ≡ true
  pub nested : g.nested ≡ false
  pub unbounded : g.unbounded ≡ false

-- Two such grids have the same geometries and at every node the same values.
pub record SameNodes (g k : Grid) : Type 0 where
  pub one : OnTwoGrids g
  pub other : OnTwoGrids k
  pub corrections : g.corrections ≡ k.corrections
  pub heights : g.heights ≡ k.heights
  pub latitude : SameAtNodes g.corrections g.latitude k.latitude
  pub longitude : SameAtNodes g.corrections g.longitude k.longitude
  pub height : SameAtNodes g.heights g.height k.height

-- ---- two grids
-- What is asked of such a grid.
abbrev pub answers_on : Grid → Source
answers_on g =
    record { stop = stop_distance; inside = inside g.corrections; corrections = correction_grid_lookup g; height = height_grid_lookup g }
