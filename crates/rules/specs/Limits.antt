-- What the questions establish, as inequalities: what functions below the entry points require of their callers. That they follow from the
-- questions' answers is proved (../proofs/Opening.antt, Limits.antt and Cells.antt there), so a reader need not believe them.
use Rattle.std.specs.Prelude.{true, false, List, ◌≡◌, ℕ, ◌+◌, ◌*◌, ◌≤◌, ◌<◌, nat_abs, length}
use Rattle.rules.specs.declared.Axis.{Axis}
use Rattle.rules.specs.declared.Geometry.{Geometry}
use Rattle.rules.specs.declared.FileGrids.{FileGrids}
use Rattle.rules.specs.declared.Plane.{Plane}
use Rattle.rules.specs.declared.Layout.{Layout}
use Rattle.rules.specs.declared.Square.{Square}
use Rattle.rules.specs.declared.Correction.{Correction}
use Rattle.rules.specs.declared.Point.{Point}
use Rattle.rules.specs.Units.{latitude_limit, longitude_limit, count_most, spacing_most, correction_limit}
use Rattle.rules.specs.Answers.{Outcome, values, number}
use Rattle.rules.specs.Image.{far_bound, rows, columns, beside_of}
use Rattle.rules.specs.Lookup.{inside}
use Rattle.rules.specs.Dense.{question20}

-- What questions 3 and 4 establish of an axis.
pub record Sized (a : Axis) : Type 0 where
  pub count_least : 2 ≤ a.count
  pub count_most : a.count ≤ count_most
  pub spacing_least : 1 ≤ a.spacing
  pub spacing_most_lem : a.spacing ≤ spacing_most

-- And 5, of its bounds.
pub record AxisPasses (limit : ℕ) (a : Axis) : Type 0 where
  pub sized : Sized a
  pub start_within : nat_abs a.start ≤ limit
  pub far_within : nat_abs (far_bound a) ≤ limit

-- The same of both axes.
pub record GeometryPasses (g : Geometry) : Type 0 where
  pub latitude : AxisPasses latitude_limit g.latitude
  pub longitude : AxisPasses longitude_limit g.longitude

-- And of a geometry that the conversion of a grid file hands back.
abbrev pub HandedBack : Outcome Geometry → Type 0
HandedBack (values g) = GeometryPasses g
HandedBack (number n) = Unit {0}

-- And of the two that the conversion of an NTv2 file does: their numbers are so small, where the second is zeros too.
pub record SmallAxis (a : Axis) : Type 0 where
  pub start_within : nat_abs a.start ≤ longitude_limit
  pub spacing_most_lem : a.spacing ≤ spacing_most
  pub count_most : a.count ≤ count_most

pub record SmallGeometry (g : Geometry) : Type 0 where
  pub latitude : SmallAxis g.latitude
  pub longitude : SmallAxis g.longitude

abbrev pub BothHandedBack : Outcome FileGrids → Type 0
BothHandedBack (values g) = SmallGeometry g.coarse × SmallGeometry g.dense
BothHandedBack (number n) = Unit {0}

-- What questions 3 to 6 establish of a plane in an image of `size` bytes: of its geometry, and that the four bytes of each value are in the
-- image.
pub record InImage (size : ℕ) (p : Plane) : Type 0 where
  pub geometry : GeometryPasses p.geometry
  pub bytes : (row column : ℕ) → row < rows p.geometry → column < columns p.geometry
      → p.first + p.stride * (row * columns p.geometry + column) + 4 ≤ size

-- And of a layout with a dense grid: its heights stand on a separate grid, each longitude correction follows its node's latitude
-- correction, and the dense grid is aligned.
pub record Nests (l : Layout) : Type 0 where
  pub separate : l.separate ≡ true
  pub beside : l.longitude ≡ beside_of l.latitude
  pub aligned : question20 l.latitude.geometry l.dense.geometry ≡ true

-- And of any layout: each plane is in the image, both planes of corrections have one geometry, and so has that of the heights where
-- these are not on a separate grid; an unbounded one has its heights on a separate grid, and no dense grid.
pub record Open (size : ℕ) (l : Layout) : Type 0 where
  pub latitude : InImage size l.latitude
  pub longitude : InImage size l.longitude
  pub height : InImage size l.height
  pub dense : InImage size l.dense
  pub dense_longitude : InImage size (beside_of l.dense)
  pub longitude_geometry : l.longitude.geometry ≡ l.latitude.geometry
  pub height_geometry : l.separate ≡ false → l.height.geometry ≡ l.latitude.geometry
  pub nests : l.nested ≡ true → Nests l
  pub apart : l.unbounded ≡ true → l.separate ≡ true
  pub not_nested : l.unbounded ≡ true → l.nested ≡ false

-- And what opening and question 8 establish of an image and a point: it is open with a layout, and the point is in its bounds.
pub record OpenAround (b : List ℕ) (l : Layout) (p : Point) : Type 0 where
  pub layout : Open (length b) l
  pub point : inside l.latitude.geometry p ≡ true

-- The same where an unbounded image is open: any point will do.
pub record OpenFor (b : List ℕ) (l : Layout) (p : Point) : Type 0 where
  pub layout : Open (length b) l
  pub point : l.unbounded ≡ false → inside l.latitude.geometry p ≡ true

-- What question 7 establishes of a point, and question 8 too where the geometry passes.
pub record PointWithin (p : Point) : Type 0 where
  pub latitude : nat_abs p.latitude ≤ latitude_limit
  pub longitude : nat_abs p.longitude ≤ longitude_limit

-- And of a point at most a correction away from one.
pub record PointReached (p : Point) : Type 0 where
  pub latitude : nat_abs p.latitude ≤ latitude_limit + correction_limit
  pub longitude : nat_abs p.longitude ≤ longitude_limit + correction_limit

-- What question 9 establishes of one value's corners, and of the corrections between them.
pub record CornersWithin (limit : ℕ) (c : Square) : Type 0 where
  pub southwest : nat_abs c.southwest ≤ limit
  pub southeast : nat_abs c.southeast ≤ limit
  pub northwest : nat_abs c.northwest ≤ limit
  pub northeast : nat_abs c.northeast ≤ limit

pub record CorrectionWithin (c : Correction) : Type 0 where
  pub latitude : nat_abs c.latitude ≤ correction_limit
  pub longitude : nat_abs c.longitude ≤ correction_limit
