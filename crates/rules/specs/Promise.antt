-- Demand 3, the return promise (document 01, "Grid check"), what of it holds with a dense grid (document 02, note 5), and what holds of
-- kind 2 without a margin (note 6). Answered means with values. A trip hands the second way the two angles and the height that the first
-- one answered. Its whole statement is `Promised`, which is proved: `promise`, crates/returning/proofs/Return.antt.
use Rattle.std.specs.Prelude.{true, false, cond, List, ◌≡◌, ℕ, ◌≤◌, ℤ, pos, nat_abs, ◌+ℤ◌, ◌-ℤ◌, ◌≤ℤ◌}
use Rattle.rules.specs.declared.Geometry.{Geometry}
use Rattle.rules.specs.declared.Layout.{Layout}
use Rattle.rules.specs.declared.Point.{Point}
use Rattle.rules.specs.declared.Position.{Position}
use Rattle.rules.specs.declared.Findings.{Findings}
use Rattle.rules.specs.Units.{out_height_limit, most_evaluations, fix_margin, point_margin, point_height_limit}
use Rattle.rules.specs.Answers.{values}
use Rattle.rules.specs.Image.{south, north, west, east}
use Rattle.rules.specs.Questions.{opening}
use Rattle.rules.specs.Limits.{PointWithin}
use Rattle.rules.specs.Ways.{Accepted, with_height, question7, way_back, way_out}
use Rattle.rules.specs.Check.{grid_check}

-- A point is at least d inside the four bounds of a geometry.
pub record Margin (d : ℕ) (g : Geometry) (p : Point) : Type 0 where
  pub from_south : (south g +ℤ pos d) ≤ℤ p.latitude
  pub to_north : p.latitude ≤ℤ (north g -ℤ pos d)
  pub from_west : (west g +ℤ pos d) ≤ℤ p.longitude
  pub to_east : p.longitude ≤ℤ (east g -ℤ pos d)

-- The same of both geometries of a layout, that of the corrections and that of the heights. In edition 1 they are one.
pub record Margins (d : ℕ) (l : Layout) (p : Point) : Type 0 where
  pub corrections : Margin d l.latitude.geometry p
  pub heights : Margin d l.height.geometry p

-- Each angle of p is within d nd of q's.
pub record AnglesWithin (d : ℕ) (p q : Point) : Type 0 where
  pub latitude : nat_abs (p.latitude -ℤ q.latitude) ≤ d
  pub longitude : nat_abs (p.longitude -ℤ q.longitude) ≤ d

-- The point of an answer.
abbrev pub point_of : Position → Point
point_of a = record { latitude = a.latitude; longitude = a.longitude }

-- How far from the fix an angle returns at most: 1 nd, with a dense grid 3 nd.
abbrev pub return_distance : Layout → ℕ
return_distance l = cond l.nested 3 1

-- A fix p with height h that is answered going out with `outward`, and this, taken back, with `returned`:
pub record Returns (b : List ℕ) (l : Layout) (p : Point) (h : ℤ) (outward returned : Position) : Type 0 where
  -- after at most five grid evaluations, their count in the answer;
  pub at_least_one : 1 ≤ outward.count
  pub at_most_five : outward.count ≤ most_evaluations
  -- each angle within 1 nd of the fix's (3 nd with a dense grid), and the fix's height exactly;
  pub angles : AnglesWithin (return_distance l) (point_of returned) p
  pub height : returned.height ≡ h
  -- without a dense grid, every other Bessel point in the bounds (what is answered going back is) that also goes back to within 1 nd of the
  -- fix in both angles lies within 3 nd of the way out's answer in each angle.
  pub others : l.nested ≡ false → (q : Point) (H : ℤ) (r : Accepted) → way_back b q H ≡ values r
      → AnglesWithin 1 (point_of r.position) p → AnglesWithin 3 q (point_of outward)

-- A fix goes out and back.
pub record OutAndBack (b : List ℕ) (l : Layout) (p : Point) (h : ℤ) : Type 0 where
  pub outward : Position
  pub returned : Position
  pub answered : way_out b p h ≡ values (with_height outward)
  pub back_again : way_back b (point_of outward) outward.height ≡ values (with_height returned)
  pub returns : Returns b l p h outward returned

-- A Bessel point q with NAP height H goes back and out.
pub record BackAndOut (b : List ℕ) (q : Point) (H : ℤ) : Type 0 where
  pub etrs89 : Position
  pub returned : Position
  -- it is answered going back, and that answer, taken out, is answered too
  pub answered : way_back b q H ≡ values (with_height etrs89)
  pub out_again : way_out b (point_of etrs89) etrs89.height ≡ values (with_height returned)
  -- each angle within 2 nd of the point's, and the height within 1 unit of the point's
  pub angles : AnglesWithin 2 (point_of returned) q
  pub heights : nat_abs (returned.height -ℤ H) ≤ 1

-- Kind 2: a fix p with height h, anywhere, that is answered going out with `outward`, and this, taken back, with `returned`:
pub record ReturnsAnywhere (p : Point) (h : ℤ) (outward returned : Accepted) : Type 0 where
  -- after at most five grid evaluations, within question 7's limits;
  pub at_least_one : 1 ≤ outward.position.count
  pub at_most_five : outward.position.count ≤ most_evaluations
  pub limits : PointWithin (point_of outward.position)
  -- each angle within 1 nd of the fix's; both answers have a height or neither has one, and where they have, the fix's returns exactly.
  pub angles : AnglesWithin 1 (point_of returned.position) p
  pub numbers : returned.number ≡ outward.number
  pub height : outward.number ≡ 0 → returned.position.height ≡ h

pub record OutAndBackAnywhere (b : List ℕ) (p : Point) (h : ℤ) : Type 0 where
  pub outward : Accepted
  pub returned : Accepted
  pub answered : way_out b p h ≡ values outward
  pub back_again : way_back b (point_of outward.position) outward.position.height ≡ values returned
  pub returns : ReturnsAnywhere p h outward returned

-- The promise of an image with its layout, for both kinds of trip.
pub record ReturnPromise (b : List ℕ) (l : Layout) : Type 0 where
  -- every fix at least 10,000,000 nd inside all four bounds, height in limits
  pub fixes : (p : Point) (h : ℤ) → Margins fix_margin l p → nat_abs h ≤ out_height_limit → OutAndBack b l p h
  -- without a dense grid, every Bessel point at least 20,000,000 nd inside all four bounds, with NAP height within 99,000,000 units of zero
  pub points : l.nested ≡ false → (q : Point) (H : ℤ) → Margins point_margin l q → nat_abs H ≤ point_height_limit → BackAndOut b q H
  -- of kind 2, every fix within question 7's limits, without a margin
  pub anywhere : l.unbounded ≡ true → (p : Point) (h : ℤ) → question7 out_height_limit p h ≡ true → OutAndBackAnywhere b p h

-- Demand 3: every image that passes the grid check, whatever values its nodes hold, has a layout and keeps the promise.
abbrev pub Promised : Type 0
Promised = (b : List ℕ) (f : Findings) → grid_check b ≡ values f → (l : Layout) × (opening b ≡ values l) × ReturnPromise b l
