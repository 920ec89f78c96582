-- The border of a grid's bounds. Its sides are grid lines; and between a point in the bounds and one outside lies a point on the border: on
-- each axis the angle of the axis that is nearest to the outer point's.
use Rattle.std.specs.Prelude.{true, ◌⊎◌, ◌≡◌, ℕ, ℤ}
use Rattle.rules.specs.declared.Axis.{Axis}
use Rattle.rules.specs.declared.Geometry.{Geometry}
use Rattle.rules.specs.declared.Point.{Point}
use Rattle.rules.specs.Image.{far_bound}
use Rattle.rules.specs.Lookup.{inside}
use Rattle.returning.specs.Points.{Close}

-- A bound of an axis, and a point on the border of a grid's bounds.
pub data Bound (a : Axis) (z : ℤ) : Type 0 where
  at_start : z ≡ a.start → Bound a z
  at_far : z ≡ far_bound a → Bound a z

abbrev pub OnBorder : Geometry → Point → Type 0
OnBorder g p = Bound g.latitude p.latitude ⊎ Bound g.longitude p.longitude

-- Of a point q in the bounds and one r outside, D apart: a point on the border, at most D from each.
pub record Between (g : Geometry) (D : ℕ) (q r : Point) : Type 0 where
  pub point : Point
  pub in_bounds : inside g point ≡ true
  pub on_border : OnBorder g point
  pub from : Close D q point
  pub to : Close D point r
