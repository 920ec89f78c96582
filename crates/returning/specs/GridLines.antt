-- On a grid line, a row or a column of nodes, the bilinear value is a line along the one axis: the other has all its weight on that line.
use Rattle.std.specs.Prelude.{◌≡◌, ℕ, ◌*◌, ◌≤◌, ℤ, ◌*ℤ◌}
use Rattle.std.proofs.Math.IntN.{pos}
use Rattle.rules.specs.declared.Axis.{Axis}
use Rattle.rules.specs.declared.Geometry.{Geometry}
use Rattle.rules.specs.declared.Point.{Point}
use Rattle.rules.specs.Bilinear.{exact_sum, area}
use Rattle.returning.specs.Line.{line}

-- ---- a point on a grid line
-- The sum of corner times weight at p is that of a line along axis a, at angle z, times the spacing of the other axis.
pub record Along (g : Geometry) (f : ℕ → ℕ → ℤ) (p : Point) (a : Axis) (h : ℕ → ℤ) (z : ℤ) : Type 0 where
  pub across : ℕ
  pub across_least : 1 ≤ across
  pub area_is : area g ≡ across * a.spacing
  pub sum : exact_sum g f p ≡ line a h z *ℤ pos across
