-- Document 02, note 5: the dense grid inside the coarse one, by their geometries: where its nodes lie, and question 20.
use Rattle.std.specs.Prelude.{Bool, ◌&&◌, ℕ, ◌*◌, ◌%◌, eqb, ℤ, pos, ◌+ℤ◌}
use Rattle.rules.specs.declared.Axis.{Axis}
use Rattle.rules.specs.declared.Geometry.{Geometry}
use Rattle.rules.specs.declared.Point.{Point}
use Rattle.rules.specs.Image.{far_bound}
use Rattle.rules.specs.Bilinear.{offset}
use Rattle.rules.specs.Lookup.{on_axis}

-- The angle of node i of an axis, and the point of a node.
abbrev pub node_angle : Axis → ℕ → ℤ
node_angle a i = a.start +ℤ pos (i * a.spacing)

abbrev pub node_point : Geometry → (row column : ℕ) → Point
node_point g row column = record { latitude = node_angle g.latitude row; longitude = node_angle g.longitude column }

-- An angle in the bounds of an axis and on a grid line: its distance from the start is a whole number of spacings.
unfoldable pub on_line : Axis → ℤ → Bool
on_line a z = on_axis a z && eqb (offset a z % a.spacing) 0

-- Both dense bounds lie on coarse grid lines, and the coarse spacing is a whole multiple of the dense one.
unfoldable pub axis_aligned : (coarse dense : Axis) → Bool
axis_aligned c d = on_line c d.start && (on_line c (far_bound d) && eqb (c.spacing % d.spacing) 0)

-- 20. Is the dense grid within the coarse one, and aligned with it?
unfoldable pub question20 : (coarse dense : Geometry) → Bool
question20 c d = axis_aligned c.latitude d.latitude && axis_aligned c.longitude d.longitude
