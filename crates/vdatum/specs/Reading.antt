-- What the code reads of a file: a number of the header, an axis and the geometry, or none where they are not finite or beyond a
-- limit.
use Rattle.std.specs.Prelude.{Bool, ◌&&◌, List, Option, ℕ, ℤ}
use Rattle.std.specs.Bool.{then_some}
use Rattle.rules.specs.declared.Axis.{Axis}
use Rattle.rules.specs.declared.Geometry.{Geometry}
use Rattle.rules.specs.Units.{within, longitude_limit}
use Rattle.rules.specs.Floats.{binary64, finite}
use Rattle.rules.specs.Vdatum.{big_u64_at, degrees_at, header_axis, header_of}

-- A number of the header that is finite and within 180 degrees of zero.
unfoldable pub degrees_fit : List ℕ → (at : ℕ) → Bool
degrees_fit b at = finite binary64 (big_u64_at b at) && within longitude_limit (degrees_at b at)

abbrev pub degrees_read : List ℕ → (at : ℕ) → Option ℤ
degrees_read b at = then_some (degrees_fit b at) (degrees_at b at)

-- An axis both of whose numbers are, and the geometry of two.
abbrev pub axis_fits : List ℕ → (start spacing : ℕ) → Bool
axis_fits b start spacing = degrees_fit b start && degrees_fit b spacing

abbrev pub axis_read : List ℕ → (start spacing count : ℕ) → Option Axis
axis_read b start spacing count = then_some (axis_fits b start spacing) (header_axis b start spacing count)

abbrev pub geometry_read : List ℕ → Option Geometry
geometry_read b = then_some (axis_fits b 0 16 && axis_fits b 8 24) (header_of b)
