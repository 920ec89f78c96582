-- What the code reads of a header: its geometry and an axis of it, or none where it is unfit.
use Rattle.std.specs.Prelude.{Bool, ◌&&◌, List, Option, ℕ, ◌+◌, ◌/◌, ◌%◌, ◌≤◌, length, ltb, eqb, ℤ, ◌-ℤ◌}
use Rattle.std.specs.Bool.{then_some}
use Rattle.rules.specs.declared.Axis.{Axis}
use Rattle.rules.specs.declared.Geometry.{Geometry}
use Rattle.rules.specs.Units.{within, longitude_limit}
use Rattle.rules.specs.Floats.{binary64, finite, Fraction, value_of}
use Rattle.rules.specs.Files.{natural}
use Rattle.rules.specs.Ntv2.{arcseconds, Extent, spacing_of, axis_of, whole, three_finite, latitude_extent, longitude_extent, grid_header_of}

-- Bytes that have eleven records: an overview, or a header.
abbrev pub HasHeader : List ℕ → Type 0
HasHeader b = 176 ≤ length b

-- An axis by the bits of its numbers.
abbrev pub extent_of : (start end spacing : ℕ) → Extent
extent_of start end spacing =
    record { start = value_of binary64 start; end = value_of binary64 end; spacing = value_of binary64 spacing }

abbrev pub all_finite : (start end spacing : ℕ) → Bool
all_finite start end spacing = finite binary64 start && (finite binary64 end && finite binary64 spacing)

-- Its numbers, rounded, are within 180 degrees of zero; its spacing is above zero, and its bounds are a whole number of spacings apart.
abbrev pub angle_within : Fraction → Bool
angle_within v = within longitude_limit (arcseconds v)

unfoldable pub extent_fits : Extent → Bool
extent_fits e =
    (angle_within e.start && (angle_within e.end && angle_within e.spacing)) && (ltb 0 (spacing_of e) && whole e)

abbrev pub axis_read : (finite : Bool) → Extent → Option Axis
axis_read f e = then_some (f && extent_fits e) (axis_of e)

-- The same between two bounds that were read.
abbrev pub axis_between : (start end : ℤ) → (spacing : ℕ) → Option Axis
axis_between start end spacing =
    let difference = natural (end -ℤ start) in
    then_some (ltb 0 spacing && eqb (difference % spacing) 0)
    (record { start = start; spacing = spacing; count = difference / spacing + 1 })

-- The geometry of two axes.
abbrev pub geometry_read : List ℕ → Option Geometry
geometry_read g =
    then_some
    ((three_finite g 72 88 136 && extent_fits (latitude_extent g)) && (three_finite g 120 104 152 && extent_fits (longitude_extent g)))
    (grid_header_of g)

-- One of the numbers by its bits.
unfoldable pub angle_fits : (bits : ℕ) → Bool
angle_fits bits = finite binary64 bits && angle_within (value_of binary64 bits)

abbrev pub angle_read : (bits : ℕ) → Option ℤ
angle_read bits = then_some (angle_fits bits) (arcseconds (value_of binary64 bits))
