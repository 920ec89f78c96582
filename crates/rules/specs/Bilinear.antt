-- Document 01, "Bilinear value", over any values by row and column.
-- The offset of an angle, its cell, its part of the cell and the value at a point mean something only in the bounds. Outside them the
-- offset is the distance to the start, to whichever side, and the cell the last at most: no rule asks for them there.
use Rattle.std.specs.Prelude.{ℕ, ◌+◌, ◌-◌, ◌*◌, ◌/◌, min, List, [], ℤ, pos, nat_abs, ◌+ℤ◌, ◌-ℤ◌, ◌*ℤ◌, get_or}
use Rattle.integers.specs.Rounding.{round_half_up}
use Rattle.rules.specs.declared.Axis.{Axis}
use Rattle.rules.specs.declared.Geometry.{Geometry}
use Rattle.rules.specs.declared.Point.{Point}
use Rattle.rules.specs.declared.Square.{Square}

-- The distance of an angle from the axis's start, the south or west bound.
abbrev pub offset : Axis → ℤ → ℕ
offset a z = nat_abs (z -ℤ a.start)

-- The cell of an offset: whole spacings, rounded down; on the far bound the last cell.
unfoldable pub cell_of : Axis → ℕ → ℕ
cell_of a x = min (x / a.spacing) (a.count - 2)

-- The offset's part of its cell, document 01's u or v: on the far bound the whole spacing.
unfoldable pub part_of : Axis → ℕ → ℕ
part_of a x = x - cell_of a x * a.spacing

-- The cell of an angle on an axis, and the angle's part of it.
abbrev pub cell_for : Axis → ℤ → ℕ
cell_for a z = cell_of a (offset a z)

abbrev pub part_for : Axis → ℤ → ℕ
part_for a z = part_of a (offset a z)

-- The four corner values from document 01's two by two square: two rows of two, the south row first, each from west to east.
abbrev pub square_of : List (List ℤ) → Square
square_of s =
    record {
      southwest = get_or (get_or s 0 []) 0 (pos 0);
      southeast = get_or (get_or s 0 []) 1 (pos 0);
      northwest = get_or (get_or s 1 []) 0 (pos 0);
      northeast = get_or (get_or s 1 []) 1 (pos 0);
    }

-- The corners of the cell of a row and a column.
abbrev pub corners : (ℕ → ℕ → ℤ) → ℕ → ℕ → Square
corners f row column =
    record {
      southwest = f row column;
      southeast = f row (column + 1);
      northwest = f (row + 1) column;
      northeast = f (row + 1) (column + 1);
    }

-- The corners of a point's cell.
abbrev pub corners_for : Geometry → (ℕ → ℕ → ℤ) → Point → Square
corners_for g f p = corners f (cell_for g.latitude p.latitude) (cell_for g.longitude p.longitude)

-- The sum of corner times weight: u and v are the point's distance from the cell's south and west side, P and Q the latitude and longitude
-- spacing.
unfoldable pub weighted : Square → (u v P Q : ℕ) → ℤ
weighted c u v P Q =
    c.southwest *ℤ pos ((P - u) * (Q - v))
    +ℤ c.southeast *ℤ pos ((P - u) * v)
    +ℤ c.northwest *ℤ pos (u * (Q - v))
    +ℤ c.northeast *ℤ pos (u * v)

-- The value: the exact value, which is that sum divided by P × Q, plus one half, rounded down.
unfoldable pub bilinear : Square → (u v P Q : ℕ) → ℤ
bilinear c u v P Q = round_half_up (weighted c u v P Q) (P * Q)

-- The value at a point in the bounds; a and o are the latitude and the longitude axis.
unfoldable pub value_at : Geometry → (ℕ → ℕ → ℤ) → Point → ℤ
value_at g f p =
    let a = g.latitude in
    let o = g.longitude in
    bilinear (corners f (cell_for a p.latitude) (cell_for o p.longitude))
    (part_for a p.latitude) (part_for o p.longitude)
    a.spacing o.spacing

-- The sum at a point in the bounds: P × Q times the exact value there, before it is rounded.
unfoldable pub exact_sum : Geometry → (ℕ → ℕ → ℤ) → Point → ℤ
exact_sum g f p =
    let a = g.latitude in
    let o = g.longitude in
    weighted (corners_for g f p) (part_for a p.latitude) (part_for o p.longitude) a.spacing o.spacing

abbrev pub area : Geometry → ℕ
area g = g.latitude.spacing * g.longitude.spacing
