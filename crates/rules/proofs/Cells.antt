-- The laws of an axis that questions 3 to 5 let pass: angles between its bounds, an offset's cell and its part of it; and of points over
-- two such axes.
use mathlib.Core.Bool.{true}
use mathlib.Core.Path.{◌≡◌, ap}
use Prim.Native.Nat.{ℕ, ◌+◌, ◌-◌, ◌*◌, ◌/◌, ◌≤◌, ◌<◌, min}
use native.Mathlib.Decide.{dec_le}
use native.Mathlib.Nat.{mul-le-mul, min-le_left, min-le_right, min-eq_left, min-eq_right, le-min}
use native.Mathlib.Nat.{mul-le-mul_right, le_trans, div-mul-le_self, le-div_iff_mul-le, div-lt_iff_lt-mul, lt-div-mul-add}
use native.Mathlib.Omega.{arith}
use lib.IntN.{ℤ, nat_abs}
use lib.Signed.{◌≤ℤ◌, le_z}
use Rattle.integers.specs.Difference.{≤ℤ-parts, order, var, lit, ◌⊕◌, ◌⊖◌}
use Rattle.integers.specs.Distance.{size, abs_is}
use Rattle.integers.specs.Machine.{is_le_z, zarith}
use Rattle.integers.specs.Booleans.{and_left, and_right, and_both}
use Rattle.rules.specs.declared.Axis.{Axis}
use Rattle.rules.specs.declared.Geometry.{Geometry}
use Rattle.rules.specs.declared.Point.{Point}
use Rattle.rules.specs.Image.{far_bound, rows, columns}
use Rattle.rules.specs.Limits.{Sized, AxisPasses, GeometryPasses, PointWithin}
use Rattle.rules.specs.Bilinear.{offset, cell_of, part_of, cell_for, part_for}
use Rattle.rules.specs.Lookup.{on_axis, inside}

-- An angle on the axis lies between its bounds, and conversely.
pub from_start : (a : Axis) (z : ℤ) → on_axis a z ≡ true → a.start ≤ℤ z
unfolding on_axis
from_start a z h = let t = and_left (le_z a.start z) (le_z z (far_bound a)) h in omega zarith

pub to_far : (a : Axis) (z : ℤ) → on_axis a z ≡ true → z ≤ℤ far_bound a
unfolding on_axis
to_far a z h = let t = and_right (le_z a.start z) (le_z z (far_bound a)) h in omega zarith

pub on_axis_lem : (a : Axis) (z : ℤ) → a.start ≤ℤ z → z ≤ℤ far_bound a → on_axis a z ≡ true
unfolding on_axis
on_axis_lem a z h k = and_both (is_le_z a.start z (≤ℤ-parts _ _ h)) (is_le_z z (far_bound a) (≤ℤ-parts _ _ k))

-- Its offset is at most (count − 1) spacings.
pub offset_most : (a : Axis) (z : ℤ) → on_axis a z ≡ true → offset a z ≤ (a.count - 1) * a.spacing
offset_most a z h =
    let from = from_start a z h in
    let to = to_far a z h in
    omega (arith, order, abs_is (var z ⊖ var a.start), var a.start ⊕ lit ((a.count - 1) * a.spacing))

-- The cells are 0 to count − 2.
pub cell_most : (a : Axis) (x : ℕ) → cell_of a x ≤ a.count - 2
unfolding cell_of
cell_most a x = min-le_right (x / a.spacing) (a.count - 2)

-- Both nodes of a cell are nodes of the axis.
pub cell_nodes : (a : Axis) (x : ℕ) → Sized a → cell_of a x + 1 < a.count
cell_nodes a x o = omega (arith, cell_most a x, o.count_least)

-- What holds of every node holds of the four corners of a point's cell.
pub record AtCorners (T : ℕ → ℕ → Type 0) (row column : ℕ) : Type 0 where
  pub southwest : T row column
  pub southeast : T row (column + 1)
  pub northwest : T (row + 1) column
  pub northeast : T (row + 1) (column + 1)

pub at_corners : {g : Geometry} (T : ℕ → ℕ → Type 0) → GeometryPasses g
    → ((row column : ℕ) → row < rows g → column < columns g → T row column)
    → (p : Point) → AtCorners T (cell_for g.latitude p.latitude) (cell_for g.longitude p.longitude)
at_corners {g} T o all p =
    let row = cell_for g.latitude p.latitude in
    let column = cell_for g.longitude p.longitude in
    let k = cell_nodes g.latitude (offset g.latitude p.latitude) o.latitude.sized in
    let l = cell_nodes g.longitude (offset g.longitude p.longitude) o.longitude.sized in
    record {
      southwest = all row column (omega arith) (omega arith);
      southeast = all row (column + 1) (omega arith) l;
      northwest = all (row + 1) column k (omega arith);
      northeast = all (row + 1) (column + 1) k l;
    }

-- So many whole spacings, or fewer, reach at most to the offset; so the cell starts at or before it.
pub whole_spacings : (x spacing most : ℕ) → min (x / spacing) most * spacing ≤ x
whole_spacings x spacing most = le_trans (mul-le-mul_right spacing (min-le_left (x / spacing) most)) (div-mul-le_self x spacing)

pub cell_start : (a : Axis) (x : ℕ) → cell_of a x * a.spacing ≤ x
unfolding cell_of
cell_start a x = whole_spacings x a.spacing (a.count - 2)

-- Less its part, an offset is the cell's start.
pub less_part : (a : Axis) (x : ℕ) → x - part_of a x ≡ cell_of a x * a.spacing
unfolding part_of
less_part a x = omega (arith, cell_start a x)

-- A larger offset lies in the same cell or in a later one.
pub cell_order : (a : Axis) (x y : ℕ) → Sized a → x ≤ y → cell_of a x ≤ cell_of a y
unfolding cell_of
cell_order a x y o h = le-min ((le-div_iff_mul-le o.spacing_least).1 (le_trans (cell_start a x) h)) (cell_most a x)

-- An offset at or past a cell's start, and less than one spacing from it, lies in that cell.
pub cell_is : (a : Axis) (k x : ℕ) → Sized a → k ≤ a.count - 2 → k * a.spacing ≤ x → x - k * a.spacing < a.spacing → cell_of a x ≡ k
unfolding cell_of
cell_is a k x o m h l =
    let least : k ≤ x / a.spacing = (le-div_iff_mul-le o.spacing_least).1 h in
    let most : x / a.spacing < k + 1 = (div-lt_iff_lt-mul o.spacing_least).1 (omega arith) in
    omega arith

-- The part is at most the spacing.
pub part_most : (a : Axis) (x : ℕ) → Sized a → x ≤ (a.count - 1) * a.spacing → part_of a x ≤ a.spacing
unfolding part_of cell_of
part_most a x o h = by (dec_le (x / a.spacing) (a.count - 2))
  where
    by : Dec (x / a.spacing ≤ a.count - 2) → x - min (x / a.spacing) (a.count - 2) * a.spacing ≤ a.spacing
    by (yes l) = rw (min-eq_left l) (omega (arith, lt-div-mul-add {a = x} o.spacing_least))
    by (no l) =
        let m : min (x / a.spacing) (a.count - 2) ≡ a.count - 2 = min-eq_right (omega arith) in
        let k : a.count - 2 + 1 ≡ a.count - 1 = omega (arith, o.count_least) in
        rw m (omega (arith, ap (λ (n : ℕ). n * a.spacing) k))

-- The same of an angle on the axis.
pub part_for_most : (a : Axis) (z : ℤ) → Sized a → on_axis a z ≡ true → part_for a z ≤ a.spacing
part_for_most a z o i = part_most a (offset a z) o (offset_most a z i)

-- An axis is at most 4,095 × 100,000,000 nd long.
pub length_most : (a : Axis) → Sized a → (a.count - 1) * a.spacing ≤ 409500000000
length_most a s = mul-le-mul {n₂ = 4095} (omega arith) s.spacing_most_lem

-- An angle on the axis is within the limit of its bounds.
pub axis_within : {limit : ℕ} {a : Axis} → AxisPasses limit a → (z : ℤ) → on_axis a z ≡ true → nat_abs z ≤ limit
axis_within {a} o z i = omega (arith, order, from_start a z i, to_far a z i, size a.start, size (far_bound a), abs_is (var z))

-- A point in the bounds lies on both axes.
pub on_latitude : (g : Geometry) (p : Point) → inside g p ≡ true → on_axis g.latitude p.latitude ≡ true
unfolding inside
on_latitude g p h = and_left _ _ h

pub on_longitude : (g : Geometry) (p : Point) → inside g p ≡ true → on_axis g.longitude p.longitude ≡ true
unfolding inside
on_longitude g p h = and_right (on_axis g.latitude p.latitude) _ h

-- A point in the bounds is within the limits of its angles.
pub point_within : (g : Geometry) (p : Point) → GeometryPasses g → inside g p ≡ true → PointWithin p
point_within g p o i =
    record {
      latitude = axis_within o.latitude p.latitude (on_latitude g p i);
      longitude = axis_within o.longitude p.longitude (on_longitude g p i);
    }
