-- The angles of nodes, and what question 20 establishes: both bounds of a dense axis are nodes of the coarse one, all its angles lie on
-- that, and the coarse spacing is a whole number of dense ones.
use mathlib.Core.Bool.{true}
use mathlib.Core.Path.{◌≡◌, refl}
use Prim.Native.Nat.{ℕ, ◌+◌, ◌-◌, ◌*◌, ◌/◌, ◌%◌, ◌≤◌, ◌<◌}
use native.Mathlib.Nat.{div-add-mod', mul-le-mul_right, le_of_mul-le-mul_right}
use native.Mathlib.Omega.{arith}
use lib.Dec.{eqb}
use lib.IntN.{ℤ}
use lib.Signed.{◌≤ℤ◌}
use borrow.Author.Tests.{eqb-true}
use Rattle.integers.specs.Difference.{order, var, lit, ◌⊕◌, ◌⊖◌}
use Rattle.integers.specs.Distance.{abs_is}
use Rattle.integers.specs.Booleans.{and_left, and_right, and_both, all_three}
use Rattle.rules.specs.declared.Axis.{Axis}
use Rattle.rules.specs.declared.Geometry.{Geometry}
use Rattle.rules.specs.declared.Point.{Point}
use Rattle.rules.specs.Image.{far_bound}
use Rattle.rules.specs.Limits.{Sized}
use Rattle.rules.specs.Bilinear.{offset}
use Rattle.rules.specs.Lookup.{on_axis, inside}
use Rattle.rules.specs.Dense.{node_angle, on_line, axis_aligned, question20}
use Rattle.rules.proofs.Cells.{from_start, to_far, on_axis_lem, offset_most, on_latitude, on_longitude}

-- ---- nodes
-- The angle z is that of a node of the axis.
pub record AtNode (a : Axis) (z : ℤ) (node : ℕ) : Type 0 where
  pub on : on_axis a z ≡ true
  pub angle : z ≡ node_angle a node

pub at_node : (a : Axis) (i : ℕ) → i < a.count → AtNode a (node_angle a i) i
at_node a i l =
    let m : i * a.spacing ≤ (a.count - 1) * a.spacing = mul-le-mul_right a.spacing (omega arith) in
    let d = var a.start ⊕ lit (i * a.spacing) in
    let e = var a.start ⊕ lit ((a.count - 1) * a.spacing) in
    record { on = on_axis_lem a (node_angle a i) (omega (arith, order)) (omega (arith, order)); angle = refl }

-- The first node is at the start; the last one is at the far bound as this is defined.
pub start_node : (a : Axis) → node_angle a 0 ≡ a.start
start_node a = omega (arith, order, var a.start ⊕ lit (0 * a.spacing))

-- A node lies so many spacings from the start.
pub node_offset : (a : Axis) (i : ℕ) → offset a (node_angle a i) ≡ i * a.spacing
node_offset a i = omega (arith, abs_is (var a.start ⊕ lit (i * a.spacing) ⊖ var a.start))

-- An angle on a grid line is that of a node: its offset in spacings is the node's number, which is below the count.
pub at_line : (a : Axis) (z : ℤ) → on_line a z ≡ true → AtNode a z (offset a z / a.spacing)
unfolding on_line
at_line a z h =
    let i = and_left (on_axis a z) _ h in
    let e : offset a z % a.spacing ≡ 0 = eqb-true _ _ (and_right (on_axis a z) _ h) in
    let k = offset a z / a.spacing in
    let whole : k * a.spacing ≡ offset a z = omega (arith, div-add-mod' (offset a z) a.spacing) in
    record {
      on = i;
      angle = omega (arith, order, from_start a z i, abs_is (var z ⊖ var a.start), var a.start ⊕ lit (k * a.spacing));
    }

pub node_below : {a : Axis} {z : ℤ} {i : ℕ} → Sized a → AtNode a z i → i < a.count
node_below {a} {z} {i} o n =
    let e = rw (← n.angle) at (node_offset a i) in
    let m : i ≤ a.count - 1 = le_of_mul-le-mul_right (omega (arith, e, offset_most a z n.on)) o.spacing_least in
    omega (arith, o.count_least)

-- ---- a dense axis d in a coarse one, c
pub record Aligned (c d : Axis) : Type 0 where
  pub start_on : on_line c d.start ≡ true
  pub far_on : on_line c (far_bound d) ≡ true
  pub spacing_is : c.spacing ≡ c.spacing / d.spacing * d.spacing

pub aligned : (c d : Axis) → axis_aligned c d ≡ true → Aligned c d
unfolding axis_aligned
aligned c d h =
    let t = all_three (on_line c d.start) (on_line c (far_bound d)) (eqb (c.spacing % d.spacing) 0) h in
    let whole : c.spacing % d.spacing ≡ 0 = eqb-true _ _ t.2 in
    record { start_on = t.0; far_on = t.1; spacing_is = omega (arith, div-add-mod' c.spacing d.spacing) }

module _ {c d : Axis} (a : Aligned c d) where
  -- An angle of the dense axis is one of the coarse axis,
  pub in_coarse : (z : ℤ) → on_axis d z ≡ true → on_axis c z ≡ true
  in_coarse z i =
      let s = at_line c d.start a.start_on in
      let f = at_line c (far_bound d) a.far_on in
      on_axis_lem c z
      (omega (arith, order, from_start d z i, from_start c d.start s.on))
      (omega (arith, order, to_far d z i, to_far c (far_bound d) f.on))

  -- and its offset there is that of the dense start plus its own.
  pub coarse_offset : (z : ℤ) → d.start ≤ℤ z → offset c z ≡ offset c d.start + offset d z
  coarse_offset z l =
      let s = from_start c d.start (at_line c d.start a.start_on).on in
      omega (arith, order, abs_is (var z ⊖ var c.start), abs_is (var z ⊖ var d.start), abs_is (var d.start ⊖ var c.start))

  pub node_from : (i : ℕ) → offset c (node_angle d i) ≡ offset c d.start + i * d.spacing
  node_from i =
      omega (arith, coarse_offset (node_angle d i) (omega (arith, order, var d.start ⊕ lit (i * d.spacing))), node_offset d i)

-- ---- both axes of a dense grid in a coarse one
module _ (c d : Geometry) (h : question20 c d ≡ true) where
  pub latitude_aligned : Aligned c.latitude d.latitude
  unfolding question20
  latitude_aligned = aligned c.latitude d.latitude (and_left _ _ h)

  pub longitude_aligned : Aligned c.longitude d.longitude
  unfolding question20
  longitude_aligned = aligned c.longitude d.longitude (and_right (axis_aligned c.latitude d.latitude) _ h)

  -- A point in the dense bounds is in the coarse ones.
  pub inside_coarse : (p : Point) → inside d p ≡ true → inside c p ≡ true
  unfolding inside
  inside_coarse p i =
      and_both
      (in_coarse latitude_aligned p.latitude (on_latitude d p i))
      (in_coarse longitude_aligned p.longitude (on_longitude d p i))
