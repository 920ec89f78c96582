-- The edge of a grid whose border nodes are all zero (question 22): its values are zero on the border, so that a value which is taken as
-- zero outside is steady everywhere, and is zero where the bounds meet question 7's limits.
use Rattle.std.specs.Prelude.{Bool, true, false, ◌&&◌, ◌⊎◌, ◌≡◌, refl, ℕ, ◌-◌, ◌≤◌, ℤ, pos, nat_abs}
use Rattle.std.proofs.Common.{inl, inr, ⊎_elim, arith, leb-true}
use Rattle.integers.specs.Difference.{order}
use Rattle.integers.specs.Distance.{size}
use Rattle.integers.proofs.Rounding.{round_zero}
use Rattle.integers.specs.Booleans.{and_left, and_right}
use Rattle.rules.specs.declared.Axis.{Axis}
use Rattle.rules.specs.declared.Geometry.{Geometry}
use Rattle.rules.specs.declared.Point.{Point}
use Rattle.rules.specs.Units.{within, latitude_limit, longitude_limit}
use Rattle.rules.specs.Image.{rows, columns}
use Rattle.rules.specs.Limits.{Sized, GeometryPasses}
use Rattle.rules.specs.Bilinear.{part_for, value_at}
use Rattle.rules.specs.Lookup.{on_axis, inside}
use Rattle.rules.specs.Check.{both_zero, border_zero}
use Rattle.rules.proofs.Cells.{on_latitude, on_longitude}
use Rattle.rules.proofs.Largest.{every_at}
use Rattle.returning.specs.Points.{SteadyValue}
use Rattle.returning.specs.Line.{line}
use Rattle.returning.proofs.Line.{line_near, pair_parts}
use Rattle.returning.specs.Interpolation.{hundredth}
use Rattle.returning.specs.GridLines.{Along}
use Rattle.returning.proofs.GridLines.{along_row_lem, along_column, value_along}
use Rattle.returning.specs.Nearest.{OnBorder}
use Rattle.returning.proofs.Nearest.{bound_node}
use Rattle.returning.proofs.Crossing.{steady_across}
use Rattle.returning.specs.Passing.{NodesPass}
use Rattle.returning.proofs.Passing.{steady_value}
use Rattle.returning.specs.Edge.{AllZero, value_or_zero}
use Rattle.returning.proofs.AtLimit.{at_limit}

both_zero_lem : (n : ℕ) (h k : ℕ → ℤ) → both_zero n h k ≡ true → AllZero n h × AllZero n k
unfolding both_zero
both_zero_lem n h k t =
    let at = every_at n (λ i. within 0 (h i) && within 0 (k i)) t in
    (λ i l. leb-true _ _ (and_left _ _ (at i l)), λ i l. leb-true _ _ (and_right (within 0 (h i)) _ (at i l)))

-- At a point on such a line the value is zero.
on_line_lem : {g : Geometry} {f : ℕ → ℕ → ℤ} {p : Point} {c : Axis} {h : ℕ → ℤ} {z : ℤ} → Sized c → AllZero c.count h
    → on_axis c z ≡ true → Along g f p c h z → value_at g f p ≡ pos 0
unfolding line
on_line_lem {c} {h} {z} o zero i x =
    let n = line_near o h (λ i. pos 0) 0 (λ i l. omega (arith, zero i l, size (h i))) z i in
    let e : line c h z ≡ pos 0 = omega (arith, order, n, pair_parts (pos 0) (pos 0) (c.spacing - part_for c z) (part_for c z)) in
    rw (value_along o.spacing_least x, e) (round_zero c.spacing o.spacing_least)

zero_steady : {M : ℕ} → SteadyValue (λ p. true) (λ D. 0) M (λ p. pos 0)
zero_steady = record { limit = λ q i. omega arith; change = λ q r D i j h. omega arith }

module _ {g : Geometry} (o : GeometryPasses g) (f : ℕ → ℕ → ℤ) (t : border_zero g f ≡ true) where
  -- On the border the value is zero,
  border_zero_lem : (p : Point) → inside g p ≡ true → OnBorder g p → value_at g f p ≡ pos 0
  unfolding border_zero
  border_zero_lem p i (inl b) =
      let z = both_zero_lem (columns g) (f 0) (f (rows g - 1)) (and_left _ _ t) in
      let n = bound_node o.latitude.sized (λ z row. AllZero (columns g) (f row)) z.0 z.1 p.latitude b in
      on_line_lem o.longitude.sized n.2 (on_longitude g p i) (along_row_lem o f p n.0 n.1)
  border_zero_lem p i (inr b) =
      let first = both_zero (columns g) (f 0) (f (rows g - 1)) in
      let z = both_zero_lem (rows g) (λ row. f row 0) (λ row. f row (columns g - 1)) (and_right first _ t) in
      let n = bound_node o.longitude.sized (λ z column. AllZero (rows g) (λ row. f row column)) z.0 z.1 p.longitude b in
      on_line_lem o.latitude.sized n.2 (on_latitude g p i) (along_column o f p n.0 n.1)

  -- as it is outside, so that it is steady across the border too.
  pub steady_everywhere : {M : ℕ} → NodesPass g M f → SteadyValue (λ p. true) hundredth M (value_or_zero g f)
  steady_everywhere n =
      steady_across g {jump = 0} zero_steady (steady_value o f n) (λ p i. refl)
      (λ p i b. rw (border_zero_lem p i b) (omega arith)) (λ d. omega arith)

  -- Where the latitude or the longitude is at question 7's limit, or past it, the value is zero.
  pub zero_at_limit : (p : Point) → (latitude_limit ≤ nat_abs p.latitude) ⊎ (longitude_limit ≤ nat_abs p.longitude)
      → value_or_zero g f p ≡ pos 0
  zero_at_limit p l = by (inside g p) refl
    where
      by : (s : Bool) → inside g p ≡ s → value_or_zero g f p ≡ pos 0
      by true i =
          rw i (border_zero_lem p i (⊎_elim
          (λ l. inl (at_limit o.latitude p.latitude (on_latitude g p i) l))
          (λ l. inr (at_limit o.longitude p.longitude (on_longitude g p i) l)) l))
      by false i = rw i
