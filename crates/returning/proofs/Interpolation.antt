-- The bilinear value over any values by row and column: it is within the nodes' limit, and it is a line over lines, so that the steps
-- between neighbours bound its change.
use Rattle.std.specs.Prelude.{true, ◌≡◌, refl, ℕ, ◌+◌, ◌*◌, ◌≤◌, ◌<◌, ℤ, pos, nat_abs, ◌+ℤ◌, ◌*ℤ◌}
use Rattle.std.proofs.Common.{ap, mul-le-mul, mul-le-mul_left, mul-le-mul_right, arith}
use Rattle.integers.specs.Difference.{up, down, order, var, lit, ◌⊕◌, ◌⊗◌}
use Rattle.integers.specs.Distance.{Near, near_trans, near_mono}
use Rattle.integers.specs.Rounding.{round_half_up}
use Rattle.integers.proofs.Rounding.{round_close}
use Rattle.rules.specs.declared.Geometry.{Geometry}
use Rattle.rules.specs.declared.Point.{Point}
use Rattle.rules.specs.Image.{rows, columns}
use Rattle.rules.specs.Limits.{GeometryPasses}
use Rattle.rules.specs.Bilinear.{weighted, bilinear, value_at, exact_sum, area}
use Rattle.rules.specs.Lookup.{inside}
use Rattle.rules.proofs.Cells.{offset_most, part_most, on_latitude, on_longitude}
use Rattle.rules.proofs.Corners.{cell_within}
use Rattle.rules.proofs.Slopes.{NodesWithin}
use Rattle.rules.proofs.Weights.{value_within}
use Rattle.returning.specs.Line.{weighted_pair, line}
use Rattle.returning.proofs.Line.{pair_parts, line_near, line_change}
use Rattle.returning.specs.Points.{Close}
use Rattle.returning.specs.Interpolation.{hundredth, surface}

-- ---- the sum of corner times weight is a weighted pair of two of them
times_pair : (a b : ℤ) (s t v : ℕ) → let w = weighted_pair a b t v in
    up w * s + down a * (s * t) + down b * (s * v) ≡ down w * s + up a * (s * t) + up b * (s * v)
times_pair a b s t v =
    let w = weighted_pair a b t v in
    let e : (up w + down a * t + down b * v) * s ≡ (down w + up a * t + up b * v) * s = ap (λ (n : ℕ). n * s) (pair_parts a b t v) in
    omega arith

pair_of_pairs : (a b c d : ℤ) (s u t v : ℕ)
    → a *ℤ pos (s * t) +ℤ b *ℤ pos (s * v) +ℤ c *ℤ pos (u * t) +ℤ d *ℤ pos (u * v)
    ≡ weighted_pair (weighted_pair a b t v) (weighted_pair c d t v) s u
pair_of_pairs a b c d s u t v =
    omega (
      arith,
      order,
      var a ⊗ lit (s * t) ⊕ var b ⊗ lit (s * v) ⊕ var c ⊗ lit (u * t) ⊕ var d ⊗ lit (u * v),
      pair_parts (weighted_pair a b t v) (weighted_pair c d t v) s u,
      times_pair a b s t v,
      times_pair c d u t v,
    )

pub sum_is : (g : Geometry) (f : ℕ → ℕ → ℤ) (p : Point) → exact_sum g f p ≡ surface g f p
unfolding exact_sum weighted surface line
sum_is g f p = pair_of_pairs _ _ _ _ _ _ _ _

pub value_is : (g : Geometry) (f : ℕ → ℕ → ℤ) (p : Point) → value_at g f p ≡ round_half_up (exact_sum g f p) (area g)
unfolding value_at bilinear exact_sum
value_is g f p = refl

module _ {g : Geometry} (o : GeometryPasses g) (f : ℕ → ℕ → ℤ) where
  spaced : 1 ≤ area g
  spaced = mul-le-mul o.latitude.sized.spacing_least o.longitude.sized.spacing_least

  -- A value is within the nodes' limit.
  pub value_limit : (M : ℕ) → NodesWithin M g f → (p : Point) → inside g p ≡ true → nat_abs (value_at g f p) ≤ M
  unfolding value_at
  value_limit M limit p i =
      let u = part_most g.latitude _ o.latitude.sized (offset_most g.latitude p.latitude (on_latitude g p i)) in
      let v = part_most g.longitude _ o.longitude.sized (offset_most g.longitude p.longitude (on_longitude g p i)) in
      value_within _ (cell_within f o limit p) u v spaced

  -- Neighbours are at most A apart in latitude, at most B in longitude.
  module _ (A B : ℕ)
      (northward : (row column : ℕ) → row + 1 < rows g → column < columns g → Near A (f row column) (f (row + 1) column))
      (eastward : (row column : ℕ) → row < rows g → column + 1 < columns g → Near B (f row column) (f row (column + 1)))
    where
      -- First along the latitude, then along the longitude.
      surface_change : (D : ℕ) (q r : Point) → inside g q ≡ true → inside g r ≡ true → Close D q r
          → Near (D * (g.longitude.spacing * A) + g.latitude.spacing * (D * B)) (surface g f q) (surface g f r)
      unfolding surface
      surface_change D q r i j h =
          let a = o.latitude.sized in
          let b = o.longitude.sized in
          near_trans
          (line_change a _ _ (λ row l.
          line_near b (f row) (f (row + 1)) A (λ column m. northward row column l m) q.longitude (on_longitude g q i))
          D q.latitude r.latitude (on_latitude g q i) (on_latitude g r j) h.latitude)
          (line_near a _ _ _ (λ row l. line_change b (f row) B (λ column m. eastward row column l m) D
          q.longitude r.longitude (on_longitude g q i) (on_longitude g r j) h.longitude)
          r.latitude (on_latitude g r j))

      -- Under question 12, a value changes by at most one in a hundred, rounded up.
      pub value_change : 100 * (A * g.longitude.spacing + B * g.latitude.spacing) ≤ area g
          → (q r : Point) (D : ℕ) → inside g q ≡ true → inside g r ≡ true → Close D q r → Near (hundredth D) (value_at g f q) (value_at g f r)
      value_change slope q r D i j h =
          let n = hundredth D in
          let m : D ≤ n * 100 = omega arith in
          let steep = A * g.longitude.spacing + B * g.latitude.spacing in
          rw (value_is g f q, value_is g f r, sum_is g f q, sum_is g f r)
          (round_close (surface g f q) (surface g f r) (area g) n spaced
          (near_mono (omega (arith, mul-le-mul_right steep m, mul-le-mul_left n slope)) (surface_change D q r i j h)))
