-- Across a border: a value in the bounds of a grid and one outside them, each steady, that differ little on the border, are one steady
-- value. From a point in the bounds to one outside it changes up to the border, on it, and from there on.
use Rattle.std.specs.Prelude.{Bool, true, false, cond, ◌≡◌, refl, ℕ, zero, suc, ◌+◌, ◌≤◌, ℤ, nat_abs}
use Rattle.std.proofs.Common.{arith}
use Rattle.integers.specs.Distance.{Near, near_sym, near_mono}
use Rattle.rules.specs.declared.Geometry.{Geometry}
use Rattle.rules.specs.declared.Point.{Point}
use Rattle.rules.specs.Units.{dense_stop_distance}
use Rattle.rules.specs.Lookup.{inside}
use Rattle.returning.specs.Points.{Close, SteadyValue}
use Rattle.returning.specs.Angles.{StopRule}
use Rattle.returning.specs.Nearest.{OnBorder}
use Rattle.returning.proofs.Nearest.{between}
use Rattle.returning.specs.Crossing.{crossing, reach}

module _ {bounds : Point → Bool} (g : Geometry) {M jump : ℕ} {outerChange innerChange allowed : ℕ → ℕ} {outer inner : Point → ℤ}
    (steady-outer : SteadyValue bounds outerChange M outer) (steady-inner : SteadyValue (inside g) innerChange M inner)
    (in_bounds : (p : Point) → inside g p ≡ true → bounds p ≡ true)
    (border : (p : Point) → inside g p ≡ true → OnBorder g p → Near jump (inner p) (outer p))
    (enough : (d : ℕ) → innerChange d + jump + outerChange d ≤ allowed d)
  where
    -- One point in the bounds of g, one outside.
    crossed : (q r : Point) (d : ℕ) → inside g q ≡ true → bounds r ≡ true → inside g r ≡ false → Close d q r
        → Near (allowed d) (inner q) (outer r)
    crossed q r d i j o h =
        let b = between g d q r i o h in
        let p = b.point in
        omega (
          arith,
          steady-inner.change q p d i b.in_bounds b.from,
          border p b.in_bounds b.on_border,
          steady-outer.change p r d (in_bounds p b.in_bounds) j b.to,
          enough d,
        )

    pub steady_across : SteadyValue bounds allowed M (λ p. cond (inside g p) (inner p) (outer p))
    steady_across =
        record { limit = λ q i. limit q i (inside g q) refl; change = λ q r d i j h. by q r d i j h (inside g q) (inside g r) refl refl }
      where
        limit : (q : Point) → bounds q ≡ true → (t : Bool) → inside g q ≡ t → nat_abs (cond (inside g q) (inner q) (outer q)) ≤ M
        limit q i true e = rw e (steady-inner.limit q e)
        limit q i false e = rw e (steady-outer.limit q i)

        by : (q r : Point) (d : ℕ) → bounds q ≡ true → bounds r ≡ true → Close d q r → (s t : Bool) → inside g q ≡ s → inside g r ≡ t
            → Near (allowed d) (cond (inside g q) (inner q) (outer q)) (cond (inside g r) (inner r) (outer r))
        by q r d i j h true true e k = rw (e, k) (near_mono (omega (arith, enough d)) (steady-inner.change q r d e k h))
        by q r d i j h true false e k = rw (e, k) (crossed q r d e j k h)
        by q r d i j h false true e k = rw (e, k) (near_sym (crossed r q d k i e (omega arith)))
        by q r d i j h false false e k = rw (e, k) (near_mono (omega (arith, enough d)) (steady-outer.change q r d i j h))

pub reach_least : (k : ℕ) → 3 ≤ reach k
reach_least zero = omega arith
reach_least (suc k) = omega (arith, reach_least k)

-- 3 nd, and a fix returns within 3 nd.
abbrev pub stop_at_three : StopRule
stop_at_three =
    record {
      stop = dense_stop_distance;
      allowed = crossing;
      returned = 3;
      reach = reach;
      stops = omega arith;
      shrinks = λ k. omega (arith, reach_least k);
      enough = omega arith;
      returns = omega arith;
    }
