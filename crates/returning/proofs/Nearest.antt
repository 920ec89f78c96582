-- The border of a grid's bounds. Its sides are grid lines; and between a point in the bounds and one outside lies a point on the border: on
-- each axis the angle of the axis that is nearest to the outer point's.
use Rattle.std.specs.Prelude.{Bool, true, false, ◌⊎◌, ◌≡◌, refl, ℕ, ◌*◌, ◌-◌, ℤ, ◌≤ℤ◌}
use Rattle.std.proofs.lemmas.Bool.{false≢true}
use Rattle.std.proofs.Common.{inl, inr, ⊎_elim, sym, ◌∙◌, arith}
use Rattle.std.specs.Int.Signed.{le_z}
use Rattle.integers.specs.Difference.{order, var, lit, ◌⊕◌}
use Rattle.integers.specs.Distance.{Near}
use Rattle.integers.specs.Machine.{zarith}
use Rattle.integers.specs.Booleans.{and_both}
use Rattle.rules.specs.declared.Axis.{Axis}
use Rattle.rules.specs.declared.Geometry.{Geometry}
use Rattle.rules.specs.declared.Point.{Point}
use Rattle.rules.specs.Image.{far_bound}
use Rattle.rules.specs.Limits.{Sized}
use Rattle.rules.specs.Lookup.{on_axis, inside}
use Rattle.rules.proofs.Cells.{from_start, to_far, on_axis_lem, on_latitude, on_longitude}
use Rattle.rules.proofs.Nesting.{AtNode, at_node, start_node}
use Rattle.returning.specs.Points.{Close}
use Rattle.returning.specs.Nearest.{Between, Bound, at_far, at_start}

-- A bound is the angle of the first node or of the last one, so it has what these two have.
pub bound_node : {a : Axis} → Sized a → (T : ℤ → ℕ → Type 0) → T a.start 0 → T (far_bound a) (a.count - 1)
    → (z : ℤ) → Bound a z → (node : ℕ) × AtNode a z node × T z node
bound_node {a} o T first last z (at_start e) = rw e (0, rw (start_node a) at (at_node a 0 (omega (arith, o.count_least))), first)
bound_node {a} o T first last z (at_far e) = rw e (a.count - 1, at_node a (a.count - 1) (omega (arith, o.count_least)), last)

-- The angle of an axis that is nearest to z: it lies between z and every angle of the axis, and is a bound where z is not on the axis.
record Nearest (a : Axis) (z : ℤ) : Type 0 where
  angle : ℤ
  on : on_axis a angle ≡ true
  between : (D : ℕ) (x : ℤ) → on_axis a x ≡ true → Near D x z → Near D x angle × Near D angle z
  bound : on_axis a z ≡ false → Bound a angle

start_far : (a : Axis) → a.start ≤ℤ far_bound a
start_far a = omega (arith, order, var a.start ⊕ lit ((a.count - 1) * a.spacing))

nearest : (a : Axis) (z : ℤ) → Nearest a z
nearest a z = by (le_z a.start z) (le_z z (far_bound a)) refl refl
  where
    by : (s t : Bool) → le_z a.start z ≡ s → le_z z (far_bound a) ≡ t → Nearest a z
    by true true h k =
        let o = on_axis_lem a z (omega zarith) (omega zarith) in
        record { angle = z; on = o; between = λ D x i n. omega arith; bound = λ e. absurd (false≢true (sym e ∙ o)) }
    by true false h k =
        record {
          angle = far_bound a;
          on = on_axis_lem a (far_bound a) (start_far a) (omega (arith, order));
          between = λ D x i n. let l = to_far a x i in omega zarith;
          bound = λ e. at_far refl;
        }
    by false t h k =
        record {
          angle = a.start;
          on = on_axis_lem a a.start (omega (arith, order)) (start_far a);
          between = λ D x i n. let l = from_start a x i in omega zarith;
          bound = λ e. at_start refl;
        }

-- A point outside the bounds is not on one of the axes.
outside : (g : Geometry) (r : Point) → inside g r ≡ false
    → (on_axis g.latitude r.latitude ≡ false) ⊎ (on_axis g.longitude r.longitude ≡ false)
unfolding inside
outside g r o = by (on_axis g.latitude r.latitude) refl
  where
    by : (t : Bool) → on_axis g.latitude r.latitude ≡ t
        → (on_axis g.latitude r.latitude ≡ false) ⊎ (on_axis g.longitude r.longitude ≡ false)
    by true e = inr (rw e at o)
    by false e = inl e

pub between : (g : Geometry) (D : ℕ) (q r : Point) → inside g q ≡ true → inside g r ≡ false → Close D q r → Between g D q r
unfolding inside
between g D q r i o h =
    let y = nearest g.latitude r.latitude in
    let x = nearest g.longitude r.longitude in
    let j = y.between D q.latitude (on_latitude g q i) h.latitude in
    let k = x.between D q.longitude (on_longitude g q i) h.longitude in
    record {
      point = record { latitude = y.angle; longitude = x.angle };
      in_bounds = and_both y.on x.on;
      on_border = ⊎_elim (λ e. inl (y.bound e)) (λ e. inr (x.bound e)) (outside g r o);
      from = record { latitude = j.0; longitude = k.0 };
      to = record { latitude = j.1; longitude = k.1 };
    }
