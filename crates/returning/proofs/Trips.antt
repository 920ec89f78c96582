-- Out and back, and back and out, over any source whose corrections and heights are limited and change slowly: the angles' half
-- (Angles.antt), and the heights' half, which asks for a height only at the Bessel points of a trip.
use Rattle.std.specs.Prelude.{Bool, Some, true, false, List, ◌≡◌, ℕ, ◌≤◌, nat_abs, ◌+ℤ◌, ◌-ℤ◌}
use Rattle.std.proofs.Common.{sym, ◌∙◌, arith, le-leb}
use Rattle.std.proofs.Math.Path.{ap}
use Rattle.std.proofs.Math.IntN.{ℤ, -ℤ-+ℤ_cancel}
use Rattle.integers.specs.Difference.{var, ◌⊖◌}
use Rattle.integers.specs.Distance.{size, abs_is}
use Rattle.integers.specs.Booleans.{and_both}
use Rattle.rules.specs.declared.Layout.{Layout}
use Rattle.rules.specs.declared.Point.{Point}
use Rattle.rules.specs.declared.Correction.{Correction}
use Rattle.rules.specs.declared.Way.TheVariants as way
use Rattle.rules.specs.Units.{quasi_geoid_limit, out_height_limit, back_height_limit, most_evaluations}
use Rattle.rules.specs.Units.{fix_margin}
use Rattle.rules.specs.Answers.{values}
use Rattle.rules.specs.Limits.{PointWithin}
use Rattle.rules.specs.Lookup.{Height}
use Rattle.rules.specs.Ways.{Source, question7, plus, position, Accepted, answer_at, back, out, iterate, convert_over}
use Rattle.rules.specs.Promise.{point_of, return_distance, OutAndBack}
use Rattle.rules.proofs.Accepted.{answer_point}
use Rattle.rules.proofs.Answers.{asked, followed}
use Rattle.returning.specs.Points.{Close}
use Rattle.returning.proofs.Points.{close_self, close_within, close_mono, room_itself}
use Rattle.returning.specs.Iteration.{Solution}
use Rattle.returning.proofs.Iteration.{itself}
use Rattle.returning.specs.Angles.{StopRule, SteadyAngles, Settles}
use Rattle.returning.proofs.Angles.{goes_out, out_near, fix_returns}
use Rattle.returning.specs.Trips.{Converts, OthersNear, Rooms, SteadySource}

-- What is answered going back solves the point that it goes back to, whatever the source.
pub back_solves : (s : Source) (q : Point) (H : ℤ) (r : Accepted) → convert_over way.Back s q H ≡ values r
    → Solution s 0 (point_of r.position) q
unfolding back convert_over
back_solves s q H r h =
    let a = asked (question7 back_height_limit q H) 7 _ r h in
    let b = asked (s.inside q) 8 _ r a.1 in
    let c = followed (s.corrections q) _ r b.1 in
    let z = followed (s.height q) _ r c.2 in
    let e : answer_at (plus q c.0) (λ z. H +ℤ z) 1 z.0 ≡ r = cc z.2 in
    let f : plus q c.0 ≡ point_of r.position = sym (answer_point _ _ 1 z.0) ∙ ap (λ (r : Accepted). point_of r.position) e in
    rw f at (itself s q c.0 b.0 c.1)

-- The NAP height of a fix in the limits, at a Bessel point with quasi-geoid height z, is in the limits going back.
pub height_goes_back : (h z : ℤ) → nat_abs h ≤ out_height_limit → nat_abs z ≤ quasi_geoid_limit → nat_abs (h -ℤ z) ≤ back_height_limit
height_goes_back h z m l = omega (arith, abs_is (var h ⊖ var z), size h, size z)

-- A fix within question 7's limits passes it.
in_limits : (limit : ℕ) (q : Point) (h : ℤ) → PointWithin q → nat_abs h ≤ limit → question7 limit q h ≡ true
unfolding question7
in_limits limit q h w l = and_both (le-leb _ _ w.latitude) (and_both (le-leb _ _ w.longitude) (le-leb _ _ l))

-- Where the lookup of a height finds one, or none:
module _ {s : Source} {at : Point → Correction} {rule : StopRule} (a : SteadyAngles s at rule) where
  -- a point in the bounds is answered going back,
  pub back_values : (q : Point) (H : ℤ) (found : Height)
      → s.inside q ≡ true → PointWithin q → s.height q ≡ values found → nat_abs H ≤ back_height_limit
      → convert_over way.Back s q H ≡ values (answer_at (plus q (at q)) (λ z. H +ℤ z) 1 found)
  unfolding back convert_over
  back_values q H found i w e l = rw (in_limits back_height_limit q H w l, i, a.corrections.answered q i, e)

  -- and a fix whose way out settles there is answered going out.
  pub out_values : {p : Point} (v : Settles s rule.stop p most_evaluations) (h : ℤ) (found : Height)
      → s.inside p ≡ true → PointWithin p → s.height v.end.point ≡ values found → nat_abs h ≤ out_height_limit
      → convert_over way.Out s p h ≡ values (answer_at v.end.point (λ z. h -ℤ z) v.end.count found)
  unfolding out convert_over
  out_values {p} v h found i w e l =
      let is = ap (λ (stop : ℕ). iterate s stop p most_evaluations 0 p) a.stop_is ∙ v.is in
      rw (in_limits out_height_limit p h w l, i, is, e)

-- Out and back over an image whose layout has at least the rule's return distance. What holds of other Bessel points is for images without
-- a dense grid, below.
module _ {s : Source} {at : Point → Correction} {rule : StopRule} {heightInside : Point → Bool} {quasiGeoid : Point → ℤ}
    (t : SteadySource s at rule heightInside quasiGeoid) (b : List ℕ) (same : Converts b s)
    (l : Layout) (near : rule.returned ≤ return_distance l)
    (others : l.nested ≡ false → (p q : Point) → Solution s rule.stop p q → OthersNear b p q)
  where
    -- A fix whose way out settles at q.
    pub fix_trip : (p : Point) (h : ℤ) (v : Settles s rule.stop p most_evaluations)
        → s.inside p ≡ true → PointWithin p → PointWithin v.end.point → heightInside v.end.point ≡ true
        → nat_abs h ≤ out_height_limit → OutAndBack b l p h
    fix_trip p h v i x y j m =
        let q = v.end.point in
        let w = v.solution in
        let z = quasiGeoid q in
        let H = h -ℤ z in
        let e = t.heights.answered q j in
        let k = height_goes_back h z m (t.heights.value.limit q j) in
        record {
          outward = position q H v.end.count;
          returned = position (plus q (at q)) (H +ℤ z) 1;
          answered = same way.Out p h ∙ out_values t.angles v h (Some z) i x e m;
          back_again = same way.Back q H ∙ back_values t.angles q H (Some z) w.in_bounds y e k;
          returns = record {
            at_least_one = v.at_least_one;
            at_most_five = v.at_most;
            angles = close_within (close_mono near (fix_returns t.angles w));
            height = -ℤ-+ℤ_cancel h z;
            others = λ e. others e p q w;
          };
        }

    -- Inside the margins from both bounds.
    pub fixes : (p : Point) (h : ℤ) → Rooms s heightInside fix_margin p → nat_abs h ≤ out_height_limit → OutAndBack b l p h
    fixes p h rooms m =
        let v = goes_out t.angles p rooms.corrections in
        let q = v.end.point in
        let near : Close fix_margin q p = close_mono (omega arith) (out_near t.angles v.solution) in
        fix_trip p h v (room_itself p rooms.corrections)
        (rooms.limits p (close_self _ p)) (rooms.limits q near) (rooms.heights q near) m
