-- Back and out, without a dense grid: what lies near, and the trip of a Bessel point whose way back and out settles near it.
use Rattle.std.specs.Prelude.{Bool, Some, true, List, ◌≡◌, ℕ, ◌≤◌, nat_abs, ◌+ℤ◌, ◌-ℤ◌}
use Rattle.std.proofs.Common.{◌∙◌, arith}
use Rattle.std.proofs.Math.IntN.{ℤ}
use Rattle.integers.specs.Distance.{abs_add}
use Rattle.rules.specs.declared.Point.{Point}
use Rattle.rules.specs.declared.Correction.{Correction}
use Rattle.rules.specs.declared.Way.TheVariants as way
use Rattle.rules.specs.Units.{out_height_limit, stop_distance}
use Rattle.rules.specs.Units.{point_height_limit}
use Rattle.rules.specs.Limits.{PointWithin}
use Rattle.rules.specs.Ways.{Source, plus, position}
use Rattle.rules.specs.Promise.{BackAndOut}
use Rattle.returning.proofs.Points.{close_within, within_close}
use Rattle.returning.specs.Iteration.{Solution}
use Rattle.returning.specs.Angles.{ReturnsNear}
use Rattle.returning.proofs.Angles.{stop_at_one}
use Rattle.returning.proofs.Angles.{others_near}
use Rattle.returning.specs.Trips.{Converts, OthersNear, SteadySource}
use Rattle.returning.proofs.Trips.{back_solves, back_values, out_values}
use Rattle.returning.proofs.HeightReturns.{height_returns}

-- ---- without a dense grid
module _ {s : Source} {at : Point → Correction} {heightInside : Point → Bool} {quasiGeoid : Point → ℤ}
    (t : SteadySource s at stop_at_one heightInside quasiGeoid) (b : List ℕ) (same : Converts b s)
  where
    pub others : (p q : Point) → Solution s stop_distance p q → OthersNear b p q
    others p q w q' H r a c =
        let v = back_solves s q' H r (rw (same way.Back q' H) at a) in
        close_within (others_near t.angles.corrections w v (within_close c))

    -- A Bessel point q whose way back and out settles near it.
    pub point_trip : (q : Point) (H : ℤ) (v : ReturnsNear s at q)
        → s.inside q ≡ true → PointWithin q → PointWithin (plus q (at q))
        → heightInside q ≡ true → heightInside v.way.end.point ≡ true → nat_abs H ≤ point_height_limit → BackAndOut b q H
    point_trip q H v i x y j k l =
        let p = plus q (at q) in
        let r = v.way.end.point in
        let z = quasiGeoid q in
        let h = H +ℤ z in
        let m : nat_abs h ≤ out_height_limit = omega (arith, t.heights.value.limit q j, abs_add H z) in
        record {
          etrs89 = position p h 1;
          returned = position r (h -ℤ quasiGeoid r) v.way.end.count;
          answered = same way.Back q H ∙ back_values t.angles q H (Some z) i x (t.heights.answered q j) (omega arith);
          out_again = same way.Out p h ∙ out_values t.angles v.way h _ v.in_bounds y (t.heights.answered r k) m;
          angles = close_within v.angles;
          heights = height_returns H z (quasiGeoid r) (t.heights.value.change r q 2 k j v.angles);
        }
