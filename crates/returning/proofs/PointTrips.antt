-- Back and out of every Bessel point inside its margin, without a dense grid.
use Rattle.std.specs.Prelude.{Bool, List, ℕ, ◌≤◌, nat_abs}
use Rattle.std.proofs.Common.{arith}
use Rattle.std.proofs.Math.IntN.{ℤ}
use Rattle.rules.specs.declared.Point.{Point}
use Rattle.rules.specs.declared.Correction.{Correction}
use Rattle.rules.specs.Units.{point_margin, point_height_limit}
use Rattle.rules.specs.Ways.{Source, plus}
use Rattle.rules.specs.Promise.{BackAndOut}
use Rattle.returning.specs.Points.{Close}
use Rattle.returning.proofs.Points.{close_self, close_mono, room_itself}
use Rattle.returning.proofs.Iteration.{back_near}
use Rattle.returning.proofs.Angles.{stop_at_one}
use Rattle.returning.proofs.ComesBack.{comes_back}
use Rattle.returning.specs.Trips.{Converts, Rooms, SteadySource}
use Rattle.returning.proofs.PointTrip.{point_trip}
use Rattle.returning.proofs.ComesBack.{comes_back}

module _ {s : Source} {at : Point → Correction} {heightInside : Point → Bool} {quasiGeoid : Point → ℤ}
    (t : SteadySource s at stop_at_one heightInside quasiGeoid) (b : List ℕ) (same : Converts b s)
  where
    pub points : (q : Point) (H : ℤ) → Rooms s heightInside point_margin q → nat_abs H ≤ point_height_limit → BackAndOut b q H
    points q H rooms l =
        let v = comes_back t.angles q rooms.corrections in
        let i = room_itself q rooms.corrections in
        let near : Close point_margin (plus q (at q)) q = close_mono (omega arith) (back_near t.angles.corrections q i) in
        let k = rooms.heights v.way.end.point (close_mono (omega arith) v.angles) in
        point_trip t b same q H v i (rooms.limits q (close_self _ q)) (rooms.limits _ near) (room_itself q rooms.heights) k l
