-- A Bessel point inside its margin goes back, and the way out from there settles near it.
use Rattle.std.proofs.Common.{arith}
use Rattle.rules.specs.declared.Point.{Point}
use Rattle.rules.specs.declared.Correction.{Correction}
use Rattle.rules.specs.Units.{fix_margin, point_margin}
use Rattle.rules.specs.Ways.{Source, plus}
use Rattle.returning.specs.Points.{Room}
use Rattle.returning.proofs.Points.{room_itself, room_around}
use Rattle.returning.proofs.Iteration.{itself}
use Rattle.returning.proofs.Iteration.{back_near}
use Rattle.returning.specs.Angles.{ReturnsNear, SteadyAngles}
use Rattle.returning.proofs.Angles.{stop_at_one, goes_out, point_returns}

-- A Bessel point inside its margin goes back to a point with room for a fix.
pub comes_back : {s : Source} {at : Point → Correction} → SteadyAngles s at stop_at_one
    → (q : Point) → Room s.inside point_margin q → ReturnsNear s at q
comes_back {s} {at} a q room =
    let S = a.corrections in
    let i = room_itself q room in
    let p = plus q (at q) in
    let around : Room s.inside fix_margin p = room_around (omega arith) (back_near S q i) room in
    let v = goes_out a p around in
    record { in_bounds = room_itself p around; way = v; angles = point_returns S v.solution (itself s q (at q) i (S.answered q i)) }
