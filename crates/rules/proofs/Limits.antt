-- What question 9 establishes of one value's corners, question 7 of a fix, and both of the points that it is moved to.
use mathlib.Core.Bool.{true, ◌&&◌}
use mathlib.Core.Path.{◌≡◌}
use Prim.Native.Nat.{ℕ, ◌≤◌}
use native.Mathlib.Omega.{arith}
use lib.IntN.{ℤ, nat_abs}
use borrow.Author.Tests.{leb-true}
use Rattle.integers.specs.Booleans.{and_left, and_right, all_three}
use Rattle.integers.specs.Difference.{var, ◌⊖◌}
use Rattle.integers.specs.Distance.{size, abs_is}
use Rattle.rules.specs.declared.Square.{Square}
use Rattle.rules.specs.declared.Point.{Point}
use Rattle.rules.specs.declared.Correction.{Correction}
use Rattle.rules.specs.Units.{within, latitude_limit, longitude_limit}
use Rattle.rules.specs.Limits.{PointWithin, PointReached, CornersWithin, CorrectionWithin}
use Rattle.rules.specs.Lookup.{square_passes}
use Rattle.rules.specs.Ways.{question7, minus}

pub corners_within : (limit : ℕ) (c : Square) → square_passes limit c ≡ true → CornersWithin limit c
unfolding square_passes
corners_within limit c h =
    let sw = within limit c.southwest in
    let se = within limit c.southeast in
    let nw = within limit c.northwest in
    let ne = within limit c.northeast in
    let south = and_left (sw && se) (nw && ne) h in
    let north = and_right (sw && se) (nw && ne) h in
    record {
      southwest = leb-true _ _ (and_left sw se south);
      southeast = leb-true _ _ (and_right sw se south);
      northwest = leb-true _ _ (and_left nw ne north);
      northeast = leb-true _ _ (and_right nw ne north);
    }

pub fix_within : (limit : ℕ) (p : Point) (h : ℤ) → question7 limit p h ≡ true → PointWithin p × (nat_abs h ≤ limit)
unfolding question7
fix_within limit p h t =
    let a = all_three (within latitude_limit p.latitude) (within longitude_limit p.longitude) (within limit h) t in
    (record { latitude = leb-true _ _ a.0; longitude = leb-true _ _ a.1 }, leb-true _ _ a.2)

-- A point within question 7's limits, and where a correction moves it.
pub reached : {p : Point} → PointWithin p → PointReached p
reached w = record { latitude = omega arith; longitude = omega arith }

pub moved_reached : {p : Point} {c : Correction} → PointWithin p → CorrectionWithin c → PointReached (minus p c)
unfolding minus
moved_reached {p} {c} w k =
    record {
      latitude = omega (arith, abs_is (var p.latitude ⊖ var c.latitude), size p.latitude, size c.latitude);
      longitude = omega (arith, abs_is (var p.longitude ⊖ var c.longitude), size p.longitude, size c.longitude);
    }
