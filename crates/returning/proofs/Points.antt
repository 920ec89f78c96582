-- Distances of points, room around a point, and values over points that are limited and change slowly.
use Rattle.std.specs.Prelude.{Bool, true, ◌≡◌, ℕ, ◌+◌, ◌≤◌, ◌-ℤ◌}
use Rattle.std.proofs.Common.{arith, leb-true, le-leb}
use Rattle.integers.specs.Distance.{near_abs, abs_near}
use Rattle.integers.specs.Booleans.{and_left, and_right, and_both}
use Rattle.rules.specs.declared.Point.{Point}
use Rattle.rules.specs.Units.{within}
use Rattle.rules.specs.Ways.{settled}
use Rattle.rules.specs.Promise.{AnglesWithin}
use Rattle.returning.specs.Points.{Close, Room}

-- The same as the promise and the stop rule have it.
pub close_within : {d : ℕ} {p q : Point} → Close d p q → AnglesWithin d p q
close_within h = record { latitude = near_abs _ _ _ h.latitude; longitude = near_abs _ _ _ h.longitude }

pub within_close : {d : ℕ} {p q : Point} → AnglesWithin d p q → Close d p q
within_close h = record { latitude = abs_near _ _ _ h.latitude; longitude = abs_near _ _ _ h.longitude }

pub settled_close : (d : ℕ) (p q : Point) → settled d p q ≡ true → Close d p q
unfolding settled
settled_close d p q t =
    let h = and_left (within d (p.latitude -ℤ q.latitude)) _ t in
    let k = and_right (within d (p.latitude -ℤ q.latitude)) _ t in
    within_close record { latitude = leb-true _ _ h; longitude = leb-true _ _ k }

pub close_settled : (d : ℕ) (p q : Point) → Close d p q → settled d p q ≡ true
unfolding settled
close_settled d p q h = let w = close_within h in and_both (le-leb _ _ w.latitude) (le-leb _ _ w.longitude)

pub close_self : (d : ℕ) (p : Point) → Close d p p
close_self d p = omega arith

pub close_mono : {d e : ℕ} {p q : Point} → d ≤ e → Close d p q → Close e p q
close_mono l h = omega arith

pub room_itself : {bounds : Point → Bool} {d : ℕ} (p : Point) → Room bounds d p → bounds p ≡ true
room_itself {d} p room = room p (close_self d p)

-- Room for d is room for less, and the points within e of p have that room but for e.
pub room_around : {bounds : Point → Bool} {d e M : ℕ} {p q : Point} → e + M ≤ d → Close e q p → Room bounds d p → Room bounds M q
room_around l h room r k = room r (omega arith)
