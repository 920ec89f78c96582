-- Corners by how far they lie above an integer: their sum lies above that of the integer by the sum of these natural numbers.
use mathlib.Core.Path.{◌≡◌, ap}
use Prim.Native.Nat.{ℕ, ◌+◌, ◌-◌, ◌*◌, ◌≤◌}
use native.Mathlib.Omega.{arith}
use lib.IntN.{ℤ, pos, nat_abs, ◌+ℤ◌, ◌*ℤ◌}
use mir.Syntax.{w64}
use mir.Val.{SFits, to_z, of_z}
use mir.Facts.{to_z-of_z}
use Rattle.integers.specs.Distance.{abs_is}
use Rattle.integers.specs.Machine.{zarith}
use Rattle.integers.specs.Difference.{up, down, order, Difference, var, lit, ◌⊕◌, ◌⊗◌}
use Rattle.rules.specs.declared.Square.{Square}
use Rattle.rules.specs.Units.{correction_limit}
use Rattle.rules.specs.Limits.{CornersWithin}
use Rattle.rules.specs.Bilinear.{weighted}
use Rattle.rules.proofs.Weights.{weights}
use Rattle.rules.specs.declared.PlaceInCell.{PlaceInCell}
use Rattle.rules.specs.declared.Spacings.{Spacings}
use Rattle.bilinear.specs.declared.Raised.{Raised}
use Rattle.bilinear.specs.Mean.{InCell, Gaps, Below, mix, mixed}

-- A corner is read back by the machine as it is.
pub read_corner : (z : ℤ) → nat_abs z ≤ correction_limit → to_z w64 (of_z w64 z) ≡ z
read_corner z h = let f : SFits w64 z = omega (zarith, abs_is (var z)) in to_z-of_z f

-- Of values within a limit of zero, no gap is wider than twice the limit.
gap_most : {M n : ℕ} (b x : ℤ) → nat_abs b ≤ M → nat_abs x ≤ M → x ≡ b +ℤ pos n → n ≤ 2 * M
gap_most {M} {n} b x h k e = omega (arith, order, var b ⊕ lit n, abs_is (var b), abs_is (var x))

pub gaps_most : {M : ℕ} {c : Square} {r : Raised} (b : ℤ) → nat_abs b ≤ M → CornersWithin M c → Gaps b c r → Below (2 * M) r
gaps_most {c = c} b h w g =
    record {
      southwest = gap_most b c.southwest h w.southwest g.southwest;
      southeast = gap_most b c.southeast h w.southeast g.southeast;
      northwest = gap_most b c.northwest h w.northwest g.northwest;
      northeast = gap_most b c.northeast h w.northeast g.northeast;
    }

-- x from b and n
abbrev sum_of : (x b : ℤ) (n : ℕ) → x ≡ b +ℤ pos n → Difference x
sum_of x b n e = record { hi = up b + n; lo = down b; is = omega (arith, order, var b ⊕ lit n) }

-- another difference for what has the form d
same_form : {z : ℤ} (d : Difference z) (a b : ℕ) → d.hi + b ≡ a + d.lo → up z + b ≡ a + down z
same_form d a b h = omega (arith, d.is)

-- The weighted sum is that of the natural numbers, and b times the weights above it.
sum_above : (x y z t b : ℤ) (k l m n a u e v K : ℕ) → x ≡ b +ℤ pos k → y ≡ b +ℤ pos l → z ≡ b +ℤ pos m → t ≡ b +ℤ pos n
    → a * e + a * v + u * e + u * v ≡ K
    → let s = x *ℤ pos (a * e) +ℤ y *ℤ pos (a * v) +ℤ z *ℤ pos (u * e) +ℤ t *ℤ pos (u * v) in
    up s + down b * K ≡ up b * K + (a * (e * k + v * l) + u * (e * m + v * n)) + down s
sum_above x y z t b k l m n a u e v K ex ey ez et h =
    let south = sum_of x b k ex ⊗ lit (a * e) ⊕ sum_of y b l ey ⊗ lit (a * v) in
    same_form (south ⊕ sum_of z b m ez ⊗ lit (u * e) ⊕ sum_of t b n et ⊗ lit (u * v))
    (up b * K + (a * (e * k + v * l) + u * (e * m + v * n))) (down b * K)
    (omega (arith, ap (λ (i : ℕ). up b * i) h, ap (λ (i : ℕ). down b * i) h))

-- So the sum of the corners is b times the area above that of the gaps.
pub weighted_above : {c : Square} {at : PlaceInCell} {s : Spacings} {b : ℤ} {r : Raised} → InCell s at → Gaps b c r
    → let rows = mixed r at.v s.longitude in
    weighted c at.u at.v s.latitude s.longitude
    ≡ b *ℤ pos (s.latitude * s.longitude) +ℤ pos (mix rows.south rows.north at.u s.latitude)
unfolding weighted
weighted_above {c} {at} {s} {b} {r} cell g =
    let P = s.latitude in
    let Q = s.longitude in
    let rows = mixed r at.v Q in
    let sum =
    sum_above c.southwest c.southeast c.northwest c.northeast b r.southwest r.southeast r.northwest r.northeast
    (P - at.u) at.u (Q - at.v) at.v (P * Q)
    g.southwest g.southeast g.northwest g.northeast (weights cell.u_most cell.v_most)
    in
    omega (arith, order, sum, var b ⊗ lit (P * Q) ⊕ lit (mix rows.south rows.north at.u P))
