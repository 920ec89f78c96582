-- An answer of kind 2 stays within the limits of question 7.
use Rattle.std.specs.Prelude.{◌≡◌, ℕ, ◌+◌, ◌≤◌, pos, nat_abs}
use Rattle.std.proofs.Common.{arith}
use Rattle.std.proofs.Math.Decide.{dec_le}
use Rattle.std.proofs.Math.IntN.{ℤ}
use Rattle.integers.specs.Difference.{up, down, order, var}
use Rattle.integers.specs.Distance.{Near, size, abs_is}
use Rattle.rules.specs.Units.{stop_distance}

-- One angle x of an answer, which with the correction c at an angle y is the fix's, z: it is within the limit that z is within, where the
-- correction is zero at that limit and past it.
pub angle_stays : (limit : ℕ) (x y z c : ℤ) → nat_abs z ≤ limit → Near stop_distance x y → up x + up c + down z ≡ up z + down x + down c
    → (limit ≤ nat_abs y → c ≡ pos 0) → nat_abs x ≤ limit
angle_stays limit x y z c l n e zero = by (dec_le limit (nat_abs y))
  where
    by : Dec (limit ≤ nat_abs y) → nat_abs x ≤ limit
    by (yes k) = omega (arith, order, zero k, abs_is (var x), size z)
    by (no k) = omega (arith, abs_is (var x), size y)
