-- The height of a Bessel point returns within 1 unit.
use Rattle.std.specs.Prelude.{◌≤◌, nat_abs, ◌+ℤ◌, ◌-ℤ◌}
use Rattle.std.proofs.Common.{arith}
use Rattle.std.proofs.Math.IntN.{ℤ}
use Rattle.integers.specs.Difference.{var, ◌⊕◌, ◌⊖◌}
use Rattle.integers.specs.Distance.{Near, abs_is}
use Rattle.returning.specs.Interpolation.{hundredth}

-- A Bessel point with quasi-geoid height z that returns to one with w, at most 2 nd away, has its height within 1 unit.
pub height_returns : (H z w : ℤ) → Near (hundredth 2) w z → nat_abs (H +ℤ z -ℤ w -ℤ H) ≤ 1
height_returns H z w h = omega (arith, abs_is (var H ⊕ var z ⊖ var w ⊖ var H))
