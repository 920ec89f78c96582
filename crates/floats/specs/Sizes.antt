-- What the code's contracts cite beside the rule: the sizes of rounded numbers over ℕ, and what is asked of a width, a scale and a limit.
use Rattle.std.proofs.Common.{arith}
use Rattle.std.specs.Prelude.{Bool, cond, ◌≡◌, ℕ, ◌+◌, ◌-◌, ◌*◌, ◌/◌, ◌^◌, ◌≤◌}
use Rattle.rules.specs.declared.FloatFormat.{FloatFormat}
use Rattle.rules.specs.declared.Scale.{Scale}
use Rattle.rules.specs.Floats.{binary32, binary64}

-- The size of ± a / b plus one half, rounded down: of a negative number an exact half goes to the smaller size.
unfoldable pub rounded_size : Bool → ℕ → ℕ → ℕ
rounded_size minus a b = (2 * a + cond minus (b - 1) b) / (2 * b)

-- n / d, rounded down, or for a negative number up.
unfoldable pub floored_size : Bool → ℕ → ℕ → ℕ
floored_size minus n d = (n + cond minus (d - 1) 0) / d

-- A width from 20 bits of the fraction on, up to that of f64.
pub record Known (f : FloatFormat) : Type 0 where
  pub fraction_least : 20 ≤ f.fraction
  pub fraction_most : f.fraction ≤ 52
  pub exponent_least : 1 ≤ f.exponent
  pub exponent_most : f.exponent ≤ 11

-- f32 and f64 are.
pub binary32_known : Known binary32
binary32_known = omega arith

pub binary64_known : Known binary64
binary64_known = omega arith

-- A scale at most 10^9, by which 2^21 is beyond the limit.
pub record Usable (s : Scale) (limit : ℕ) : Type 0 where
  pub over_most : s.over ≤ 1000000000
  pub under_least : 1 ≤ s.under
  pub under_most : s.under ≤ 1000000000
  pub limit_most : (limit + 1) * s.under ≤ 2097152 * s.over

-- A power of two below 2^64.
pub record Power (n r : ℕ) : Type 0 where
  pub is : r ≡ 2 ^ n
  pub least : 1 ≤ r
  pub most : r ≤ 9223372036854775808
