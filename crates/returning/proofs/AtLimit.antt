-- On an axis an angle at or past a limit that both bounds keep is a bound.
use Rattle.std.specs.Prelude.{true, ◌≡◌, ℕ, ◌≤◌, ℤ, pos, negsuc, nat_abs}
use Rattle.std.proofs.Common.{arith}
use Rattle.integers.specs.Difference.{order}
use Rattle.integers.specs.Distance.{size}
use Rattle.rules.specs.declared.Axis.{Axis}
use Rattle.rules.specs.Image.{far_bound}
use Rattle.rules.specs.Limits.{AxisPasses}
use Rattle.rules.specs.Lookup.{on_axis}
use Rattle.rules.proofs.Cells.{from_start, to_far}
use Rattle.returning.specs.Nearest.{Bound, at_start, at_far}

-- An angle on an axis that is as far from zero as its bounds may be is a bound.
pub at_limit : {limit : ℕ} {a : Axis} → AxisPasses limit a → (z : ℤ) → on_axis a z ≡ true → limit ≤ nat_abs z → Bound a z
at_limit {a} o (pos n) i l = at_far (omega (arith, order, to_far a (pos n) i, o.far_within, size (far_bound a)))
at_limit {a} o (negsuc n) i l = at_start (omega (arith, order, from_start a (negsuc n) i, o.start_within, size a.start))
