-- On one axis: every angle within d of one that is at least d inside both bounds is in the bounds.
use Rattle.std.specs.Prelude.{◌≡◌, ℕ, ℤ, pos, ◌+ℤ◌, ◌-ℤ◌, ◌≤ℤ◌}
use Rattle.std.proofs.Math.Bool.{true}
use Rattle.std.proofs.Common.{arith}
use Rattle.integers.specs.Difference.{order, var, lit, ◌⊕◌, ◌⊖◌}
use Rattle.integers.specs.Distance.{Near}
use Rattle.rules.specs.declared.Axis.{Axis}
use Rattle.rules.specs.Image.{far_bound}
use Rattle.rules.specs.Lookup.{on_axis}
use Rattle.rules.proofs.Cells.{on_axis_lem}

pub axis_room : (a : Axis) (d : ℕ) (z w : ℤ) → (a.start +ℤ pos d) ≤ℤ z → z ≤ℤ (far_bound a -ℤ pos d) → Near d w z → on_axis a w ≡ true
axis_room a d z w h k n =
    on_axis_lem a w (omega (arith, order, var a.start ⊕ lit d)) (omega (arith, order, var (far_bound a) ⊖ lit d))
