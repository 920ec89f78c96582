-- Interpolation along one axis: the spacing times the value at an angle is the weighted sum of the values of its cell's two nodes. From
-- cell to cell, through the nodes that they share, the largest step between neighbours bounds the change along the whole axis.
use Rattle.std.specs.Prelude.{ℕ, ◌+◌, ◌-◌, ℤ, pos, ◌+ℤ◌, ◌*ℤ◌}
use Rattle.rules.specs.declared.Axis.{Axis}
use Rattle.rules.specs.Bilinear.{cell_for, part_for}

-- The sum of two values times their weights.
unfoldable pub weighted_pair : ℤ → ℤ → (s u : ℕ) → ℤ
weighted_pair a b s u = a *ℤ pos s +ℤ b *ℤ pos u

-- The value at the angle z of nodes h, times the spacing.
unfoldable pub line : Axis → (ℕ → ℤ) → ℤ → ℤ
line a h z = weighted_pair (h (cell_for a z)) (h (cell_for a z + 1)) (a.spacing - part_for a z) (part_for a z)
