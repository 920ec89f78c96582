-- Across a border: a value in the bounds of a grid and one outside them, each steady, that differ little on the border, are one steady
-- value. From a point in the bounds to one outside it changes up to the border, on it, and from there on.
use Rattle.std.specs.Prelude.{ℕ, zero, suc, ◌+◌, ◌-◌, ◌*◌, ◌/◌}
use Rattle.returning.specs.Interpolation.{hundredth}

-- ---- the stop rule with a dense grid
-- The change allowed between points at most D apart: one in a hundred, rounded up, on either side of the border, and 1 on it.
abbrev pub crossing : ℕ → ℕ
crossing D = 2 * hundredth D + 1

-- 3, 100, 4,900, 244,900, 12,244,900: a step of at most `reach (k + 1)` is followed by one of at most `reach k`.
abbrev pub reach : ℕ → ℕ
reach zero = 3
reach (suc k) = 100 * ((reach k - 1) / 2)
