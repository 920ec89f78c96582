-- Division of an integer by a natural above zero, rounded down, and the exact quotient plus one half, rounded down.
use Rattle.std.specs.Prelude.{ℕ, ◌+◌, ◌*◌, ◌/◌, ◌≤◌, ◌<◌, ℤ, pos, negsuc, ◌+ℤ◌, ◌*ℤ◌}
use Rattle.integers.specs.Difference.{up, down}

-- z / d rounded down: of −(n + 1) that is −(n / d + 1)
abbrev pub floor_div : ℤ → ℕ → ℤ
floor_div (pos n) d = pos (n / d)
floor_div (negsuc n) d = negsuc (n / d)

-- q is z / d rounded down, d·q ≤ z < d·q + d, on the parts: `omega` reads and proves it with nothing listed
pub record Floor (d : ℕ) (z q : ℤ) : Type 0 where
  pub low : d * up q + down z ≤ up z + d * down q
  pub high : up z + d * down q < d * up q + d + down z

-- num / den plus one half, rounded down
unfoldable pub round_half_up : ℤ → ℕ → ℤ
round_half_up num den = floor_div (pos 2 *ℤ num +ℤ pos den) (2 * den)

-- r is num / den to the nearest, halves up: 2·den·r ≤ 2·num + den < 2·den·r + 2·den, on the parts
pub record Round (den : ℕ) (num r : ℤ) : Type 0 where
  pub low : 2 * (den * up r) + 2 * down num ≤ 2 * up num + den + 2 * (den * down r)
  pub high : 2 * up num + 2 * (den * down r) < 2 * (den * up r) + den + 2 * down num
