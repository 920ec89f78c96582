-- The edge of a grid whose border nodes are all zero (question 22): its values are zero on the border, so that a value which is taken as
-- zero outside is steady everywhere, and is zero where the bounds meet question 7's limits.
use Rattle.std.specs.Prelude.{cond, ℕ, ◌≤◌, ◌<◌, ℤ, pos, nat_abs}
use Rattle.rules.specs.declared.Geometry.{Geometry}
use Rattle.rules.specs.declared.Point.{Point}
use Rattle.rules.specs.Bilinear.{value_at}
use Rattle.rules.specs.Lookup.{inside}

-- ---- on the border
-- The first n nodes of a line are zero.
abbrev pub AllZero : ℕ → (ℕ → ℤ) → Type 0
AllZero n h = (i : ℕ) → i < n → nat_abs (h i) ≤ 0

-- ---- outside
-- A value that is taken as zero outside the bounds; and zero itself is steady.
abbrev pub value_or_zero : Geometry → (ℕ → ℕ → ℤ) → Point → ℤ
value_or_zero g f p = cond (inside g p) (value_at g f p) (pos 0)
