-- The bilinear value over any values by row and column: it is within the nodes' limit, and it is a line over lines, so that the steps
-- between neighbours bound its change.
use Rattle.std.specs.Prelude.{ℕ, ◌+◌, ◌/◌, ℤ}
use Rattle.rules.specs.declared.Geometry.{Geometry}
use Rattle.rules.specs.declared.Point.{Point}
use Rattle.returning.specs.Line.{line}

-- P × Q times the exact value at a point, as a line over lines.
unfoldable pub surface : Geometry → (ℕ → ℕ → ℤ) → Point → ℤ
surface g f p = line g.latitude (λ row. line g.longitude (f row) p.longitude) p.latitude

-- One in a hundred, rounded up: the change that question 12 allows between points at most D apart. With it the proof of the iteration is a
-- contraction with a Lipschitz constant of 1/100 (Iteration.antt).
abbrev pub hundredth : ℕ → ℕ
hundredth D = (D + 99) / 100
