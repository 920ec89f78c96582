-- Distances of points, room around a point, and values over points that are limited and change slowly.
use Rattle.std.specs.Prelude.{Bool, true, ◌≡◌, ℕ, ◌≤◌, ℤ, nat_abs}
use Rattle.integers.specs.Distance.{Near}
use Rattle.rules.specs.declared.Point.{Point}

-- Each angle of p within d of q's, in the form that `omega` reads and proves.
pub record Close (d : ℕ) (p q : Point) : Type 0 where
  pub latitude : Near d p.latitude q.latitude
  pub longitude : Near d p.longitude q.longitude

-- Every point within d of p is in the bounds. Here and below, bounds are any test of points: those of the corrections or of the heights.
abbrev pub Room : (bounds : Point → Bool) → ℕ → Point → Type 0
Room bounds d p = (q : Point) → Close d q p → bounds q ≡ true

-- A steady value is at most M from zero in the bounds, and changes there by at most `allowed D`, the change allowed between points at most
-- D apart.
pub record SteadyValue (bounds : Point → Bool) (allowed : ℕ → ℕ) (M : ℕ) (value : Point → ℤ) : Type 0 where
  pub limit : (q : Point) → bounds q ≡ true → nat_abs (value q) ≤ M
  pub change : (q r : Point) (D : ℕ) → bounds q ≡ true → bounds r ≡ true → Close D q r → Near (allowed D) (value q) (value r)
