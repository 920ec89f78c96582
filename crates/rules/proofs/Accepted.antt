-- An answer, with a height or without one, has the point and the count that it is made of.
use mathlib.Core.Path.{◌≡◌, refl}
use Prim.Native.Nat.{ℕ}
use lib.IntN.{ℤ}
use Rattle.std.specs.Prelude.{Some, None}
use Rattle.rules.specs.declared.Point.{Point}
use Rattle.rules.specs.Lookup.{Height}
use Rattle.rules.specs.Ways.{answer_at}
use Rattle.rules.specs.Promise.{point_of}

module _ (p : Point) (makes : ℤ → ℤ) (n : ℕ) where
  pub answer_point : (found : Height) → point_of (answer_at p makes n found).position ≡ p
  answer_point (Some z) = refl
  answer_point None = refl

  pub answer_count : (found : Height) → (answer_at p makes n found).position.count ≡ n
  answer_count (Some z) = refl
  answer_count None = refl
