-- What question 9 over all nodes says of each, and how large steps between nodes within a limit can be.
use mathlib.Core.Bool.{true}
use mathlib.Core.Path.{◌≡◌}
use Prim.Native.Nat.{ℕ, ◌+◌, ◌-◌, ◌*◌, ◌≤◌, ◌<◌}
use native.Mathlib.Omega.{arith}
use lib.IntN.{ℤ, nat_abs, ◌-ℤ◌}
use borrow.Author.Tests.{leb-true}
use Rattle.integers.specs.Difference.{var, ◌⊖◌}
use Rattle.integers.specs.Distance.{abs_is}
use Rattle.rules.specs.declared.Geometry.{Geometry}
use Rattle.rules.specs.Units.{within}
use Rattle.rules.specs.Image.{rows, columns}
use Rattle.rules.specs.Check.{every, all_within, step_north, step_east}
use Rattle.rules.proofs.Largest.{every_at, largest_most}

-- A limit that holds of every node's value.
abbrev pub NodesWithin : ℕ → Geometry → (ℕ → ℕ → ℤ) → Type 0
NodesWithin limit g f = (row column : ℕ) → row < rows g → column < columns g → nat_abs (f row column) ≤ limit

pub all_within_lem : (limit : ℕ) (g : Geometry) (f : ℕ → ℕ → ℤ) → all_within limit g f ≡ true → NodesWithin limit g f
unfolding all_within
all_within_lem limit g f h row column i j =
    let along = every_at (rows g) (λ row. every (columns g) (λ column. within limit (f row column))) h row i in
    leb-true _ _ (every_at (columns g) (λ column. within limit (f row column)) along column j)

module _ (g : Geometry) (f : ℕ → ℕ → ℤ) (m : ℕ) (within : NodesWithin m g f) where
  step_most_lem : (i j k l : ℕ) → i < rows g → j < columns g → k < rows g → l < columns g → nat_abs (f i j -ℤ f k l) ≤ 2 * m
  step_most_lem i j k l hi hj hk hl =
      let first = within i j hi hj in
      let second = within k l hk hl in
      omega (arith, abs_is (var (f i j) ⊖ var (f k l)), abs_is (var (f i j)), abs_is (var (f k l)))

  pub north_most : step_north g f ≤ 2 * m
  unfolding step_north
  north_most =
      largest_most (rows g - 1) _ _ (λ row i.
      largest_most (columns g) _ _ (λ column j.
      step_most_lem (row + 1) column row column (omega arith) j (omega arith) j))

  pub east_most : step_east g f ≤ 2 * m
  unfolding step_east
  east_most =
      largest_most (rows g) _ _ (λ row i.
      largest_most (columns g - 1) _ _ (λ column j.
      step_most_lem row (column + 1) row column i (omega arith) i (omega arith)))
