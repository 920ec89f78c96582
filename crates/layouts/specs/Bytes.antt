-- What is read at a place of an image depends on the bytes there alone: where two images have the same bytes, each at its place, they read
-- the same numbers.
use Rattle.std.specs.Prelude.{List, ◌≡◌, ℕ, ◌+◌, ◌<◌, get_or}
use Rattle.rules.specs.declared.TwoGridTrailer.{TwoGridTrailer}

-- The n bytes of b from `at` on are those of k from `place` on.
pub record SameBytes (n : ℕ) (b : List ℕ) (at : ℕ) (k : List ℕ) (place : ℕ) : Type 0 where
  pub each : (i : ℕ) → i < n → get_or b (at + i) 0 ≡ get_or k (place + i) 0

-- and of edition 2's trailer all but the kind.
pub record SameGrids (t u : TwoGridTrailer) : Type 0 where
  pub corrections : t.corrections ≡ u.corrections
  pub heights : t.heights ≡ u.heights
