-- Document 01, "Lists of fixes": the content of an answer list is fixed for every index.
use Rattle.std.specs.Prelude.{List, ◌≡◌, ℕ, ◌+◌, ◌*◌, ◌<◌, ℤ, length, take, drop}
use Rattle.rules.specs.declared.Point.{Point}
use Rattle.rules.specs.Answers.{Outcome}
use Rattle.rules.specs.Ways.{Accepted}
use Rattle.rules.specs.Lists.{five_of}
use Rattle.fixes.specs.Fix.{at_fix}

-- The list l has the answers' length, and at 5 × k stand the five numbers of the single conversion of fix k.
pub record Content (single : Point → ℤ → Outcome Accepted) (fixes answers l : List ℤ) : Type 0 where
  pub same_length : length l ≡ length answers
  pub each : (k : ℕ) → 3 * k + 2 < length fixes → take 5 (drop (5 * k) l) ≡ five_of (at_fix single fixes k)
