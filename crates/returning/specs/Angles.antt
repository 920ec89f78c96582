-- The angles' half of the trips, over any source with steady corrections: the way out settles, its answer goes back to the fix, and a
-- Bessel point returns. These are the laws of the iteration with the promise's numbers, which each proof takes from its statement. Nothing
-- here asks for a height.
use Rattle.std.specs.Prelude.{true, ◌≡◌, ℕ, suc, ◌≤◌}
use Rattle.rules.specs.declared.Point.{Point}
use Rattle.rules.specs.declared.Correction.{Correction}
use Rattle.rules.specs.Units.{correction_limit, stop_distance, most_evaluations}
use Rattle.rules.specs.Answers.{values}
use Rattle.rules.specs.Ways.{Source, plus, Settled, iterate}
use Rattle.returning.specs.Points.{Close}
use Rattle.returning.specs.Iteration.{Solution, SteadyCorrections}

-- A stop distance, where corrections of points at most D apart differ by at most `allowed D`. The distances from one point of the way out
-- to the next shrink by way of `reach 4`, `reach 3`, … to it, which is enough for corrections up to question 9's limit; and an answer goes
-- back to within `returned` of the fix.
pub record StopRule : Type 0 where
  pub stop : ℕ
  pub allowed : ℕ → ℕ
  pub returned : ℕ
  pub reach : ℕ → ℕ
  pub stops : reach 0 ≤ stop
  pub shrinks : (k : ℕ) → allowed (reach (suc k)) ≤ reach k
  pub enough : correction_limit ≤ reach 4
  pub returns : allowed stop ≤ returned

-- What the angles' half asks of a source: the rule's stop distance, and corrections that are steady, within question 9's limit and with the
-- rule's change.
pub record SteadyAngles (s : Source) (at : Point → Correction) (rule : StopRule) : Type 0 where
  pub stop_is : s.stop ≡ rule.stop
  pub corrections : SteadyCorrections s at rule.allowed correction_limit

-- The way out of p, up to its height, settles after at most `most` evaluations at a solution.
pub record Settles (s : Source) (stop : ℕ) (p : Point) (most : ℕ) : Type 0 where
  pub end : Settled
  pub is : iterate s stop p most_evaluations 0 p ≡ values end
  pub at_least_one : 1 ≤ end.count
  pub at_most : end.count ≤ most
  pub solution : Solution s stop p end.point

-- A Bessel point q goes back to a point in the bounds, and the way out of that settles at one within 2 nd of q.
pub record ReturnsNear (s : Source) (at : Point → Correction) (q : Point) : Type 0 where
  pub in_bounds : s.inside (plus q (at q)) ≡ true
  pub way : Settles s stop_distance (plus q (at q)) most_evaluations
  pub angles : Close 2 way.end.point q
