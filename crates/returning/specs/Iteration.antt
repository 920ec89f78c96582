-- The way out's iteration over any source of corrections, with any stop distance. Every answer is p minus the corrections at a point within
-- the stop distance; where corrections are limited and change slowly, each step is shorter than the one before, and answers are near each
-- other. With `hundredth` (Interpolation.antt) as the allowed change, this is a contraction with a Lipschitz constant of 1/100.
use Rattle.std.specs.Prelude.{◌≡◌, ℕ, ◌+◌, ◌≤◌}
use Rattle.std.proofs.Math.Bool.{true}
use Rattle.integers.specs.Difference.{up, down}
use Rattle.rules.specs.declared.Point.{Point}
use Rattle.rules.specs.declared.Correction.{Correction}
use Rattle.rules.specs.Answers.{Outcome, values}
use Rattle.rules.specs.Ways.{Source, Settled}
use Rattle.returning.specs.Points.{Close}
use Rattle.returning.specs.Points.{SteadyValue}

-- p is q plus c, in the form that `omega` reads and proves.
pub record Sum (q : Point) (c : Correction) (p : Point) : Type 0 where
  pub latitude : up q.latitude + up c.latitude + down p.latitude ≡ up p.latitude + down q.latitude + down c.latitude
  pub longitude : up q.longitude + up c.longitude + down p.longitude
      ≡ up p.longitude + down q.longitude + down c.longitude

-- q, in the bounds, is p minus the corrections at a point within `stop` of q.
pub record Solution (s : Source) (stop : ℕ) (p q : Point) : Type 0 where
  pub in_bounds : s.inside q ≡ true
  pub from : Point
  pub from_in_bounds : s.inside from ≡ true
  pub near : Close stop q from
  pub correction : Correction
  pub found : s.corrections from ≡ values correction
  pub sum : Sum q correction p

-- What the iteration asks of the corrections: in the bounds they are answered, and both are steady values.
pub record SteadyCorrections (s : Source) (at : Point → Correction) (allowed : ℕ → ℕ) (M : ℕ) : Type 0 where
  pub answered : (q : Point) → s.inside q ≡ true → s.corrections q ≡ values (at q)
  pub latitude : SteadyValue s.inside allowed M (λ q. (at q).latitude)
  pub longitude : SteadyValue s.inside allowed M (λ q. (at q).longitude)

-- A way out that ends with an answer, after at most `most` evaluations.
pub record Answered (w : Outcome Settled) (most : ℕ) : Type 0 where
  pub end : Settled
  pub is : w ≡ values end
  pub at_most : end.count ≤ most
