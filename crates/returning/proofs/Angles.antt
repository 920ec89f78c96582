-- The angles' half of the trips, over any source with steady corrections: the way out settles, its answer goes back to the fix, and a
-- Bessel point returns. These are the laws of the iteration with the promise's numbers, which each proof takes from its statement. Nothing
-- here asks for a height.
use Rattle.std.specs.Prelude.{ℕ, suc, ◌≤◌, ◌<◌, ◌^◌}
use Rattle.std.proofs.Common.{arith}
use Rattle.rules.specs.declared.Point.{Point}
use Rattle.rules.specs.declared.Correction.{Correction}
use Rattle.rules.specs.Units.{correction_limit, fix_margin, stop_distance, most_evaluations}
use Rattle.rules.specs.Ways.{Source, plus}
use Rattle.rules.proofs.Evaluations.{counted}
use Rattle.returning.specs.Points.{Close, Room}
use Rattle.returning.proofs.Points.{close_self, close_mono, room_itself, room_around}
use Rattle.returning.specs.Interpolation.{hundredth}
use Rattle.returning.specs.Iteration.{Solution, SteadyCorrections}
use Rattle.returning.proofs.Iteration.{sound}
use Rattle.returning.proofs.Iteration.{solution_near, back_within, apart, settles}
use Rattle.returning.specs.Angles.{Settles, SteadyAngles, StopRule}

-- Without a dense grid: 1 nd, and a change of one in a hundred, rounded up. A step of at most 100 ^ (k + 1) is followed by one of at most
-- 100 ^ k, and a fix returns within 1 nd.
abbrev pub stop_at_one : StopRule
stop_at_one =
    record {
      stop = stop_distance;
      allowed = hundredth;
      returned = 1;
      reach = λ k. 100 ^ k;
      stops = omega arith;
      shrinks = λ k. omega arith;
      enough = omega arith;
      returns = omega arith;
    }

module _ {s : Source} {at : Point → Correction} {M : ℕ} (rule : StopRule) (S : SteadyCorrections s at rule.allowed M) where
  -- Where corrections are at most `reach k`: after at most k + 1 evaluations.
  pub settles_after : (k : ℕ) → k < most_evaluations → M ≤ rule.reach k → (p : Point) → Room s.inside M p
      → Settles s rule.stop p (suc k)
  settles_after k h l p room =
      let stop = rule.stop in
      let i = room_itself p room in
      let v = settles S stop rule.reach rule.stops rule.shrinks p room k 4 (omega arith) l in
      record {
        end = v.end;
        is = v.is;
        at_least_one = (counted s stop p most_evaluations 0 p i v.end v.is).0;
        at_most = v.at_most;
        solution = sound s stop p most_evaluations 0 p i v.end v.is;
      }

module _ {s : Source} {at : Point → Correction} {rule : StopRule} (a : SteadyAngles s at rule) where
  -- A fix inside the margin goes out after at most five evaluations, to a point within the corrections' limit of it, which goes back to
  -- within the rule's distance of the fix.
  pub goes_out : (p : Point) → Room s.inside fix_margin p → Settles s rule.stop p most_evaluations
  goes_out p room =
      settles_after rule a.corrections 4 (omega arith) rule.enough p (room_around (omega arith) (close_self 0 p) room)

  pub out_near : {p q : Point} → Solution s rule.stop p q → Close correction_limit q p
  out_near v = solution_near a.corrections v

  pub fix_returns : {p q : Point} → Solution s rule.stop p q → Close rule.returned (plus q (at q)) p
  fix_returns v = close_mono rule.returns (back_within a.corrections v)

-- ---- without a dense grid
module _ {s : Source} {at : Point → Correction} {M : ℕ} (S : SteadyCorrections s at hundredth M) where
  -- Every other point that goes back to within 1 nd of the fix lies within 3 nd of the answer.
  pub others_near : {p q r q' : Point} → Solution s stop_distance p q → Solution s 0 r q' → Close 1 r p → Close 3 q' q
  others_near v w h = apart S (λ D. omega arith) w v h

  -- A Bessel point returns within 2 nd.
  pub point_returns : {p q q' : Point} → Solution s stop_distance p q → Solution s 0 p q' → Close 2 q q'
  point_returns {p} v w = apart S (λ D. omega arith) v w (close_self 0 p)
