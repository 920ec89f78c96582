-- `bilinear::are_near` meets its contract: the differences of corners are small, so each fits.
use mathlib.Core.Bool.{◌&&◌}
use mathlib.Core.Path.{◌≡◌, ◌∙◌}
use native.Mathlib.Omega.{arith}
use lib.IntN.{◌-ℤ◌}
use Rattle.integers.specs.Booleans.{and_next, and_stop}
use Rattle.integers.specs.Machine.{difference_back}
use Rattle.rules.specs.Units.{within}
use Rattle.bilinear.specs.Mean.{near_limit, near}
use Rattle.bilinear.proofs.are_near.Goals as goal
use Rattle.bilinear.proofs.are_near.Goals.{After-three_within}

-- the first test, on the differences themselves
first : (c : After-three_within) → let q = c.args.c in
    c.three_within.result
    ≡ (within near_limit (q.southeast -ℤ q.southwest)
    && (within near_limit (q.northwest -ℤ q.southwest) && within near_limit (q.northeast -ℤ q.southwest)))
first c =
    let q = c.args.c in
    rw (
      difference_back q.southeast q.southwest (omega arith) (omega arith),
      difference_back q.northwest q.southwest (omega arith) (omega arith),
      difference_back q.northeast q.southwest (omega arith) (omega arith),
    ) at c.three_within.ensures

pub returns-then-three_within : goal.returns-then-three_within
unfolding near
returns-then-three_within c =
    and_next (first (goal.at.returns-then-three_within c).After-three_within) c.if-three_within.true c.is_between.ensures

pub returns-else-three_within : goal.returns-else-three_within
unfolding near
returns-else-three_within c =
    c.if-three_within.false ∙ and_stop _ (first (goal.at.returns-else-three_within c).After-three_within) c.if-three_within.false
