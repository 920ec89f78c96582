-- `bilinear::weigh_any` meets its contract: the value is the rounded sum of the raised corners, lowered again.
use Prim.Native.Nat.{◌*◌}
use native.Mathlib.Omega.{arith}
use lib.IntN.{pos, ◌-ℤ◌}
use mir.Syntax.{w64}
use Rattle.integers.specs.Machine.{told, reads_back}
use Rattle.rules.specs.Units.{correction_limit}
use Rattle.bilinear.specs.Mean.{Below}
use Rattle.bilinear.proofs.Mixes.{whole_most, rest_below}
use Rattle.bilinear.proofs.Gaps.{gaps_most}
use Rattle.bilinear.proofs.Divided.{value_is}
use Rattle.bilinear.proofs.weigh_any.Goals as goal
use Rattle.bilinear.proofs.weigh_any.Goals.{After-raised_square}

-- The least value that a corner can have is the base: none lies further above it than twice the limit.
below : (c : After-raised_square) → Below (2 * correction_limit) c.raised_square.result
below c = gaps_most (pos 0 -ℤ pos correction_limit) (omega arith) c.requires.0 c.raised_square.ensures

pub lowered-whole-requires : goal.lowered-whole-requires
lowered-whole-requires c =
    let most = whole_most c.requires.1 (below (goal.at.lowered-whole-requires c).After-raised_square) in
    (omega arith, omega arith, rw c.any_quotient-quotient.ensures most)

pub rounded_sum-requires : goal.rounded_sum-requires
rounded_sum-requires c = (
  rw (reads_back w64 c.lowered-whole.result c.lowered-whole.type_inv) c.lowered-whole.ensures.most,
  rw c.any_quotient-quotient.ensures (rest_below _ c.requires.1),
)

pub returns : goal.returns
returns c =
    let lowered_is = told w64 c.lowered-whole.type_inv c.lowered-whole.ensures.value in
    told w64 c.rounded_sum.type_inv
    (value_is c.requires.1 c.raised_square.ensures c.any_quotient-quotient.ensures lowered_is c.rounded_sum.ensures)
