-- `bilinear::weigh_near` meets its contract: the value is the rounded sum of the raised corners, lowered again by 2^15 less the south-west
-- corner.
use mathlib.Core.Path.{◌≡◌}
use Prim.Native.Nat.{◌+◌, ◌*◌}
use native.Mathlib.Omega.{arith}
use lib.IntN.{pos, ◌-ℤ◌}
use mir.Syntax.{w64}
use mir.Val.{to_z, of_z}
use Rattle.integers.specs.Machine.{told, reads_back}
use Rattle.bilinear.specs.Mean.{raise, near_limit, Gaps, Below}
use Rattle.bilinear.proofs.Mixes.{whole_most, rest_below}
use Rattle.bilinear.proofs.Gaps.{read_corner}
use Rattle.bilinear.proofs.Divided.{value_is}
use Rattle.bilinear.proofs.Near.{NearTo, near_to, near_around, raised_below, below_most}
use Rattle.bilinear.proofs.weigh_near.Goals as goal
use Rattle.bilinear.proofs.weigh_near.Goals.{After-raised_square, Start}

-- What the test says of the corners, and the south-west one, read back.
tested : (s : Start) → NearTo s.args.c (s.args.s.latitude * s.args.s.longitude)
tested s = near_to s.args.c _ s.requires.2

southwest_read : (s : Start) → to_z w64 (of_z w64 s.args.c.southwest) ≡ s.args.c.southwest
southwest_read s = read_corner s.args.c.southwest s.requires.0.southwest

pub raised_square-requires : goal.raised_square-requires
raised_square-requires c =
    let s = (goal.at.raised_square-requires c).Start in rw (southwest_read s) (near_around s.args.c _ c.requires.0 (tested s))

gaps : (c : After-raised_square) → Gaps (c.args.c.southwest -ℤ pos raise) c.args.c c.raised_square.result
gaps c = rw (southwest_read (goal.at.After-raised_square c).Start) at c.raised_square.ensures

below : (c : After-raised_square) → Below (raise + near_limit) c.raised_square.result
below c = raised_below c.args.c _ c.requires.0 (tested (goal.at.After-raised_square c).Start) (gaps c)

pub near_quotient-quotient-requires : goal.near_quotient-quotient-requires
near_quotient-quotient-requires c =
    let small = (tested (goal.at.near_quotient-quotient-requires c).Start).area_most in
    (below (goal.at.near_quotient-quotient-requires c).After-raised_square, c.requires.1, small)

pub lowered-whole-requires : goal.lowered-whole-requires
lowered-whole-requires c =
    let most = whole_most c.requires.1 (below_most (below (goal.at.lowered-whole-requires c).After-raised_square)) in
    let within = c.requires.0.southwest in
    (rw (southwest_read (goal.at.lowered-whole-requires c).Start) within, omega arith, rw c.near_quotient-quotient.ensures most)

pub rounded_sum-requires : goal.rounded_sum-requires
rounded_sum-requires c = (
  rw (reads_back w64 c.lowered-whole.result c.lowered-whole.type_inv) c.lowered-whole.ensures.most,
  rw c.near_quotient-quotient.ensures (rest_below _ c.requires.1),
)

pub returns : goal.returns
returns c =
    let gaps = gaps (goal.at.returns c).After-raised_square in
    let lowered = rw (southwest_read (goal.at.returns c).Start) at c.lowered-whole.ensures.value in
    told w64 c.rounded_sum.type_inv
    (value_is c.requires.1 gaps c.near_quotient-quotient.ensures (told w64 c.lowered-whole.type_inv lowered) c.rounded_sum.ensures)
