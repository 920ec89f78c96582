-- `bilinear::rounded_sum` meets its contract: it hands on the sum's sign, and quotient and remainder of its absolute value.
use mathlib.Core.Bool.{false}
use mathlib.Core.Path.{◌≡◌, ◌∙◌}
use Prim.Native.Nat.{◌≤◌, ◌<◌}
use native.Mathlib.Omega.{arith}
use lib.IntN.{pos, nat_abs}
use lib.Signed.{le_z}
use mir.Syntax.{w64}
use mir.Val.{to_z, of_z}
use mir.Facts.{to_z-of_z}
use Rattle.integers.specs.Difference.{up, down}
use Rattle.integers.specs.Machine.{zarith, told}
use Rattle.bilinear.proofs.Divided.{not_below_zero, whole_below_zero, part_below_zero}
use Rattle.bilinear.proofs.rounded_sum.Goals as goal
use Rattle.bilinear.proofs.rounded_sum.Goals.{After-unsigned_abs-size, Start}

-- The quotient rounded down, as the machine reads it, its size, and what the test says of it.
whole_read : (s : Start) → to_z w64 (of_z w64 s.args.whole) ≡ s.args.whole
whole_read s = to_z-of_z s.ranges.whole

size_is : (c : After-unsigned_abs-size) → c.unsigned_abs-size.result ≡ nat_abs c.args.whole
size_is c = rw (whole_read (goal.at.After-unsigned_abs-size c).Start) at c.unsigned_abs-size.ensures.value

below_zero : (s : Start) → le_z (pos 0) (to_z w64 (of_z w64 s.args.whole)) ≡ false → up s.args.whole < down s.args.whole
below_zero s e = omega (zarith, rw (whole_read s) at e)

pub returns-then-whole-ge0 : goal.returns-then-whole-ge0
returns-then-whole-ge0 c =
    let s = (goal.at.returns-then-whole-ge0 c).Start in
    let sign : down s.args.whole ≤ up s.args.whole = omega (zarith, rw (whole_read s) at c.if-whole-ge0.true) in
    let size : c.unsigned_abs.result ≡ nat_abs c.args.whole = rw (whole_read s) at c.unsigned_abs.ensures.value in
    told w64 c.rounded.type_inv (rw size at c.rounded.ensures)
    ∙ not_below_zero c.requires.1 c.args.whole sign

pub returns-then-rest-eq0 : goal.returns-then-rest-eq0
returns-then-rest-eq0 c =
    let sign = below_zero (goal.at.returns-then-rest-eq0 c).Start c.if-whole-ge0.false in
    let size = size_is (goal.at.returns-then-rest-eq0 c).After-unsigned_abs-size in
    rw c.if-rest-eq0.true
    (told w64 c.rounded-then-rest-eq0.type_inv (rw size at c.rounded-then-rest-eq0.ensures)
    ∙ whole_below_zero (omega arith) c.args.whole sign)

pub returns : goal.returns
returns c =
    let sign = below_zero (goal.at.returns c).Start c.if-whole-ge0.false in
    told w64 c.rounded-2.type_inv (rw (size_is (goal.at.returns c).After-unsigned_abs-size) at c.rounded-2.ensures)
    ∙ part_below_zero c.requires.1 c.args.whole sign (omega arith)
