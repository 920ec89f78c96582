-- `notation::write_notation` meets its contract: the size within the axis's limit, then the rule's parts, each equal to a call's result.
use mathlib.Core.Bool.{true, false}
use mathlib.Core.Path.{◌≡◌, ap, ◌∙◌}
use native.Mathlib.Omega.{arith}
use lib.IntN.{pos, nat_abs}
use mir.Facts.{to_z-of_z}
use borrow.Author.Tests.{le-leb, lt-leb}
use Rattle.rules.specs.Units.{degrees, within}
use Rattle.rules.specs.Notation.{axis_limit, write_notation, total_written}
use Rattle.notation.proofs.write_notation.Goals as goal

pub returns-then-axis_limit-size : goal.returns-then-axis_limit-size
unfolding write_notation
returns-then-axis_limit-size c =
    let s = c.args in
    let same = to_z-of_z c.ranges.nd in
    let size : c.unsigned_abs-size.result ≡ nat_abs s.nd = rw same at c.unsigned_abs-size.ensures.value in
    let k : within (degrees (axis_limit s.longitude)) s.nd ≡ false = omega (arith, lt-leb) in
    rw k

pub returns : goal.returns
unfolding write_notation total_written
returns c =
    let s = c.args in
    let same = to_z-of_z c.ranges.nd in
    let size : c.unsigned_abs-size.result ≡ nat_abs s.nd = rw same at c.unsigned_abs-size.ensures.value in
    let total : c.total_written-t.result ≡ total_written s.nd = c.total_written-t.ensures ∙ ap total_written (ap pos size) in
    let k : within (degrees (axis_limit s.longitude)) s.nd ≡ true = omega (arith, le-leb) in
    rw k (cc (c.notation_of.ensures, c.letter_of.ensures, c.is_written_below_zero-below.ensures, same, total))
