-- `image::ask_two` meets its contract: question 1 and the kind here, the others by the kind's function.
use mathlib.Core.Bool.{false}
use mathlib.Core.Path.{◌≡◌, sym, ◌∙◌}
use Prim.Native.Nat.{◌≤◌, ◌<◌}
use native.Mathlib.Omega.{arith}
use lib.ListN.{length}
use borrow.Author.Tests.{lt-leb, le-leb}
use Rattle.rules.specs.Image.{two_grid_trailer_of, is_nested}
use Rattle.rules.specs.Questions.{opening_two}
use Rattle.image.proofs.ask_two.Goals as goal

pub returns-then-image-lt80 : goal.returns-then-image-lt80
unfolding opening_two
returns-then-image-lt80 c = let short : length c.args.image.now < 80 = omega arith in rw (lt-leb _ _ short)

pub returns-then-is_nested : goal.returns-then-is_nested
unfolding opening_two
returns-then-is_nested c =
    let enough : 80 ≤ length c.args.image.now = omega arith in
    let nested = sym c.is_nested.ensures ∙ c.if-is_nested.true in
    let read = c.read_two_grid_trailer-t.ensures in
    rw (le-leb _ _ enough, ← read, nested) (rw (← read, nested) at c.ask_nested.ensures)

pub returns : goal.returns
unfolding opening_two
returns c =
    let b = c.args.image.now in
    let enough : 80 ≤ length b = omega arith in
    let read = c.read_two_grid_trailer-t.ensures in
    let none : is_nested (two_grid_trailer_of b) ≡ false = rw (← read) (sym c.is_nested.ensures ∙ c.if-is_nested.false) in
    rw (le-leb _ _ enough, none) (rw read at c.judged_two.ensures)
