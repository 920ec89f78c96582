-- `image::ask_nested` meets its contract: question 1 once more here, the others by `judged_nested`.
use mathlib.Core.Bool.{true}
use mathlib.Core.Path.{◌≡◌, ap}
use Prim.Native.Nat.{◌+◌, ◌≤◌, ◌<◌}
use native.Mathlib.Omega.{arith}
use lib.ListN.{length}
use borrow.Author.Tests.{lt-leb, le-leb}
use Rattle.rules.specs.declared.TwoGridTrailer.{TwoGridTrailer}
use Rattle.rules.specs.Image.{two_grid_trailer_of, is_nested}
use Rattle.rules.specs.Questions.{opening_nested}
use Rattle.image.proofs.ask_nested.Goals as goal
use Rattle.image.proofs.ask_nested.Goals.{Start}

-- the back to the correction nodes, as the trailer has it
back : (s : Start) → s.args.t.corrections.back ≡ (two_grid_trailer_of s.args.image.now).corrections.back
back s = ap (λ (t : TwoGridTrailer). t.corrections.back) s.requires.1

pub returns-then-size-t : goal.returns-then-size-t
unfolding opening_nested
returns-then-size-t c =
    let b = c.args.image.now in
    let short : length b < 36 + (two_grid_trailer_of b).corrections.back = omega (arith, back (goal.at.returns-then-size-t c).Start) in
    rw (lt-leb _ _ short)

pub returns : goal.returns
unfolding opening_nested
returns c =
    let b = c.args.image.now in
    let enough : 36 + (two_grid_trailer_of b).corrections.back ≤ length b = omega (arith, back (goal.at.returns c).Start, c.requires.0) in
    let nested : is_nested (two_grid_trailer_of b) ≡ true = rw c.requires.1 at c.requires.2 in
    rw (le-leb _ _ enough, nested) (rw (c.read_dense_trailer.ensures, c.requires.1) at c.judged_nested.ensures)
