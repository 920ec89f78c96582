-- `image::is_separate` meets its contract: question 1 and the edition here, the others by the edition's function.
use mathlib.Core.Path.{◌≡◌, sym, ◌∙◌}
use Prim.Native.Nat.{◌≤◌, ◌<◌}
use native.Mathlib.Omega.{arith}
use lib.ListN.{length}
use Rattle.std.proofs.lemmas.Result.{err_from_is_err_and}
use borrow.Author.Tests.{lt-leb, le-leb, eq-eqb, ne_eqb}
use Rattle.rules.specs.Image.{trailer_of}
use Rattle.rules.specs.Questions.{judge, opening_two, opening}
use Rattle.image.proofs.is_separate.Goals as goal
use Rattle.image.proofs.is_separate.Goals.{Else-read_edition-eq2, Then-read_edition-eq2}

pub returns-then-image-lt40 : goal.returns-then-image-lt40
unfolding opening
returns-then-image-lt40 c = let short : length c.args.image.now < 40 = omega arith in rw (lt-leb _ _ short)

-- by edition 2's questions, or by edition 1's
second : (c : Then-read_edition-eq2) → opening c.args.image.now ≡ opening_two c.args.image.now
unfolding opening
second c =
    let enough : 40 ≤ length c.args.image.now = omega arith in
    rw (le-leb _ _ enough, ← c.read_edition.ensures, eq-eqb _ _ c.if-read_edition-eq2.true)

first : (c : Else-read_edition-eq2) → let b = c.args.image.now in opening b ≡ judge (trailer_of b) (length b)
unfolding opening
first c =
    let enough : 40 ≤ length c.args.image.now = omega arith in
    rw (le-leb _ _ enough, ← c.read_edition.ensures, ne_eqb _ _ c.if-read_edition-eq2.false)

pub returns-in_err-ask_two : goal.returns-in_err-ask_two
returns-in_err-ask_two c =
    let p = err_from_is_err_and c.from_residual.result c.from_residual.ensures.1 in
    rw (p.1, p.2) (c.in_err-ask_two.ensures ∙ sym (second (goal.at.returns-in_err-ask_two c).Then-read_edition-eq2))

pub returns-then-read_edition-eq2 : goal.returns-then-read_edition-eq2
returns-then-read_edition-eq2 c = c.in_ok-ask_two.ensures ∙ sym (second (goal.at.returns-then-read_edition-eq2 c).Then-read_edition-eq2)

pub returns-in_err-judged : goal.returns-in_err-judged
returns-in_err-judged c =
    let p = err_from_is_err_and c.from_residual-in_err-judged.result c.from_residual-in_err-judged.ensures.1 in
    rw (p.1, p.2)
    (rw c.read_trailer.ensures at c.in_err-judged.ensures ∙ sym (first (goal.at.returns-in_err-judged c).Else-read_edition-eq2))

pub returns : goal.returns
returns c =
    rw c.read_trailer.ensures at c.in_ok-judged.ensures ∙ sym (first (goal.at.returns c).Else-read_edition-eq2)
