-- `lookup::height_in` meets its contract: question 9 as the cell answers it, then the value between its heights.
use Rattle.std.specs.Prelude.{Some}
use Rattle.std.proofs.lemmas.Bool.{not-false}
use mathlib.Core.Path.{◌∙◌, sym, ap}
use lib.IntN.{ℤ}
use mir.Syntax.{w64}
use Rattle.integers.specs.Machine.{told}
use Rattle.rules.specs.Answers.{values}
use Rattle.rules.proofs.Answers.{answered_yes}
use Rattle.lookup.specs.Held.{value_in}
use Rattle.lookup.proofs.Found.{passing, heights_within}
use Rattle.lookup.proofs.height_in.Goals as goal

pub value_between-requires : goal.value_between-requires
value_between-requires c =
    let passes = not-false _ c.if-not-h.false in
    (heights_within (passing c.requires passes).height, rw c.place_in.ensures c.requires.place)

pub returns : goal.returns
unfolding value_in
returns c =
    let h = c.args.h in
    let value =
    told w64 c.value_between.type_inv c.value_between.ensures
    ∙ (λ i. value_in h.corners.height h.spacings (c.place_in.ensures i)) in
    ap (λ (z : ℤ). values (Some z)) value ∙ sym (answered_yes h.passes 9 _ (not-false _ c.if-not-h.false))
