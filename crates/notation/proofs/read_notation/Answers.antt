-- `notation::read_notation` meets its contract: the rule in the parts that the code tests, each equal to a call's result.
use mathlib.Core.Bool.{true, false}
use mathlib.Core.Path.{◌≡◌, sym, ap, ◌∙◌}
use Prim.Native.Nat.{ℕ, ◌*◌, ◌^◌, ◌≤◌, ◌<◌}
use native.Mathlib.Omega.{arith}
use lib.IntN.{pos}
use mir.Syntax.{w64}
use mir.Val.{to_z, of_z, hbits}
use Rattle.std.specs.Prelude.{Option, Some, None}
use Rattle.std.proofs.lemmas.Result.{err_from_is_err_and}
use Rattle.integers.specs.Machine.{told, minus_back}
use Rattle.rules.specs.declared.Refusal.TheVariants.{BadNotation}
use Rattle.rules.specs.Answers.{values}
use Rattle.rules.specs.Notation.{per_degree, total, magnitude_read, read_notation}
use Rattle.notation.specs.declared.Side.{Side}
use Rattle.notation.specs.Parts.{amounts_fit, side_of, angle_on, amounts, axis_most, read_in_parts}
use Rattle.notation.specs.Totals.{read_most}
use Rattle.notation.proofs.read_notation.Goals as goal
use Rattle.notation.proofs.read_notation.Goals.{After-letter_side, After-size_of-size, Else-not-amounts_fit}

small_total : (c : Else-not-amounts_fit) → total c.args.n ≤ 180 * per_degree
small_total c =
    let a = amounts c.args.longitude c.args.n cc in
    omega (arith, axis_most c.args.longitude)

pub returns-then-not-amounts_fit : goal.returns-then-not-amounts_fit
returns-then-not-amounts_fit c =
    let h : amounts_fit c.args.longitude c.args.n ≡ false = cc in
    rw (read_in_parts, h)

pub total_of-requires : goal.total_of-requires
total_of-requires c = omega (arith, small_total c)

pub size_of-size-requires : goal.size_of-size-requires
size_of-size-requires c = omega (arith, small_total (goal.at.size_of-size-requires c).Else-not-amounts_fit)

-- the size in nd, as the machine reads it back
size_is : (c : After-size_of-size) → let s = c.args in
    to_z w64 (of_z w64 c.size_of-size.result) ≡ pos (magnitude_read (total s.n))
size_is c = told w64 c.size_of-size.type_inv c.size_of-size.ensures ∙ ap (λ (t : ℕ). pos (magnitude_read t)) c.total_of.ensures

-- it is far below 2^63, so that its negative fits too
size_small : (c : After-size_of-size) → magnitude_read (total c.args.n) < 2 ^ hbits w64
size_small c = omega (arith, read_most 180 _ (small_total (goal.at.After-size_of-size c).Else-not-amounts_fit))

-- the rule's angle, on the side that is told of the letter
on_side : (c : After-letter_side) (side : Option Side) → c.letter_side.result ≡ side →
    let s = c.args in
    read_notation s.longitude s.n ≡ angle_on side (magnitude_read (total s.n))
on_side c side e =
    let s = c.args in
    let fit : amounts_fit s.longitude s.n ≡ true = cc in
    let told-side : side_of s.longitude s.n.letter ≡ side = sym c.letter_side.ensures ∙ e in
    rw (read_in_parts, fit, told-side)

pub returns-in_err-side : goal.returns-in_err-side
returns-in_err-side c =
    let p = err_from_is_err_and c.from_residual.result c.from_residual.ensures.1 in
    let none : c.letter_side.result ≡ None = grind arith in
    let bad : c.in_err-side.field-0.0 ≡ BadNotation = grind (arith, none) in
    rw (p.1, p.2, bad) (sym (on_side (goal.at.returns-in_err-side c).After-letter_side _ none))

pub returns-in-Positive : goal.returns-in-Positive
returns-in-Positive c =
    ap values (size_is (goal.at.returns-in-Positive c).After-size_of-size)
    ∙ sym (on_side (goal.at.returns-in-Positive c).After-letter_side _ (c.in_ok-side.ensures.ok_part ∙ ap Some c.in-Positive.is))

pub returns-in-Negative : goal.returns-in-Negative
returns-in-Negative c =
    ap values
    (minus_back w64 (size_is (goal.at.returns-in-Negative c).After-size_of-size)
    (size_small (goal.at.returns-in-Negative c).After-size_of-size)) ∙ sym (on_side (goal.at.returns-in-Negative c).After-letter_side _
    (c.in_ok-side.ensures.ok_part ∙ ap Some c.in-Negative.is))
