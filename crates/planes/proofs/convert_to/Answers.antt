-- `planes::convert_to` meets its contract: a refusal leaves the buffer; else the corrections and the rest fill it.
use mathlib.Core.Bool.{not}
use mathlib.Core.List.{List}
use mathlib.Core.Path.{◌≡◌, sym, ap, ◌∙◌}
use Prim.Native.Nat.{ℕ, ◌-◌}
use native.Mathlib.Omega.{arith}
use lib.ListN.{length, take, drop, set, length-take}
use lib.Seq.{length-take-le}
use Rattle.std.proofs.lemmas.Result.{err_from_is_err_and}
use Rattle.rules.specs.Answers.{values, number, number_of}
use Rattle.rules.specs.Planes.{convertible, rest_with_kind}
use Rattle.rules.proofs.Opening.{opened}
use Rattle.rules.proofs.Lent.{two_parts, second_part_length}
use Rattle.layouts.specs.Directions.{kind_in, corrections_in, converted_to, conversion_to}
use Rattle.layouts.proofs.Directions.{conversion_is}
use Rattle.planes.specs.Kinds.{in_planes}
use Rattle.planes.proofs.Places.{begins_inside, Fits, fits}
use Rattle.planes.proofs.convert_to.Goals as goal
use Rattle.planes.proofs.convert_to.Goals.{After-write_corrections, In_ok-l}

-- it was refused
pub returns-in_err-l : goal.returns-in_err-l
returns-in_err-l c =
    let w = in_planes c.args.to in
    let b = c.args.image.now in
    let room = length c.args.buffer.now in
    let p = err_from_is_err_and c.from_residual.result c.from_residual.ensures.1 in
    let e : conversion_to w b room ≡ number (number_of c.in_err-l.field-0.0) =
    conversion_is w b room ∙ rw (← c.other.ensures, ← c.in_err-l.ensures) in
    record { number = rw (p.1, p.2, e); buffer = rw e }

-- or it was not, and its values lie so
laid : (c : In_ok-l) → convertible (kind_in (not (in_planes c.args.to))) c.args.image.now (length c.args.buffer.now) ≡ values c.in_ok-l.l
laid c = rw (← c.other.ensures) (sym c.in_ok-l.ensures)

known : (c : In_ok-l) → Fits c.args.image.now c.in_ok-l.l (length c.args.buffer.now)
known c = fits _ c.args.image.now (length c.args.buffer.now) c.in_ok-l.l (laid c)

-- the parts begin in the image, whichever is asked for
pub overflow_sub-heights : goal.overflow_sub-heights
overflow_sub-heights c =
    let o = opened _ _ (known (goal.at.overflow_sub-heights c).In_ok-l).is_open in
    omega (arith, begins_inside o.height, begins_inside o.latitude)

pub overflow_sub-heights-2 : goal.overflow_sub-heights-2
overflow_sub-heights-2 c = let k = known (goal.at.overflow_sub-heights-2 c).In_ok-l in omega (arith, k.parts, k.whole)

-- the bytes of the corrections: all but the rest
abbrev part : In_ok-l → ℕ
part c = length c.args.buffer.now - (length c.args.image.now - c.in_ok-l.l.height.first)

part_long : (c : In_ok-l) → length (take (part c) c.args.buffer.now) ≡ part c
part_long c = length-take-le (part c) _ (omega arith)

pub write_corrections-requires : goal.write_corrections-requires
write_corrections-requires c =
    let k = known (goal.at.write_corrections-requires c).In_ok-l in
    (opened _ _ k.is_open, simp length-take (omega (arith, k.parts, k.trailer)))

-- what the first part of the buffer has after the corrections are written
abbrev written : In_ok-l → List ℕ
written c = corrections_in (in_planes c.args.to) c.args.image.now c.in_ok-l.l

corrections_long : (c : After-write_corrections) → let l = (goal.at.After-write_corrections c).In_ok-l in length (written l) ≡ part l
corrections_long c =
    ap length (sym c.write_corrections.ensures) ∙ c.write_corrections.auto.part ∙ part_long (goal.at.After-write_corrections c).In_ok-l

pub write_rest-requires : goal.write_rest-requires
write_rest-requires c =
    let w = (goal.at.write_rest-requires c).After-write_corrections in
    let l = (goal.at.write_rest-requires c).In_ok-l in
    let k = known l in
    let long = second_part_length (written l) c.args.buffer.now (part l) (corrections_long w) in
    rw (c.write_corrections.ensures, long) (omega (arith, k.parts, k.trailer), omega (arith, k.parts, k.trailer))

pub returns : goal.returns
unfolding rest_with_kind
returns c =
    let w = (goal.at.returns c).After-write_corrections in
    let l = (goal.at.returns c).In_ok-l in
    let b = c.args.image.now in
    let buffer = c.args.buffer.now in
    let first = c.in_ok-l.l.height.first in
    let rest = c.write_rest.ensures ∙ ap (λ (n : ℕ). drop first (set b (length b - 8) n)) c.number.ensures in
    let both = two_parts (written l) _ buffer (part l) (corrections_long w) in
    let e : conversion_to (in_planes c.args.to) b (length buffer) ≡ values (converted_to (in_planes c.args.to) b c.in_ok-l.l) =
    conversion_is (in_planes c.args.to) b (length buffer) ∙ rw (laid l) in
    record { number = rw e; buffer = rw e (rw c.write_corrections.ensures (rw rest both)) }
