-- `planes::convertible` meets its contract: the image's number, then the kind, then the length of the buffer.
use mathlib.Core.Path.{sym}
use native.Mathlib.Omega.{arith}
use borrow.Author.Tests.{eq-eqb, ne_eqb}
use Rattle.std.proofs.lemmas.Result.{err_from_is_err_and}
use Rattle.rules.specs.Planes.{convertible}
use Rattle.rules.proofs.Opening.{opened}
use Rattle.planes.proofs.Places.{begins_inside}
use Rattle.planes.proofs.convertible.Goals as goal

pub returns-in_err-fit : goal.returns-in_err-fit
unfolding convertible
returns-in_err-fit c =
    let p = err_from_is_err_and c.from_residual.result c.from_residual.ensures.1 in
    rw (p.1, p.2, ← c.in_err-fit.ensures.layout)

pub returns-then-not-is_of_kind : goal.returns-then-not-is_of_kind
unfolding convertible
returns-then-not-is_of_kind c = rw (← c.in_ok-fit.ensures.layout, ← c.is_of_kind.ensures, c.if-not-is_of_kind.true)

pub overflow_sub-bytes : goal.overflow_sub-bytes
overflow_sub-bytes c =
    let o = opened _ _ (sym c.in_ok-fit.ensures.layout) in
    omega (arith, begins_inside o.latitude, begins_inside o.height)

pub returns-then-room-bytes : goal.returns-then-room-bytes
unfolding convertible
returns-then-room-bytes c =
    rw (← c.in_ok-fit.ensures.layout, ← c.is_of_kind.ensures, c.if-not-is_of_kind.false, ne_eqb _ _ c.if-room-bytes.true)

pub returns : goal.returns
unfolding convertible
returns c = rw (← c.in_ok-fit.ensures.layout, ← c.is_of_kind.ensures, c.if-not-is_of_kind.false, eq-eqb _ _ c.if-room-bytes.false)
