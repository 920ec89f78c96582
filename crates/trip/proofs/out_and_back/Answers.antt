-- `trip::out_and_back` meets its contract: the way out, and its answer taken back.
use mathlib.Core.Path.{◌≡◌, sym, ap, ◌∙◌}
use Rattle.std.proofs.lemmas.Result.{err_from_is_err_and}
use Rattle.std.proofs.Common.{⊎_elim}
use Rattle.rules.specs.Ways.{accepted_of}
use Rattle.rules.specs.Trip.{out_then_back}
use Rattle.trip.specs.Back.{same_number}
use Rattle.trip.proofs.Numbers.{position_alone}
use Rattle.trip.proofs.out_and_back.Goals as goal

pub returns-in_err-a : goal.returns-in_err-a
unfolding out_then_back
returns-in_err-a c =
    let p = err_from_is_err_and c.from_residual.result c.from_residual.ensures.1 in
    let no = c.in_err-a.ensures in
    rw (p.1, p.2, ← no)

pub returns : goal.returns
unfolding out_then_back
returns c =
    let s = c.args in
    let found = c.in_ok-a.field-0 in
    let went = c.in_ok-a.ensures in
    let position : (accepted_of found).position ≡ c.in-WithHeight.a =
    ⊎_elim (ap (λ v. (accepted_of v).position)) (ap (λ v. (accepted_of v).position)) c.in-WithHeight.is in
    let alone = position_alone s.image.now s.fix.point s.fix.height (accepted_of found) (sym went) in
    rw (← went) (c.taken_back.ensures ∙ ap (same_number s.image.now) (sym position) ∙ alone)
