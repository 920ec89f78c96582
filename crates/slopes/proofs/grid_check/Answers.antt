-- `slopes::grid_check` meets its contract: questions 1 to 6 by `open`, the others by `check_planes` over the same bytes.
use Rattle.std.proofs.lemmas.Result.{err_from_is_err_and}
use Rattle.rules.specs.Check.{grid_check}
use Rattle.slopes.proofs.grid_check.Goals as goal

pub returns-in_err-image : goal.returns-in_err-image
unfolding grid_check
returns-in_err-image c =
    let p = err_from_is_err_and c.from_residual.result c.from_residual.ensures.1 in
    rw (p.1, p.2, ← c.in_err-image.ensures.layout)

pub returns : goal.returns
unfolding grid_check
returns c = rw (← c.in_ok-image.ensures.layout, ← c.in_ok-image.ensures.bytes) c.check_planes.ensures
