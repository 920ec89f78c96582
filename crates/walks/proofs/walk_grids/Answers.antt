-- `walks::walk_grids` meets its contract: the walk over the heights and that over the corrections, in turn, are that of the grid.
use mathlib.Core.Path.{sym}
use Rattle.image.specs.Fit.{grid_in}
use Rattle.walks.proofs.Outcomes.{grids_found}
use Rattle.walks.proofs.walk_grids.Goals as goal

pub returns-in_err-height : goal.returns-in_err-height
returns-in_err-height c =
    rw (c.from_residual.ensures, grids_found (grid_in c.args.image.now), sym c.in_err-height.ensures)

pub returns-in_err-corrections : goal.returns-in_err-corrections
returns-in_err-corrections c =
    let stopped = c.from_residual-in_err-corrections.ensures in
    rw (stopped, grids_found (grid_in c.args.image.now), sym c.in_ok-height.ensures, sym c.in_err-corrections.ensures)

pub returns : goal.returns
returns c =
    rw (grids_found (grid_in c.args.image.now), sym c.in_ok-height.ensures, sym c.in_ok-corrections.ensures)
