-- `walks::walk_rows` meets its contract. The invariant: south is the row before this one, and the largest steps are what the walk over the
-- rows so far leaves, whose nodes pass question 9.
use mathlib.Core.Path.{◌≡◌, sym, ap, ◌∙◌}
use Prim.Native.Nat.{◌-◌}
use native.Mathlib.Omega.{arith}
use Rattle.rules.specs.Image.{rows, columns}
use Rattle.steps.specs.Walk.{walked_of, along_row}
use Rattle.steps.proofs.Folds.{walked_none, walked_more, walked_all, walked_missed, came_through, stopped}
use Rattle.walks.proofs.walk_rows.Goals as goal
use Rattle.walks.proofs.walk_rows.Goals.{After-geometry-geometry, After-walk_row}

-- the geometry's rows
counted : (g : _) (c : After-geometry-geometry g) → c.geometry-geometry.result.latitude.count ≡ rows (g.P.Planes.geometry c.args.planes)
counted g c = ap rows c.geometry-geometry.ensures

-- the walk along a row, in terms of the planes
walked : (g : _) (c : After-walk_row g) → let r = g.R.Row in
    let line = g.P.Planes.row_of c.args.planes in
    let row = c.loop-row.row in
    walked_of c.walk_row.result
    ≡ along_row (r.passes (line row)) r.add (r.node c.args.image.now (line (row - 1))) (r.node c.args.image.now (line row))
    (columns (g.P.Planes.geometry c.args.planes)) c.loop-row.largest
walked g c =
    rw (c.row-here.ensures, c.row-below.ensures, c.loop-row.invariant.0, c.geometry-geometry.ensures) at c.walk_row.ensures

pub loop-row-init : goal.loop-row-init
loop-row-init g c = (omega arith, rw c.none-largest.ensures walked_none)

pub returns-in_err-largest : goal.returns-in_err-largest
returns-in_err-largest g c =
    let at = goal.at.returns-in_err-largest g c in
    let missed = stopped _ _ _ _ (sym (walked g at.After-walk_row) ∙ ap walked_of c.in_err-largest.was) in
    ap walked_of c.from_residual.ensures
    ∙ walked_missed c.loop-row.invariant.1 (rw (← counted g at.After-geometry-geometry) c.loop-row-test.true) missed

pub loop-row-preserved : goal.loop-row-preserved
loop-row-preserved g c =
    let l = c.loop-row in
    let h = came_through _ _ _ _ (sym (walked g (goal.at.loop-row-preserved g c).After-walk_row) ∙ ap walked_of c.in_ok-largest.was) in
    (omega arith, walked_more l.invariant.1 h.0 (sym h.1))

pub returns : goal.returns
returns g c =
    walked_all c.loop-row.invariant.1 (omega (arith, counted g (goal.at.returns g c).After-geometry-geometry))
