-- `walks::walk_rows` meets its contract. The invariant: south is the row before this one, and the largest steps are what the walk over the
-- rows so far leaves, whose nodes pass question 9.
use mathlib.Core.Path.{◌≡◌}
use Prim.Native.Nat.{◌-◌}
use Rattle.rules.specs.Image.{columns}
use Rattle.steps.proofs.Folds.{Walked}
use Rattle.walks.specs.Rows.{row_passes, row_steps}
use Rattle.walks.proofs.walk_rows.Given as goal

abbrev pub invariant-loop-row : goal.invariant-loop-row
invariant-loop-row g l =
    let r = g.R.Row in
    let line = g.P.Planes.row_of l.planes in
    let n = columns (g.P.Planes.geometry l.planes) in
    (l.south ≡ l.row - 1)
    × Walked (row_passes (λ row. r.passes (line row)) (λ row. r.node l.image (line row)) n)
    (row_steps r.add (λ row. r.node l.image (line row)) n) r.none l.row l.largest
