-- `steps::walk_row` meets its contract. The invariant: west is the node before this column, and the largest steps are what the walk over
-- the columns so far leaves, whose nodes pass question 9.
use mathlib.Core.Path.{◌≡◌}
use Prim.Native.Nat.{◌-◌}
use Rattle.steps.specs.Walk.{step_to}
use Rattle.steps.proofs.Folds.{Walked}
use Rattle.steps.proofs.walk_row.Given as goal

abbrev pub invariant-loop-column : goal.invariant-loop-column
invariant-loop-column g l =
    let r = g.R.Row in
    (l.west ≡ r.node l.image l.row (l.column - 1))
    × r.narrow l.west
    × Walked (λ column. r.passes l.row (r.node l.image l.row column)) (step_to r.add (r.node l.image l.south) (r.node l.image l.row))
    l.initial.largest l.column l.largest
