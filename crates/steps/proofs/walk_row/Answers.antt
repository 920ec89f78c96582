-- `steps::walk_row` meets its contract. The invariant: west is the node before this column, and the largest steps are what the walk over
-- the columns so far leaves, whose nodes pass question 9.
use mathlib.Core.Path.{◌≡◌, sym, ap, ◌∙◌}
use Prim.Native.Nat.{◌+◌, ◌-◌}
use native.Mathlib.Omega.{arith}
use Rattle.steps.proofs.Folds.{walked_none, walked_more, walked_all, walked_missed}
use Rattle.steps.proofs.walk_row.Goals as goal
use Rattle.steps.proofs.walk_row.Goals.{After-passes}

-- question 9, of the node of this column
asked : (g : _) (c : After-passes g) → let r = g.R.Row in
    c.passes.result ≡ r.passes c.args.row (r.node c.args.image.now c.args.row c.loop-column.column)
asked g c = c.passes.ensures ∙ ap (g.R.Row.passes c.args.row) c.node-here.ensures.value

pub loop-column-init : goal.loop-column-init
loop-column-init g c = (c.node-west.ensures.value, c.node-west.ensures.narrow, walked_none)

pub returns-then-not-passes : goal.returns-then-not-passes
returns-then-not-passes g c =
    walked_missed c.loop-column.invariant.2 (omega arith)
    (sym (asked g (goal.at.returns-then-not-passes g c).After-passes) ∙ c.if-not-passes.true)

pub loop-column-preserved : goal.loop-column-preserved
loop-column-preserved g c =
    let l = c.loop-column in
    let here = asked g (goal.at.loop-column-preserved g c).After-passes in
    let e : l.column + 1 - 1 ≡ l.column = omega arith in (
      rw e c.node-here.ensures.value,
      c.node-here.ensures.narrow,
      walked_more l.invariant.2 (sym here ∙ c.if-not-passes.false)
          (c.add-largest.ensures ∙ rw (c.node-here.ensures.value, l.invariant.0, c.node.ensures.value)),
    )

pub returns : goal.returns
returns g c = walked_all c.loop-column.invariant.2 (omega arith)
