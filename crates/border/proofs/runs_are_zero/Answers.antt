-- `border::runs_are_zero` meets its contract. The invariant: the nodes so far are zero on both runs.
use mathlib.Core.Path.{◌≡◌, refl, sym, ◌∙◌}
use native.Mathlib.Omega.{arith}
use Rattle.rules.specs.Check.{every, both_zero}
use Rattle.rules.proofs.Largest.{every_more, every_missed}
use Rattle.border.proofs.runs_are_zero.Goals as goal

pub loop-node-init : goal.loop-node-init
unfolding every
loop-node-init c = refl

pub returns-then-not-are_zero : goal.returns-then-not-are_zero
unfolding both_zero
returns-then-not-are_zero c = sym (every_missed _ _ c.loop-node.node (omega arith) (sym c.are_zero.ensures ∙ c.if-not-are_zero.true))

pub loop-node-preserved : goal.loop-node-preserved
loop-node-preserved c = every_more _ _ c.loop-node.invariant (sym c.are_zero.ensures ∙ c.if-not-are_zero.false)

pub returns : goal.returns
unfolding both_zero
returns c =
    let all : c.loop-node.node ≡ c.args.count = omega arith in
    sym (rw all at c.loop-node.invariant)
