-- `border::runs_are_zero` meets its contract. The invariant: the nodes so far are zero on both runs.
use mathlib.Core.Bool.{true}
use mathlib.Core.Path.{◌≡◌}
use Rattle.rules.specs.Check.{every}
use Rattle.border.specs.Lines.{are_zero}
use Rattle.border.proofs.runs_are_zero.Given as goal

abbrev pub invariant-loop-node : goal.invariant-loop-node
invariant-loop-node l = every l.node (are_zero l.image l.first l.last) ≡ true
