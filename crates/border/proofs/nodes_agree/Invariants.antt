-- `border::nodes_agree` meets its contract. The invariant: the nodes so far agree. Each lies on the coarse axis, since the dense one is
-- aligned with it.
use mathlib.Core.Bool.{Bool, true}
use mathlib.Core.List.{List}
use mathlib.Core.Path.{◌≡◌}
use Prim.Native.Nat.{ℕ, ◌+◌, ◌*◌}
use Rattle.rules.specs.declared.Axis.{Axis}
use Rattle.rules.specs.declared.Run.{Run}
use Rattle.rules.specs.Bilinear.{offset}
use Rattle.rules.specs.Check.{every}
use Rattle.steps.specs.Walk.{run_value}
use Rattle.returning.specs.Sides.{node_agrees}
use Rattle.border.proofs.nodes_agree.Given as goal

-- the test of node i
abbrev pub test : List ℕ → (parent : Run) (coarse : Axis) (border : Run) (dense : Axis) → ℕ → Bool
test b parent coarse border dense i =
    node_agrees coarse (run_value b parent) (offset coarse dense.start + i * dense.spacing) (run_value b border i)

abbrev pub invariant-loop-i : goal.invariant-loop-i
invariant-loop-i l = every l.i (test l.image l.parent l.coarse l.border l.dense) ≡ true
