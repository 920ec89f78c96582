-- `border::nodes_agree` meets its contract. The invariant: the nodes so far agree. Each lies on the coarse axis, since the dense one is
-- aligned with it.
use mathlib.Core.Path.{◌≡◌, refl, sym, ◌∙◌}
use Prim.Native.Nat.{◌+◌, ◌-◌, ◌*◌, ◌≤◌}
use native.Mathlib.Omega.{arith}
use mir.Syntax.{w64}
use mir.Val.{to_z, of_z}
use Rattle.std.proofs.Common.{rules}
use Rattle.integers.specs.Machine.{reads_back, told}
use Rattle.rules.specs.Bilinear.{offset}
use Rattle.rules.specs.Check.{every}
use Rattle.rules.proofs.Largest.{every_more, every_missed}
use Rattle.rules.proofs.Nesting.{aligned, at_line}
use Rattle.steps.specs.Walk.{run_value}
use Rattle.steps.proofs.Readings.{value_narrow}
use Rattle.returning.specs.Sides.{node_agrees, side_agrees}
use Rattle.returning.proofs.Sides.{node_most}
use Rattle.border.proofs.nodes_agree.Invariants.{test}
use Rattle.border.proofs.nodes_agree.Goals as goal
use Rattle.border.proofs.nodes_agree.Goals.{After-node_agrees, After-offset_on-start, In-loop-i}

pub offset_on-start-requires : goal.offset_on-start-requires
offset_on-start-requires c =
    let on = (aligned c.args.coarse c.args.dense c.requires.2).start_on in
    (c.requires.0, rw (reads_back w64 _ c.type_inv.dense.0.1) (at_line c.args.coarse c.args.dense.start on).on)

pub loop-i-init : goal.loop-i-init
unfolding every
loop-i-init c = refl

-- where the first node lies, and this one
first : (c : After-offset_on-start) → let s = c.args in
    c.offset_on-start.result ≡ offset s.coarse s.dense.start
first c =
    let s = c.args in
    let e : to_z w64 (of_z w64 s.dense.start) ≡ s.dense.start = search rules in
    rw e at c.offset_on-start.ensures

place : (c : In-loop-i) → let s = c.args in
    c.offset_on-start.result + c.loop-i.i * s.dense.spacing ≤ (s.coarse.count - 1) * s.coarse.spacing
place c =
    omega
    (arith, first (goal.at.In-loop-i c).After-offset_on-start, node_most c.args.coarse c.args.dense c.requires.2 c.loop-i.i (omega arith))

-- what the test of this node answered
answered : (c : After-node_agrees) → let s = c.args in
    c.node_agrees.result ≡ test s.image.now s.parent s.coarse s.border s.dense c.loop-i.i
answered c =
    let s = c.args in
    let value = told w64 c.run_value.type_inv c.run_value.ensures.value in
    c.node_agrees.ensures
    ∙ (λ i. node_agrees s.coarse (run_value s.image.now s.parent)
    (first (goal.at.After-node_agrees c).After-offset_on-start i + c.loop-i.i * s.dense.spacing) (value i))

pub node_agrees-requires : goal.node_agrees-requires
node_agrees-requires c =
    let p = c.requires in
    let narrow = value_narrow _ c.type_inv.image in
    (p.0, p.3, rw (told w64 c.run_value.type_inv c.run_value.ensures.value) (narrow _ _), place (goal.at.node_agrees-requires c).In-loop-i)

pub returns-then-not-node_agrees : goal.returns-then-not-node_agrees
unfolding side_agrees
returns-then-not-node_agrees c =
    sym (every_missed _ _ c.loop-i.i (omega arith) (sym (answered (goal.at.returns-then-not-node_agrees c).After-node_agrees)
    ∙ c.if-not-node_agrees.true))

pub loop-i-preserved : goal.loop-i-preserved
loop-i-preserved c =
    every_more _ _ c.loop-i.invariant (sym (answered (goal.at.loop-i-preserved c).After-node_agrees) ∙ c.if-not-node_agrees.false)

pub returns : goal.returns
unfolding side_agrees
returns c =
    let s = c.args in
    let all : c.loop-i.i ≡ s.dense.count = omega arith in
    sym (rw all at c.loop-i.invariant)
