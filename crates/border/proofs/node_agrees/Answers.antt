-- `border::node_agrees` meets its contract: the two values are those of the cell's nodes, which lie on the line.
use mathlib.Core.Path.{◌≡◌, ap, ◌∙◌}
use Prim.Native.Nat.{ℕ, ◌+◌, ◌≤◌, ◌<◌}
use native.Mathlib.Omega.{arith}
use mir.Syntax.{w64}
use mir.Val.{to_z, of_z}
use mir.Facts.{to_z-of_z}
use Rattle.integers.specs.Machine.{told}
use Rattle.rules.specs.Bilinear.{cell_of}
use Rattle.rules.proofs.Cells.{cell_nodes, part_most}
use Rattle.axis.specs.declared.AxisPlace.{AxisPlace}
use Rattle.steps.specs.Walk.{Narrow, run_value}
use Rattle.steps.proofs.Readings.{value_narrow}
use Rattle.returning.specs.Sides.{node_close, node_agrees}
use Rattle.border.proofs.node_agrees.Goals as goal
use Rattle.border.proofs.node_agrees.Goals.{After-locate-place, After-run_value-e, After-run_value-next}

-- the cell, and that the next node is on the axis
cell : (c : After-locate-place) → let s = c.args in c.locate-place.result.cell ≡ cell_of s.coarse s.x
cell c = ap (λ (p : AxisPlace). p.cell) c.locate-place.ensures

on_line_lem : (c : After-locate-place) → c.locate-place.result.cell + 1 < c.args.coarse.count
on_line_lem c = omega (arith, cell c, cell_nodes c.args.coarse c.args.x c.requires.0.sized)

-- the values of both nodes
value : (c : After-run_value-e) → let s = c.args in
    to_z w64 (of_z w64 c.run_value-e.result) ≡ run_value s.image.now s.parent (cell_of s.coarse s.x)
value c = told w64 c.run_value-e.type_inv c.run_value-e.ensures.value ∙ ap (run_value _ _) (cell (goal.at.After-run_value-e c).After-locate-place)

next : (c : After-run_value-next) → let s = c.args in
    to_z w64 (of_z w64 c.run_value-next.result) ≡ run_value s.image.now s.parent (cell_of s.coarse s.x + 1)
next c =
    told w64 c.run_value-next.type_inv c.run_value-next.ensures.value
    ∙ ap (run_value _ _) (ap (λ (n : ℕ). n + 1) (cell (goal.at.After-run_value-next c).After-locate-place))

-- all values have 32 bits, whichever is which: of that it is said in the results
pub is_close-requires : goal.is_close-requires
is_close-requires c =
    let narrow = value_narrow _ c.type_inv.image in
    let f : Narrow (to_z w64 (of_z w64 c.args.f)) = rw (to_z-of_z c.ranges.f) c.requires.2 in
    let first : Narrow (to_z w64 (of_z w64 c.run_value-e.result)) = rw (value (goal.at.is_close-requires c).After-run_value-e) (narrow _ _)
    in
    let second : Narrow (to_z w64 (of_z w64 c.run_value-next.result)) = rw (next c) (narrow _ _) in
    let part = ap (λ (p : AxisPlace). p.part) c.locate-place.ensures in
    let most : c.locate-place.result.part ≤ c.args.coarse.spacing = rw part (part_most _ _ c.requires.0.sized c.requires.3) in
    search (f, first, second, most, c.requires.0.sized.spacing_most_lem)

pub returns : goal.returns
unfolding node_agrees
returns c =
    let place = c.locate-place.ensures in
    c.is_close.ensures
    ∙
    (λ i. node_close (to_z-of_z c.ranges.f i) (value (goal.at.returns c).After-run_value-e i)
    (next (goal.at.returns c).After-run_value-next i) (place i).part c.args.coarse.spacing)

pub run_value-e-requires : goal.run_value-e-requires
run_value-e-requires c = c.requires.1 _ (omega (arith, on_line_lem c))

pub overflow_add-place : goal.overflow_add-place
overflow_add-place c = omega (arith, on_line_lem (goal.at.overflow_add-place c).After-locate-place)

pub run_value-next-requires : goal.run_value-next-requires
run_value-next-requires c = c.requires.1 _ (on_line_lem (goal.at.run_value-next-requires c).After-locate-place)
