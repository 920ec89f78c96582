-- `ntv2::write_grid` meets its contract.
use mathlib.Core.List.{append-nil}
use mathlib.Core.Path.{◌≡◌, refl, sym, ◌∙◌}
use Prim.Native.Nat.{ℕ, ◌+◌, ◌*◌, ◌≤◌, ◌<◌}
use native.Mathlib.Nat.{mul-le-mul_left}
use native.Mathlib.Omega.{arith}
use lib.ListN.{length-take, length-drop}
use Rattle.rules.specs.Image.{rows, columns}
use Rattle.rules.specs.Ntv2.{correction_nodes}
use Rattle.rules.proofs.Buffer.{written_none, written_more, written_all}
use Rattle.ntv2.specs.Burned.{row_long}
use Rattle.ntv2.proofs.Shifts.{row_fits}
use Rattle.ntv2.proofs.write_grid.Goals as goal
use Rattle.ntv2.proofs.write_grid.Goals.{In-loop-row}

-- where a row begins and ends, and how far all of them reach
row_within : (rows columns row : ℕ) → row < rows → 8 * columns * row + 8 * columns ≤ 8 * columns * rows
row_within rows columns row h = omega (arith, mul-le-mul_left {m = row + 1} {n = rows} columns (omega arith))

-- this row
within : (c : In-loop-row) → let g = c.args.g in let row = c.loop-row.row in
    8 * columns g * row + 8 * columns g ≤ 8 * columns g * rows g
within c = row_within _ _ _ c.loop-row-test.true

-- all of them
long : (nodes rows columns : ℕ) → nodes ≡ 8 * (rows * columns) → nodes ≡ 8 * columns * rows
long nodes rows columns e = omega arith

pub loop-row-init : goal.loop-row-init
loop-row-init c = written_none _ _ _ _ refl

pub slice_bounds-write_row-end : goal.slice_bounds-write_row-end
slice_bounds-write_row-end c = omega (arith, within (goal.at.slice_bounds-write_row-end c).In-loop-row, long _ _ _ c.requires.2)

pub write_row-requires : goal.write_row-requires
write_row-requires c =
    let w = within (goal.at.write_row-requires c).In-loop-row in
    let i = c.loop-row-test.true in
    let e = long _ _ _ c.requires.2 in (
      c.requires.1,
      omega (arith, i, c.requires.0),
      simp (length-take, length-drop) (omega (arith, w, e, c.loop-row.auto.nodes)),
      omega (arith, w, c.requires.3),
      row_fits _ _ _ _ c.requires.4 i,
    )

pub loop-row-preserved : goal.loop-row-preserved
loop-row-preserved c =
    let w = within (goal.at.loop-row-preserved c).In-loop-row in
    written_more _ _ _ _ _ _ _ _ (row_long _ _ _) (omega (arith, w, long _ _ _ c.requires.2, c.loop-row.auto.nodes))
    (c.write_row.ensures ∙ sym (append-nil _)) refl c.loop-row.invariant

pub returns : goal.returns
unfolding correction_nodes
returns c =
    let l = c.loop-row in
    let e : l.row ≡ rows c.args.g = omega (arith, l.auto.row-end, c.loop-row-test.false) in
    written_all _ _ _ _ (omega (arith, l.auto.nodes, long _ _ _ c.requires.2)) (rw e at l.invariant)
