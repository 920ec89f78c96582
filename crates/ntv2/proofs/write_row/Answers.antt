-- `ntv2::write_row` meets its contract.
use mathlib.Core.Path.{◌≡◌, refl}
use native.Mathlib.Omega.{arith}
use lib.ListN.{length-take, length-drop}
use Rattle.rules.specs.Ntv2.{correction_row}
use Rattle.rules.proofs.Buffer.{written_none, written_more, written_all}
use Rattle.ntv2.specs.Reading.{RowFits}
use Rattle.ntv2.specs.Burned.{node_long}
use Rattle.ntv2.proofs.write_row.Goals as goal

pub loop-column-init : goal.loop-column-init
loop-column-init c = written_none 8 _ _ _ refl

pub write_node-requires : goal.write_node-requires
unfolding RowFits
write_node-requires c =
    let l = c.loop-column in
    let i = c.loop-column-test.true in
    (simp (length-take, length-drop) (omega (arith, l.auto.part, i, c.requires.2)), omega (arith, i, c.requires.3), c.requires.4 l.column i)

pub loop-column-preserved : goal.loop-column-preserved
loop-column-preserved c =
    let l = c.loop-column in
    written_more 8 _ _ _ _ _ _ _ (node_long _ _ _ _) (omega (arith, l.auto.part, c.loop-column-test.true, c.requires.2)) c.write_node.ensures refl l.invariant

pub returns : goal.returns
unfolding correction_row
returns c =
    let l = c.loop-column in
    let e : l.column ≡ c.args.columns = omega (arith, l.auto.column-end, c.loop-column-test.false) in
    written_all 8 _ _ _ (omega (arith, l.auto.part, c.requires.2)) (rw e at l.invariant)
