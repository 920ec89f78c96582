-- `vdatum::write_heights` meets its contract.
use mathlib.Core.Path.{◌≡◌, refl, ap}
use Prim.Native.Nat.{◌/◌}
use native.Mathlib.Omega.{arith}
use lib.ListN.{length}
use mir.Syntax.{w64}
use mir.Val.{to_z, of_z}
use Rattle.integers.specs.Machine.{told}
use Rattle.rules.specs.Vdatum.{height_of, height_fits, question17, height_nodes}
use Rattle.rules.proofs.Largest.{every_at}
use Rattle.rules.specs.Files.{bytes_of}
use Rattle.rules.proofs.Buffer.{written_none, written_more, written_all}
use Rattle.vdatum.proofs.write_heights.Goals as goal

pub loop-n-init : goal.loop-n-init
loop-n-init c = written_none 4 _ _ _ refl

pub fit_height-requires : goal.fit_height-requires
unfolding question17
fit_height-requires c = (omega (arith, c.requires), every_at _ (height_fits _) c.requires.2 _ c.loop-n-test.true)

pub loop-n-preserved : goal.loop-n-preserved
loop-n-preserved c =
    let h = c.fit_height in
    let is : to_z w64 (of_z w64 h.result) ≡ height_of c.args.file.now c.loop-n.n = told w64 h.type_inv h.ensures.0 in
    written_more 4 _ _ _ _ _ _ _ refl (omega (arith, c.loop-n.auto.nodes, c.loop-n-test.true, c.requires.0)) c.write_i32.ensures (ap bytes_of is) c.loop-n.invariant

pub returns : goal.returns
unfolding height_nodes
returns c =
    let l = c.loop-n in
    let e : l.n ≡ length c.args.nodes.now / 4 = omega (arith, l.auto.n-end, c.loop-n-test.false) in
    written_all 4 _ _ _ (omega (arith, l.auto.nodes, c.requires.0)) (rw e at l.invariant)
