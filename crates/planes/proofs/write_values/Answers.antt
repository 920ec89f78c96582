-- `planes::write_values` meets its contract. The invariant: the first n values are written.
use mathlib.Core.Path.{◌≡◌, refl, ◌∙◌}
use native.Mathlib.Omega.{arith}
use Rattle.rules.specs.Image.{node_count}
use Rattle.rules.proofs.Buffer.{written_none, written_more, written_all}
use Rattle.rules.proofs.Lent.{taken_length}
use Rattle.planes.proofs.Places.{value_inside}
use Rattle.planes.proofs.write_values.Goals as goal

pub loop-n-init : goal.loop-n-init
loop-n-init c = written_none 4 _ _ _ refl

pub loop-n-preserved : goal.loop-n-preserved
loop-n-preserved c =
    let n = c.loop-n.n in
    written_more 4 _ _ _ _ _ _ _ (taken_length 4 _ _ (value_inside c.requires.0 n (omega arith))) (omega arith) c.copy_value.ensures refl
    c.loop-n.invariant

pub returns : goal.returns
returns c =
    let e : c.loop-n.n ≡ node_count c.args.p.geometry = omega arith in
    written_all 4 _ _ _ (c.loop-n.auto.values ∙ c.requires.1) (rw e at c.loop-n.invariant)
