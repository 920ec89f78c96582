-- `planes::write_in_nodes` meets its contract. The invariant: the first n nodes are written.
use mathlib.Core.Path.{◌≡◌, refl, ap, ◌∙◌}
use native.Mathlib.Omega.{arith}
use Rattle.rules.specs.Image.{node_count}
use Rattle.rules.specs.Planes.{corrections_in_nodes}
use Rattle.rules.proofs.Buffer.{written_none, written_more, written_all}
use Rattle.planes.proofs.Places.{value_inside, node_long}
use Rattle.planes.proofs.write_in_nodes.Goals as goal

pub loop-n-init : goal.loop-n-init
loop-n-init c = written_none 8 _ _ _ refl

pub loop-n-preserved : goal.loop-n-preserved
loop-n-preserved c =
    let n = c.loop-n.n in
    let o = c.requires.0 in
    let first = value_inside o.latitude n (omega arith) in
    let second = value_inside o.longitude n (omega (arith, ap node_count o.longitude_geometry)) in
    written_more 8 _ _ _ _ _ _ _ (node_long _ _ _ first second) (omega arith) c.copy_node.ensures refl c.loop-n.invariant

pub returns : goal.returns
unfolding corrections_in_nodes
returns c =
    let e : c.loop-n.n ≡ node_count c.args.l.latitude.geometry = omega arith in
    written_all 8 _ _ _ (c.loop-n.auto.nodes ∙ c.requires.1) (rw e at c.loop-n.invariant)
