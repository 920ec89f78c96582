-- `planes::write_in_nodes` meets its contract. The invariant: the first n nodes are written.
use Rattle.rules.specs.Planes.{node_bytes}
use Rattle.rules.proofs.Buffer.{Written}
use Rattle.planes.proofs.write_in_nodes.Given as goal

abbrev pub invariant-loop-n : goal.invariant-loop-n
invariant-loop-n l = Written 8 (node_bytes l.image l.l.latitude l.l.longitude) l.nodes l.n
