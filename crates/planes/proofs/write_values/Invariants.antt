-- `planes::write_values` meets its contract. The invariant: the first n values are written.
use Rattle.rules.specs.Planes.{value_bytes}
use Rattle.rules.proofs.Buffer.{Written}
use Rattle.planes.proofs.write_values.Given as goal

abbrev pub invariant-loop-n : goal.invariant-loop-n
invariant-loop-n l = Written 4 (value_bytes l.image l.p) l.values l.n
