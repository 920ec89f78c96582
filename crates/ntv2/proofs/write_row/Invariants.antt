-- The invariant of `ntv2::write_row`: the nodes of the first columns are written.
use Rattle.rules.proofs.Buffer.{Written}
use Rattle.ntv2.specs.Burned.{nodes}
use Rattle.ntv2.proofs.write_row.Given as goal

abbrev pub invariant-loop-column : goal.invariant-loop-column
invariant-loop-column l = Written 8 (nodes l.grid l.columns l.row) l.part l.column
