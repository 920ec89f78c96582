-- The invariant of `ntv2::write_grid`: the first rows are written.
use Prim.Native.Nat.{◌*◌}
use Rattle.rules.specs.Ntv2.{correction_row}
use Rattle.rules.proofs.Buffer.{Written}
use Rattle.ntv2.proofs.write_grid.Given as goal

abbrev pub invariant-loop-row : goal.invariant-loop-row
invariant-loop-row l = Written (8 * l.columns) (correction_row l.grid l.columns) l.nodes l.row
