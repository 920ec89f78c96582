-- `lookup::offsets_of` meets its contract: each offset is what `offset_on` ensures of an angle on its axis.
use native.Mathlib.Omega.{arith}
use mir.Syntax.{w64}
use Rattle.integers.specs.Machine.{reads_back}
use Rattle.rules.proofs.Cells.{on_latitude, on_longitude}
use Rattle.lookup.proofs.offsets_of.Goals as goal

pub offset_on-requires : goal.offset_on-requires
offset_on-requires c =
    let e = reads_back w64 c.args.p.latitude c.type_inv.p.0.1 in
    (omega arith, rw e (on_latitude c.args.g c.args.p c.requires.point))

pub offset_on-requires-2 : goal.offset_on-requires-2
offset_on-requires-2 c =
    let e = reads_back w64 c.args.p.longitude c.type_inv.p.1.0.1 in
    (omega arith, rw e (on_longitude c.args.g c.args.p c.requires.point))
