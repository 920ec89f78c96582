-- `border::line_of` meets its contract: an angle on a line is on the axis, and its offset is what `offset_on` ensures.
use mir.Facts.{to_z-of_z}
use Rattle.rules.proofs.Nesting.{at_line}
use Rattle.border.proofs.line_of.Goals as goal

pub offset_on-requires : goal.offset_on-requires
offset_on-requires c = (c.requires.0, rw (to_z-of_z c.ranges.z) (at_line c.args.a c.args.z c.requires.1).on)
