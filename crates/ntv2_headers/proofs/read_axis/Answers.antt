-- `ntv2_headers::read_axis` meets its contract: three numbers are read, as `axis_read_lem` has it.
use Rattle.std.proofs.Common.{arith}
use Rattle.std.proofs.lemmas.Grind.{common_steps}
use Rattle.rules.proofs.Files.{kept}
use Rattle.ntv2_headers.proofs.Axes.{axis_read_lem}
use Rattle.ntv2_headers.proofs.read_axis.Goals as goal

pub returns : goal.returns
returns c = grind (arith, common_steps, kept, axis_read_lem)
