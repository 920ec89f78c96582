-- `ntv2_headers::read_header` meets its contract: the header's last two tests, after its labels and a geometry that was read.
use Rattle.std.proofs.Common.{arith}
use Rattle.std.proofs.lemmas.Grind.{common_steps}
use Rattle.ntv2_headers.proofs.Header.{header_read}
use Rattle.ntv2_headers.proofs.read_header.Goals as goal

pub returns-else-questions_pass : goal.returns-else-questions_pass
returns-else-questions_pass c = grind (arith, common_steps, header_read c.args.grid.now c.in_ok-g.g)
