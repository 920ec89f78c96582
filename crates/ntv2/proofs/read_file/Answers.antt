-- `ntv2::read_file` meets its contract: the overview, the first grid and what follows it.
use Rattle.std.proofs.Common.{arith}
use Rattle.std.proofs.lemmas.Grind.{common_steps}
use Rattle.rules.specs.Ntv2.{question18}
use Rattle.rules.proofs.Answers.{asked}
use Rattle.rules.proofs.Lent.{part_from_lem}
use Rattle.ntv2.proofs.Passing.{first_refused}
use Rattle.ntv2.proofs.read_file.Goals as goal

pub returns-in_err-coarse : goal.returns-in_err-coarse
unfolding question18
returns-in_err-coarse c = grind (arith, common_steps, first_refused, part_from_lem c.args.file.now)

pub returns-in_err-dense : goal.returns-in_err-dense
unfolding question18
returns-in_err-dense c = grind (arith, common_steps, asked, first_refused, part_from_lem c.args.file.now)

pub returns : goal.returns
unfolding question18
returns c = grind (arith, common_steps, asked, part_from_lem c.args.file.now)
