-- `ntv2::both_fit` meets its contract: one grid, then the other.
use Rattle.std.proofs.Common.{arith}
use Rattle.std.proofs.lemmas.Grind.{common_steps}
use Rattle.rules.specs.Ntv2.{question19}
use Rattle.rules.proofs.Lent.{part_from_lem}
use Rattle.ntv2.proofs.both_fit.Goals as goal

pub returns-then-all_shifts_fit : goal.returns-then-all_shifts_fit
unfolding question19
returns-then-all_shifts_fit c = grind (arith, common_steps, part_from_lem c.args.file.now)

pub returns-else-all_shifts_fit : goal.returns-else-all_shifts_fit
unfolding question19
returns-else-all_shifts_fit c = grind (arith, common_steps, part_from_lem c.args.file.now)
