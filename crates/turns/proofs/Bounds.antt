-- The laws by which an evaluation's sums fit: points in the bounds and corrections that passed question 9 are within the limits of their
-- angles.
use Rattle.rules.proofs.Cells.{point_within}
use Rattle.rules.proofs.Limits.{reached}
use Rattle.lookup.proofs.Found.{corrections_within}

pub ruleset within_limits = (point_within, reached, corrections_within)
