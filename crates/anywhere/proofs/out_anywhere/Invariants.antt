-- `anywhere::out_anywhere` meets its contract. The loop's invariant: the iteration from the start equals the iteration from here.
use mathlib.Core.Path.{◌≡◌}
use Rattle.rules.specs.Limits.{PointReached}
use Rattle.image.specs.Fit.{grid_in}
use Rattle.anywhere.proofs.Evaluations.{from}
use Rattle.anywhere.proofs.out_anywhere.Given as goal

abbrev pub invariant-loop-n : goal.invariant-loop-n
invariant-loop-n l =
    let g = grid_in l.image in
    record { reached : PointReached l.r; same : from g l.fix.point 0 l.fix.point ≡ from g l.fix.point l.n l.r }
