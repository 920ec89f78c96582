-- `out::out_from` meets its contract. The loop's invariant: the iteration from the start equals the iteration from here, and the cell
-- held is the one around each point that lies in it and takes its corrections from its grid.
use mathlib.Core.Bool.{true}
use mathlib.Core.Path.{◌≡◌}
use Rattle.rules.specs.Lookup.{inside}
use Rattle.image.specs.Fit.{grid_in}
use Rattle.turns.proofs.Turns.{from}
use Rattle.out.proofs.Held.{Holding}
use Rattle.out.proofs.out_from.Given as goal

abbrev pub invariant-loop-n : goal.invariant-loop-n
invariant-loop-n l =
    let way = from l.image.bytes.now l.image.layout l.fix.point in
    record {
      in_bounds : inside (grid_in l.image).corrections l.r ≡ true;
      same : way 0 l.fix.point ≡ way l.n l.r;
      holding : Holding l.image l.held l.dense;
    }
