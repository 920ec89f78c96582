-- `grids::height_between` meets its contract: it is the value between its corners.
use mir.Syntax.{w64}
use Rattle.integers.specs.Machine.{told}
use Rattle.lookup.specs.Held.{value_in}
use Rattle.grids.proofs.height_between.Goals as goal

pub returns : goal.returns
unfolding value_in
returns c = told w64 c.value_between.type_inv c.value_between.ensures
