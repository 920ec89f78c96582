-- `nodes::value_in` meets its contract: from what `i32_at` ensures.
use mir.Syntax.{w64}
use Rattle.integers.specs.Machine.{told}
use Rattle.nodes.specs.Row.{value_in}
use Rattle.nodes.proofs.value_in.Goals as goal

pub returns : goal.returns
unfolding value_in
returns c = told w64 c.i32_at.type_inv c.i32_at.ensures
