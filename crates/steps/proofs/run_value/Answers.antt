-- `steps::run_value` meets its contract: from what `i32_at` ensures, of bytes.
use mir.Syntax.{w64}
use Rattle.integers.specs.Machine.{told}
use Rattle.steps.specs.Walk.{run_value}
use Rattle.steps.proofs.Readings.{value_narrow}
use Rattle.steps.proofs.run_value.Goals as goal

pub returns : goal.returns
unfolding run_value
returns c =
    let e = told w64 c.i32_at.type_inv c.i32_at.ensures in
    record { value = e; narrow = rw e (value_narrow c.args.image.now c.type_inv.image c.args.run c.args.column) }
