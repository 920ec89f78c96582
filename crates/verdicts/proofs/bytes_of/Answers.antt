-- `verdicts::bytes_of` meets its contract: after question 3 the product is small.
use mathlib.Core.Path.{refl}
use Prim.Native.Nat.{◌*◌, ◌≤◌}
use native.Mathlib.Nat.{mul-le-mul}
use native.Mathlib.Omega.{arith}
use Rattle.rules.specs.Units.{count_most}
use Rattle.rules.specs.Image.{rows, columns}
use Rattle.rules.proofs.Opening.{rows_most, nodes_most}
use Rattle.verdicts.proofs.bytes_of.Goals as goal
use Rattle.verdicts.proofs.bytes_of.Goals.{Start}

-- of a row, and of all
row_bytes : (s : Start) → s.args.width * rows s.args.g ≤ 12 * count_most
row_bytes s = mul-le-mul {n₂ = 12} s.requires.0 (rows_most s.args.g s.requires.1)

all_bytes : (s : Start) → s.args.width * rows s.args.g * columns s.args.g ≤ 12 * count_most * count_most
all_bytes s = omega (arith, mul-le-mul {n₂ = 12} s.requires.0 (nodes_most s.args.g s.requires.1))

pub overflow_mul-result : goal.overflow_mul-result
overflow_mul-result c = omega (arith, row_bytes (goal.at.overflow_mul-result c).Start)

pub overflow_mul-result-2 : goal.overflow_mul-result-2
overflow_mul-result-2 c = omega (arith, all_bytes (goal.at.overflow_mul-result-2 c).Start)

pub returns : goal.returns
returns c = (refl, all_bytes (goal.at.returns c).Start)
