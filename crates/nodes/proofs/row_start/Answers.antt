-- `nodes::row_start` meets its contract: a row begins in the image, so nothing wraps.
use Prim.Native.Nat.{◌+◌, ◌*◌, ◌≤◌}
use native.Mathlib.Nat.{mul-le-mul}
use native.Mathlib.Omega.{arith}
use Rattle.rules.specs.Units.{count_most}
use Rattle.rules.specs.Image.{columns}
use Rattle.nodes.specs.Row.{row_start}
use Rattle.nodes.proofs.Parts.{row_inside}
use Rattle.nodes.proofs.row_start.Goals as goal
use Rattle.nodes.proofs.row_start.Goals.{Start}

-- at most 4,096 rows of 4,096 values, and the row's first value is in the image
bounds : (c : Start) → let s = c.args in
    (s.row * columns s.p.geometry ≤ count_most * count_most) × (row_start s.p s.row + 4 ≤ s.size)
bounds c =
    let o = c.requires.0.geometry in
    let below : c.args.row ≤ count_most = omega (arith, o.latitude.sized.count_most, c.requires.1) in (
      mul-le-mul {n₂ = count_most} {m₂ = count_most} below o.longitude.sized.count_most,
      omega (arith, row_inside c.requires.0 c.args.row 0 c.requires.1 (omega (arith, o.longitude.sized.count_least))),
    )

pub overflow_mul-result-2 : goal.overflow_mul-result-2
overflow_mul-result-2 c = omega (arith, bounds (goal.at.overflow_mul-result-2 c).Start)

pub overflow_add-result : goal.overflow_add-result
overflow_add-result c = omega (arith, bounds (goal.at.overflow_add-result c).Start)
