-- `planes::copy_value` meets its contract: the value's four bytes are in the image.
use Prim.Native.Nat.{◌+◌, ◌*◌, ◌≤◌}
use native.Mathlib.Omega.{arith}
use lib.ListN.{length}
use Rattle.planes.proofs.Places.{value_inside}
use Rattle.planes.proofs.copy_value.Goals as goal
use Rattle.planes.proofs.copy_value.Goals.{Start}

inside : (s : Start) → let a = s.args in a.p.first + a.p.stride * a.n + 4 ≤ length a.image.now
inside s = value_inside s.requires.0 s.args.n s.requires.1

pub overflow_mul-at : goal.overflow_mul-at
overflow_mul-at c = omega (arith, inside (goal.at.overflow_mul-at c).Start)

pub overflow_add-at : goal.overflow_add-at
overflow_add-at c = omega (arith, inside (goal.at.overflow_add-at c).Start)

pub overflow_add-at-2 : goal.overflow_add-at-2
overflow_add-at-2 c = omega (arith, inside (goal.at.overflow_add-at-2 c).Start)

pub slice_bounds-copy_from_slice-end-3 : goal.slice_bounds-copy_from_slice-end-3
slice_bounds-copy_from_slice-end-3 c = omega (arith, inside (goal.at.slice_bounds-copy_from_slice-end-3 c).Start)
