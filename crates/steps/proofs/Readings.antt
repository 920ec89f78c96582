-- The values that are read from bytes have 32 bits.
use mathlib.Core.Bool.{Bool, true, false, cond}
use mathlib.Core.List.{List}
use mathlib.Core.Path.{◌≡◌, refl, ap}
use Prim.Native.Nat.{ℕ, ◌+◌, ◌*◌, ◌≤◌, ◌<◌}
use native.Mathlib.Omega.{arith}
use lib.Dec.{ltb}
use lib.IntN.{ℤ, pos, nat_abs, ◌-ℤ◌}
use lib.ListN.{get_or}
use borrow.Author.Tests.{ltb-true, ltb-false}
use mir.Syntax.{w8, w64}
use mir.Val.{Fits, to_z, of_z}
use Rattle.integers.specs.Difference.{lit, ◌⊖◌}
use Rattle.integers.specs.Distance.{abs_is}
use Rattle.integers.specs.Machine.{difference_back}
use Rattle.rules.specs.Image.{twos_complement, u32_at, i32_at}
use Rattle.rules.specs.declared.Run.{Run}
use Rattle.steps.specs.Walk.{run_value, Narrow}

twos_narrow : (n : ℕ) → n < 4294967296 → Narrow (twos_complement 2147483648 n)
twos_narrow n h = by (ltb n 2147483648) refl
  where
    by : (b : Bool) → ltb n 2147483648 ≡ b → nat_abs (cond b (pos n) (pos n -ℤ pos 4294967296)) ≤ 2147483648
    by true e = omega (arith, ltb-true n 2147483648 e)
    by false e = omega (arith, ltb-false n 2147483648 e, abs_is (lit n ⊖ lit 4294967296))

module _ (b : List ℕ) (bytes : (i : ℕ) → Fits w8 (get_or b i 0)) where
  pub value_narrow : (run : Run) (column : ℕ) → Narrow (run_value b run column)
  unfolding run_value i32_at
  value_narrow run column =
      let at = run.first + run.stride * column in
      twos_narrow (u32_at b at) (omega (arith, bytes at, bytes (at + 1), bytes (at + 2), bytes (at + 3)))

-- The difference of two such, as the machine reads it.
pub gap_size : (x y : ℤ) → Narrow x → Narrow y
    → nat_abs (to_z w64 (of_z w64 (to_z w64 (of_z w64 x) -ℤ to_z w64 (of_z w64 y)))) ≡ nat_abs (x -ℤ y)
gap_size x y h k = ap nat_abs (difference_back x y (omega arith) (omega arith))
