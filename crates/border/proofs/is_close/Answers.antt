-- `border::is_close` meets its contract: a value of 32 bits times a spacing is below 10^18, so nothing wraps.
use mathlib.Core.Path.{◌≡◌, ap, ◌∙◌}
use Prim.Native.Nat.{ℕ, ◌-◌, ◌≤◌}
use native.Mathlib.Omega.{arith}
use lib.Dec.{leb}
use lib.IntN.{ℤ, pos, nat_abs, ◌+ℤ◌, ◌-ℤ◌, ◌*ℤ◌}
use mir.Syntax.{w64}
use mir.Val.{SFits, to_z, of_z}
use mir.Facts.{to_z-of_z}
use mir.ValLaws.{to_z_pos}
use Rattle.integers.specs.Distance.{size, abs-mul-≤}
use Rattle.integers.specs.Machine.{zarith, sum_fits, sum_back}
use Rattle.rules.specs.Units.{spacing_most}
use Rattle.steps.specs.Walk.{Narrow}
use Rattle.returning.specs.Sides.{node_close}
use Rattle.border.proofs.is_close.Goals as goal

-- such a product as the machine computes it: what it is, that it is small and fits, and what is read back
abbrev product : ℤ → ℕ → ℤ
product z n = to_z w64 (of_z w64 z) *ℤ to_z w64 n

module _ (z : ℤ) (n : ℕ) (h : Narrow z) (k : n ≤ spacing_most) where
  product_is : product z n ≡ z *ℤ pos n
  product_is = let f : SFits w64 z = omega (zarith, size z) in rw (to_z-of_z f, to_z_pos w64 n (omega arith))

  product_small : nat_abs (product z n) ≤ 1000000000000000000
  product_small = rw product_is (omega (arith, abs-mul-≤ z (pos n) h k))

  product_fits : SFits w64 (product z n)
  product_fits = omega (zarith, size (product z n), product_small)

  product_back : to_z w64 (of_z w64 (product z n)) ≡ z *ℤ pos n
  product_back = to_z-of_z product_fits ∙ product_is

pub overflow_add-exact : goal.overflow_add-exact
overflow_add-exact c =
    let s = c.args in
    sum_fits (product s.e (s.spacing - s.part)) (product s.next s.part)
    (product_small s.e (s.spacing - s.part) c.requires.1 (omega arith)) (product_small s.next s.part c.requires.2 (omega arith))

pub returns : goal.returns
unfolding node_close
returns c =
    let p = c.requires in
    let s = c.args in
    let rest = s.spacing - s.part in
    let value = product_back s.f s.spacing p.0 (omega arith) in
    let exact =
    sum_back (product s.e rest) (product s.next s.part)
    (product_small s.e rest p.1 (omega arith)) (product_small s.next s.part p.2 (omega arith))
    ∙ (λ i. product_is s.e rest p.1 (omega arith) i +ℤ product_is s.next s.part p.2 (omega arith) i) in
    ap (λ (n : ℕ). leb n s.spacing) (c.abs_diff.ensures ∙ (λ i. nat_abs (value i -ℤ exact i)))
