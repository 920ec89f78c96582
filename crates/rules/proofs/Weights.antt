-- The weights of the corners add up to the cell's area, so the bilinear value is within the limit of the corner values.
use mathlib.Core.Path.{◌≡◌, ◌∙◌}
use Prim.Native.Nat.{ℕ, ◌+◌, ◌-◌, ◌*◌, ◌≤◌, ◌<◌}
use native.Mathlib.Nat.{le_refl, sub-add_cancel}
use native.Mathlib.Omega.{arith}
use lib.IntN.{pos, nat_abs, ◌+ℤ◌, ◌*ℤ◌}
use Rattle.integers.specs.Distance.{abs_add, abs-mul-≤}
use Rattle.integers.proofs.Rounding.{round_bound}
use Rattle.rules.specs.declared.Square.{Square}
use Rattle.rules.specs.Limits.{CornersWithin}
use Rattle.rules.specs.Bilinear.{weighted, bilinear}

pub weights : {u v P Q : ℕ} → u ≤ P → v ≤ Q → (P - u) * (Q - v) + (P - u) * v + u * (Q - v) + u * v ≡ P * Q
weights {u} {v} {P} {Q} h k = corners (P - u) (Q - v) ∙ product (sub-add_cancel h) (sub-add_cancel k)
  where
    corners : (a e : ℕ) → a * e + a * v + u * e + u * v ≡ (a + u) * (e + v)
    corners a e = omega arith

    product : {a e : ℕ} → a ≡ P → e ≡ Q → a * e ≡ P * Q
    product p q = cc

-- Corners at most M from zero.
module _ (c : Square) {M : ℕ} (h : CornersWithin M c) where
  weighed_within : (k l m n : ℕ)
      → nat_abs (c.southwest *ℤ pos k +ℤ c.southeast *ℤ pos l +ℤ c.northwest *ℤ pos m +ℤ c.northeast *ℤ pos n) ≤ (k + l + m + n) * M
  weighed_within k l m n =
      let x = c.southwest *ℤ pos k in
      let y = c.southeast *ℤ pos l in
      let z = c.northwest *ℤ pos m in
      omega (
        arith,
        abs_add (x +ℤ y +ℤ z) (c.northeast *ℤ pos n),
        abs_add (x +ℤ y) z,
        abs_add x y,
        abs-mul-≤ c.southwest (pos k) h.southwest (le_refl k),
        abs-mul-≤ c.southeast (pos l) h.southeast (le_refl l),
        abs-mul-≤ c.northwest (pos m) h.northwest (le_refl m),
        abs-mul-≤ c.northeast (pos n) h.northeast (le_refl n),
      )

  -- Their value is at most M from zero.
  pub value_within : {u v P Q : ℕ} → u ≤ P → v ≤ Q → 0 < P * Q → nat_abs (bilinear c u v P Q) ≤ M
  unfolding bilinear weighted
  value_within h k pq = round_bound _ _ M pq (rw (← weights h k) (weighed_within _ _ _ _))
