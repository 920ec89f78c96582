-- The sum of the corners, rounded by its six cases: from its quotient rounded down (not-below-zero, whole-below-zero, part-below-zero), and
-- as the bilinear value (value-is).
use mathlib.Core.Bool.{Bool, true, false}
use mathlib.Core.Path.{◌≡◌, refl, ap, ◌∙◌}
use Prim.Native.Nat.{ℕ, suc, ◌+◌, ◌-◌, ◌*◌, ◌≤◌, ◌<◌}
use native.Mathlib.Nat.{div-add-mod'}
use native.Mathlib.Omega.{arith}
use lib.IntN.{ℤ, pos, negsuc, nat_abs, ◌+ℤ◌, ◌*ℤ◌}
use lib.Signed.{lt_z}
use Rattle.integers.specs.Distance.{abs_is}
use Rattle.integers.specs.Difference.{up, down, order, var, lit, ◌⊕◌, ◌⊗◌}
use Rattle.integers.specs.Machine.{zarith}
use Rattle.rules.specs.declared.Square.{Square}
use Rattle.rules.specs.Bilinear.{weighted, bilinear}
use Rattle.rules.specs.SixCases.{six_cases, rounded_by_cases}
use Rattle.rules.proofs.SixCases.{six_cases_lem}
use Rattle.bilinear.specs.declared.Quotient.{Quotient}
use Rattle.rules.specs.declared.PlaceInCell.{PlaceInCell}
use Rattle.rules.specs.declared.Spacings.{Spacings}
use Rattle.bilinear.specs.declared.Raised.{Raised}
use Rattle.bilinear.specs.Mean.{InCell, Gaps, corner_quotient}
use Rattle.bilinear.proofs.Mixes.{division, cell_area}
use Rattle.bilinear.proofs.Gaps.{weighted_above}

-- Numbers that make up a sum's absolute value as a quotient and a remainder do are these.
by_division : (sum : ℤ) (quotient : ℕ) {remainder area : ℕ} {t : Bool} → lt_z sum (pos 0) ≡ t
    → nat_abs sum ≡ quotient * area + remainder → remainder < area
    → six_cases t quotient remainder area ≡ rounded_by_cases sum area
by_division sum quotient e n l = let d = division n l in rw (e, d.whole_is, d.rest_is)

-- A sum by its quotient rounded down, z, and what that leaves.
module _ {rest area : ℕ} (h : rest < area) where
  pub not_below_zero : (z : ℤ) → down z ≤ up z → six_cases false (nat_abs z) rest area ≡ rounded_by_cases (z *ℤ pos area +ℤ pos rest) area
  not_below_zero (pos n) k = by_division (pos n *ℤ pos area +ℤ pos rest) n (omega zarith) refl h
  not_below_zero (negsuc n) k = let never : ⊥ = omega arith in absurd never

  pub part_below_zero : (z : ℤ) → up z < down z → 0 < rest
      → six_cases true (nat_abs z - 1) (area - rest) area ≡ rounded_by_cases (z *ℤ pos area +ℤ pos rest) area
  part_below_zero (pos n) k l = let never : ⊥ = omega arith in absurd never
  part_below_zero (negsuc n) k l =
      let sum = var (negsuc n) ⊗ lit area ⊕ lit rest in
      let size : suc n - 1 ≡ n = omega arith in
      by_division (negsuc n *ℤ pos area +ℤ pos rest) (suc n - 1) (omega (zarith, sum))
      (omega (arith, abs_is sum, ap (λ (m : ℕ). m * area) size))
      (omega arith)

pub whole_below_zero : {area : ℕ} → 0 < area → (z : ℤ) → up z < down z
    → six_cases true (nat_abs z) 0 area ≡ rounded_by_cases (z *ℤ pos area +ℤ pos 0) area
whole_below_zero h (pos n) k = let never : ⊥ = omega arith in absurd never
whole_below_zero {area} h (negsuc n) k =
    let sum = var (negsuc n) ⊗ lit area ⊕ lit 0 in
    by_division (negsuc n *ℤ pos area +ℤ pos 0) (suc n) (omega (zarith, sum)) (omega (arith, abs_is sum)) h

-- What lies b areas above a sum with that quotient.
areas_above : (b : ℤ) (whole rest area : ℕ) → (b +ℤ pos whole) *ℤ pos area +ℤ pos rest ≡ b *ℤ pos area +ℤ pos (whole * area + rest)
areas_above b whole rest area =
    omega (arith, order, (var b ⊕ lit whole) ⊗ lit area ⊕ lit rest, var b ⊗ lit area ⊕ lit (whole * area + rest))

-- The value of a cell's corners, from the quotient of their gaps: the rounded sum.
module _ {c : Square} {at : PlaceInCell} {s : Spacings} (cell : InCell s at) where
  pub value_is : {b z : ℤ} {k : Raised} {q : Quotient} {r : ℤ} → Gaps b c k → q ≡ corner_quotient k at s → z ≡ b +ℤ pos q.whole
      → r ≡ rounded_by_cases (z *ℤ pos (s.latitude * s.longitude) +ℤ pos q.rest) (s.latitude * s.longitude)
      → r ≡ bilinear c at.u at.v s.latitude s.longitude
  unfolding bilinear
  value_is {q = q} {r = r} g e f d =
      let area = s.latitude * s.longitude in
      let sum : r ≡ rounded_by_cases (weighted c at.u at.v s.latitude s.longitude) area =
      rw (f, areas_above, e, div-add-mod', ← weighted_above cell g) at d in
      sum ∙ six_cases_lem (weighted c at.u at.v s.latitude s.longitude) area (cell_area cell)
