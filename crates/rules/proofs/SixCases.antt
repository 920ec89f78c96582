-- The six cases of document 02's note 3 are the exact value plus one half, rounded down (six-cases).
use mathlib.Core.Bool.{Bool, true, false, cond}
use mathlib.Core.Path.{◌≡◌, refl, sym}
use Prim.Native.Nat.{ℕ, suc, ◌+◌, ◌*◌, ◌/◌, ◌%◌, ◌<◌}
use native.Mathlib.Nat.{div-add-mod', mod-lt}
use native.Mathlib.Omega.{arith}
use lib.IntN.{ℤ, pos, negsuc, neg_ℤ}
use borrow.Author.Tests.{le-ltb}
use Rattle.integers.specs.Difference.{up, down, neg_up, neg_down}
use Rattle.integers.specs.Machine.{natural-tests}
use Rattle.integers.specs.Rounding.{Round, round_half_up}
use Rattle.integers.proofs.Rounding.{round_is}
use Rattle.rules.specs.SixCases.{Half, below_half, exactly_half, above_half, less_than_half, equal_to_half, test_for_half}
use Rattle.rules.specs.SixCases.{value_in_case, six_cases, rounded_by_cases}

-- The test for half: what each of its answers says of the numbers.
by_test : (A : Half → Type 0) (remainder area : ℕ) → (2 * remainder < area → A below_half) → (2 * remainder ≡ area → A exactly_half)
    → (area < 2 * remainder → A above_half) → A (test_for_half remainder area)
unfolding test_for_half
by_test A remainder area below exactly above = by (less_than_half remainder area) (equal_to_half remainder area) refl refl
  where
    by : (l e : Bool) → less_than_half remainder area ≡ l → equal_to_half remainder area ≡ e
        → A (cond l below_half (cond e exactly_half above_half))
    by true e h k = below (omega (arith, natural-tests))
    by false true h k = exactly (omega (arith, natural-tests))
    by false false h k = above (omega (arith, natural-tests))

-- So the numbers decide it.
module _ (remainder area : ℕ) where
  never : {A : Type 0} → ⊥ → A
  never k = absurd k

  pub is_below : 2 * remainder < area → test_for_half remainder area ≡ below_half
  is_below h = by_test (λ t. t ≡ below_half) remainder area (λ k. refl) (λ k. never (omega arith)) (λ k. never (omega arith))

  pub is_exactly : 2 * remainder ≡ area → test_for_half remainder area ≡ exactly_half
  is_exactly h = by_test (λ t. t ≡ exactly_half) remainder area (λ k. never (omega arith)) (λ k. refl) (λ k. never (omega arith))

  pub is_above : area < 2 * remainder → test_for_half remainder area ≡ above_half
  is_above h = by_test (λ t. t ≡ above_half) remainder area (λ k. never (omega arith)) (λ k. never (omega arith)) (λ k. refl)

-- The value, from the case.
pub in_case : (quotient remainder area : ℕ) {negative n : Bool} {t : Half} → negative ≡ n → test_for_half remainder area ≡ t
    → six_cases negative quotient remainder area ≡ value_in_case n t quotient
unfolding six_cases
in_case quotient remainder area e h = rw (e, h)

-- A product with the parts of −n, for `omega`.
neg_parts : (area n : ℕ) → (area * up (neg_ℤ (pos n)) ≡ 0) × (area * down (neg_ℤ (pos n)) ≡ area * n)
neg_parts area n = rw (neg_up (pos n), neg_down (pos n)) (omega arith, refl)

-- Each case is within one half of the exact value, or one half above it.
module _ (area : ℕ) (h : 0 < area) where
  rounds : (sum : ℤ) → Round area sum (rounded_by_cases sum area)
  unfolding six_cases
  rounds (pos n) =
      let whole = div-add-mod' n area in
      rw (le-ltb n 0 (omega arith))
      (by_test (λ t. Round area (pos n) (value_in_case false t (n / area))) (n % area) area
      (λ k. omega (arith, whole))
      (λ k. omega (arith, whole))
      (λ k. omega (arith, whole, mod-lt n h)))
  rounds (negsuc n) =
      let q = suc n / area in
      let whole = div-add-mod' (suc n) area in
      by_test (λ t. Round area (negsuc n) (value_in_case true t q)) (suc n % area) area
      (λ k. omega (arith, whole, neg_parts area q))
      (λ k. omega (arith, whole, neg_parts area q))
      (λ k. omega (arith, whole, mod-lt (suc n) h, neg_parts area (q + 1)))

-- The theorem: the rule of six cases gives the exact value, which is sum / area, plus one half, rounded down.
pub six_cases_lem : (sum : ℤ) (area : ℕ) → 0 < area → rounded_by_cases sum area ≡ round_half_up sum area
six_cases_lem sum area h = sym (round_is h (rounds area h sum))
