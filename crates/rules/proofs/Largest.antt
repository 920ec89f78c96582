-- Laws of `every` and `largest`: every one means each, and the largest bounds each.
use mathlib.Core.Bool.{Bool, true, false, ◌&&◌}
use mathlib.Core.Logic.{◌⊎◌, ⊎_elim}
use mathlib.Core.Path.{◌≡◌, refl, sym, ap₂, ◌∙◌}
use Prim.Native.Nat.{ℕ, zero, suc, ◌+◌, ◌-◌, ◌≤◌, ◌<◌, max}
use native.Mathlib.Nat.{eq-or-lt_of_le, le_of_suc-le-suc, not-suc-le-zero}
use native.Mathlib.Numerals.{add-one}
use native.Mathlib.Omega.{arith}
use Rattle.integers.specs.Booleans.{and_left, and_right}
use Rattle.rules.specs.Check.{every, largest}

-- An index below n + 1 is n, or below n.
last_or_before : {i n : ℕ} → i < suc n → (i ≡ n) ⊎ (i < n)
last_or_before h = eq-or-lt_of_le (le_of_suc-le-suc h)

-- ---- every
pub every_more : (n : ℕ) (t : ℕ → Bool) → every n t ≡ true → t n ≡ true → every (n + 1) t ≡ true
unfolding every
every_more n t h e = rw (add-one, every, h) e

pub every_at : (n : ℕ) (t : ℕ → Bool) → every n t ≡ true → (i : ℕ) → i < n → t i ≡ true
unfolding every
every_at zero t h i l = absurd (not-suc-le-zero l)
every_at (suc n) t h i l =
    ⊎_elim (λ e. rw e (and_right (every n t) (t n) h)) (λ k. every_at n t (and_left (every n t) (t n) h) i k) (last_or_before l)

pub every_missed : (n : ℕ) (t : ℕ → Bool) (i : ℕ) → i < n → t i ≡ false → every n t ≡ false
every_missed n t i l e = by (every n t) refl
  where
    by : (b : Bool) → every n t ≡ b → b ≡ false
    by true h = sym (every_at n t h i l) ∙ e
    by false h = refl

-- Tests that answer each alike answer every one alike.
pub every_same : (n : ℕ) {s t : ℕ → Bool} → ((i : ℕ) → i < n → s i ≡ t i) → every n s ≡ every n t
unfolding every
every_same zero h = refl
every_same (suc n) h = ap₂ ◌&&◌ (every_same n (λ i l. h i (omega arith))) (h n (omega arith))

-- Two tests of each are each test of every one.
pub every_both : (n : ℕ) (s t : ℕ → Bool) → every n (λ i. s i && t i) ≡ (every n s && every n t)
unfolding every
every_both zero s t = refl
every_both (suc n) s t = rw (every_both n s t) (exchanged (every n s) (every n t) (s n) (t n))
  where
    exchanged : (a b c d : Bool) → ((a && b) && (c && d)) ≡ ((a && c) && (b && d))
    exchanged true true c d = refl
    exchanged true false true d = refl
    exchanged true false false d = refl
    exchanged false b c d = refl

-- ---- largest
pub largest_at : (n : ℕ) (f : ℕ → ℕ) (i : ℕ) → i < n → f i ≤ largest n f
unfolding largest
largest_at zero f i l = absurd (not-suc-le-zero l)
largest_at (suc n) f i l =
    ⊎_elim (λ e. rw e (omega arith)) (λ k. omega (arith, largest_at n f i k)) (last_or_before l)

pub largest_most : (n : ℕ) (f : ℕ → ℕ) (m : ℕ) → ((i : ℕ) → i < n → f i ≤ m) → largest n f ≤ m
unfolding largest
largest_most zero f m h = omega arith
largest_most (suc n) f m h = omega (arith, h n (omega arith), largest_most n f m (λ i l. h i (omega arith)))

pub largest_none : (n : ℕ) (f : ℕ → ℕ) → ((i : ℕ) → f i ≡ 0) → largest n f ≡ 0
largest_none n f h = let m = largest_most n f 0 (λ i l. omega (arith, h i)) in omega arith

pub largest_same : (n : ℕ) {f h : ℕ → ℕ} → ((i : ℕ) → i < n → f i ≡ h i) → largest n f ≡ largest n h
unfolding largest
largest_same zero e = refl
largest_same (suc n) e = ap₂ max (largest_same n (λ i l. e i (omega arith))) (e n (omega arith))

-- Each number set beside the one before it, the first beside itself, gives the steps from each to the next.
module _ (d : ℕ → ℕ → ℕ) (still : (i : ℕ) → d i i ≡ 0) where
  steps_below : (n : ℕ) → largest (suc n) (λ i. d i (i - 1)) ≡ largest n (λ i. d (i + 1) i)
  unfolding largest
  steps_below zero = omega (arith, still 0)
  steps_below (suc n) = let e : suc n - 1 ≡ n = omega arith in rw (steps_below n, e, add-one)

  pub largest_steps : (n : ℕ) → largest n (λ i. d i (i - 1)) ≡ largest (n - 1) (λ i. d (i + 1) i)
  unfolding largest
  largest_steps zero = refl
  largest_steps (suc n) = let e : suc n - 1 ≡ n = omega arith in steps_below n ∙ rw e
