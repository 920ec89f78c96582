-- A walk over things in turn, whose steps are a fold: what it has found so far, one more, all, one that question 9 refuses, and what its
-- outcome says. The things are a row's nodes, of three values, of two or of one, or a grid's rows of them.
use mathlib.Core.Bool.{Bool, true, false}
use mathlib.Core.Path.{◌≡◌, refl, ap, ◌∙◌}
use Prim.Native.Nat.{ℕ, ◌+◌, ◌<◌}
use native.Mathlib.Numerals.{add-one}
use native.Mathlib.Omega.{arith}
use Rattle.rules.specs.Answers.{values, number, ask}
use Rattle.rules.specs.Check.{every}
use Rattle.rules.proofs.Answers.{asked}
use Rattle.rules.proofs.Largest.{every_more, every_missed}
use Rattle.steps.specs.Walk.{fold_up_to, walk_over}

pub fold_more : {A : Type 0} (n : ℕ) (step : ℕ → A → A) (a : A) → step n (fold_up_to n step a) ≡ fold_up_to (n + 1) step a
unfolding fold_up_to
fold_more n step a = rw add-one

-- The first n all passed, and this is what their steps left.
pub record Walked {A : Type 0} (passes : ℕ → Bool) (step : ℕ → A → A) (before : A) (n : ℕ) (found : A) : Type 0 where
  pub passed : every n passes ≡ true
  pub left : found ≡ fold_up_to n step before

module _ {A : Type 0} {passes : ℕ → Bool} {step : ℕ → A → A} {before : A} where
  pub walked_none : Walked passes step before 0 before
  unfolding every fold_up_to
  walked_none = record { passed = refl; left = refl }

  pub walked_more : {n : ℕ} {found next : A} → Walked passes step before n found → passes n ≡ true → next ≡ step n found
      → Walked passes step before (n + 1) next
  walked_more {n} w h e =
      record { passed = every_more n passes w.passed h; left = e ∙ ap (step n) w.left ∙ fold_more n step before }

  pub walked_all : {n count : ℕ} {found : A} → Walked passes step before n found → n ≡ count
      → values found ≡ walk_over passes step count before
  unfolding walk_over
  walked_all w e = rw (← e, w.passed, w.left)

  pub walked_missed : {n i : ℕ} {found : A} → Walked passes step before i found → i < n → passes i ≡ false
      → number 9 ≡ walk_over passes step n before
  unfolding walk_over
  walked_missed {n} {i} w l e = rw (every_missed n passes i l e)

-- What a walk's outcome says of question 9 and of the steps.
module _ {A : Type 0} (passes : ℕ → Bool) (step : ℕ → A → A) (n : ℕ) (before : A) where
  pub came_through : {found : A} → walk_over passes step n before ≡ values found
      → (every n passes ≡ true) × (fold_up_to n step before ≡ found)
  unfolding walk_over
  came_through e = let a = asked _ 9 _ _ e in (a.0, cc)

  pub stopped : walk_over passes step n before ≡ number 9 → every n passes ≡ false
  unfolding walk_over
  stopped e = by (every n passes) e
    where
      by : (b : Bool) → ask b 9 (values (fold_up_to n step before)) ≡ number 9 → b ≡ false
      by true h = let z : ◌≡◌ {A = ℕ} 0 1 = cc in absurd (omega arith)
      by false h = refl
