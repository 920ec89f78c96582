-- The content of the answer list, fixed for every index: five numbers for each fix, which are those of the fix's conversion. A loop that
-- has written the first k answers writes one more.
use mathlib.Core.List.{List, [], ◌∷◌, ◌++◌}
use mathlib.Core.Path.{◌≡◌, refl, sym, ◌∙◌}
use Prim.Native.Nat.{ℕ, zero, suc, ◌+◌, ◌*◌, ◌-◌, ◌≤◌, ◌<◌}
use native.Mathlib.Omega.{arith}
use lib.IntN.{ℤ}
use lib.ListN.{length, take, drop, get_or, length-append}
use Rattle.std.specs.Simd.{first_chunks}
use lib.Seq.{take_all, take_at, take-add, drop-append-add}
use Rattle.rules.specs.declared.Point.{Point}
use Rattle.rules.specs.Answers.{Outcome, values, number}
use Rattle.rules.specs.Ways.{Accepted}
use Rattle.rules.specs.Lists.{five_of, answers_of}
use Rattle.rules.proofs.Lent.{front}
use Rattle.fixes.specs.Fix.{fix_of, fix_point, fix_height, at_fix}

five_long : (a : Outcome Accepted) → length (five_of a) ≡ 5
five_long (values p) = refl
five_long (number n) = refl

-- The k-th three numbers are fix k.
pub chunk_is : (fixes : List ℤ) (n k : ℕ) → length fixes ≡ 3 * n → k < n
    → fix_of (get_or (first_chunks 3 n fixes) k []) ≡ record { point = fix_point fixes k; height = fix_height fixes k }
chunk_is fixes zero k h i = absurd (omega arith)
chunk_is [] (suc n) k h i = absurd (omega arith)
chunk_is (_ ∷ []) (suc n) k h i = absurd (omega arith)
chunk_is (_ ∷ _ ∷ []) (suc n) k h i = absurd (omega arith)
chunk_is (x ∷ y ∷ z ∷ rest) (suc n) zero h i = refl
chunk_is (x ∷ y ∷ z ∷ rest) (suc n) (suc k) h i =
    let below : k < n = omega arith in
    let i : 3 * suc k ≡ suc (suc (suc (3 * k))) = omega arith in
    let i₁ : 3 * suc k + 1 ≡ suc (suc (suc (3 * k + 1))) = omega arith in
    let i₂ : 3 * suc k + 2 ≡ suc (suc (suc (3 * k + 2))) = omega arith in
    rw (i₁, i₂, i) (chunk_is rest n k (omega arith) below)

module _ (single : Point → ℤ → Outcome Accepted) where
  -- Five numbers for each fix.
  pub answers_long : (fixes : List ℤ) (n : ℕ) → length fixes ≡ 3 * n → length (answers_of single fixes) ≡ 5 * n
  answers_long [] n h = omega arith
  answers_long (_ ∷ []) n h = absurd (omega arith)
  answers_long (_ ∷ _ ∷ []) n h = absurd (omega arith)
  answers_long (x ∷ y ∷ z ∷ rest) n h =
      rw length-append (omega (arith, five_long (single (fix_point (x ∷ y ∷ []) 0) z), answers_long rest (n - 1) (omega arith)))

  -- From 5 × k on stand the five numbers of the conversion of fix k.
  pub answers_at : (fixes : List ℤ) (k : ℕ) → 3 * k + 2 < length fixes
      → take 5 (drop (5 * k) (answers_of single fixes)) ≡ five_of (at_fix single fixes k)
  answers_at [] k h = absurd (omega arith)
  answers_at (_ ∷ []) k h = absurd (omega arith)
  answers_at (_ ∷ _ ∷ []) k h = absurd (omega arith)
  answers_at (x ∷ y ∷ z ∷ rest) zero h =
      let a = single (fix_point (x ∷ y ∷ []) 0) z in
      take_at (five_of a) (answers_of single rest) 5 (five_long a)
  answers_at (x ∷ y ∷ z ∷ rest) (suc k) h =
      let a = single (fix_point (x ∷ y ∷ []) 0) z in
      let e : 5 * suc k ≡ length (five_of a) + 5 * k = omega (arith, five_long a) in
      let i : 3 * suc k ≡ suc (suc (suc (3 * k))) = omega arith in
      let i₁ : 3 * suc k + 1 ≡ suc (suc (suc (3 * k + 1))) = omega arith in
      let i₂ : 3 * suc k + 2 ≡ suc (suc (suc (3 * k + 2))) = omega arith in
      rw (e, drop-append-add, i₁, i₂, i) (answers_at rest k (omega arith))

  module _ (fixes : List ℤ) where
    -- The first k answers are written.
    pub Written : List ℤ → ℕ → Type 0
    Written answers k = take (5 * k) answers ≡ take (5 * k) (answers_of single fixes)

    pub written_none : (answers : List ℤ) (k : ℕ) → k ≡ 0 → Written answers k
    unfolding Written
    written_none answers k e = rw e

    -- One more, at the front of the part that was lent on.
    pub written_more : (answers part rest post : List ℤ) (k : ℕ) (a : Outcome Accepted) → 3 * k + 2 < length fixes → 5 * k ≤ length answers
        → part ≡ five_of a ++ rest → a ≡ at_fix single fixes k
        → Written answers k → Written (take (5 * k) answers ++ (part ++ post)) (k + 1)
    unfolding Written
    written_more answers part rest post k a hf ha e r w =
        let n : 5 * (k + 1) ≡ 5 * k + length (five_of a) = omega (arith, five_long a) in
        rw (n, e, front answers (five_of a) rest post (5 * k) ha, five_long a, take-add, answers_at fixes k hf, ← r, w)

    pub written_all : (answers : List ℤ) (n : ℕ) → length fixes ≡ 3 * n → length answers ≡ 5 * n
        → Written answers n → answers ≡ answers_of single fixes
    unfolding Written
    written_all answers n hf ha w =
        let long = answers_long fixes n hf in
        sym (take_all (5 * n) answers (omega arith)) ∙ w ∙ take_all (5 * n) (answers_of single fixes) (omega arith)
