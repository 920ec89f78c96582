-- The way out's answers, by induction over its evaluations, and how many of these an answer counts.
use mathlib.Core.Bool.{true}
use mathlib.Core.Path.{◌≡◌, subst}
use Prim.Native.Nat.{ℕ, zero, suc, ◌+◌, ◌≤◌, ◌<◌}
use native.Mathlib.Omega.{arith}
use Rattle.integers.specs.Booleans.{branched}
use Rattle.rules.specs.declared.Point.{Point}
use Rattle.rules.specs.declared.Correction.{Correction}
use Rattle.rules.specs.Answers.{values}
use Rattle.rules.specs.Ways.{Source, minus, settled, Settled, iterate}
use Rattle.rules.proofs.Answers.{asked, followed}

-- Every answer has what the last evaluation gives it, where evaluations before the last keep that.
module _ (s : Source) (stop : ℕ) (p : Point) (T : (left n : ℕ) → Settled → Type 0)
    (last : (left n : ℕ) (r : Point) (c : Correction)
    → s.inside r ≡ true → s.corrections r ≡ values c → s.inside (minus p c) ≡ true → settled stop (minus p c) r ≡ true
    → T (suc left) n (record { point = minus p c; count = n + 1 }))
    (before : (left n : ℕ) (e : Settled) → T left (n + 1) e → T (suc left) n e)
  where
    pub every_answer : (left n : ℕ) (r : Point) → s.inside r ≡ true → (e : Settled) → iterate s stop p left n r ≡ values e → T left n e
    unfolding iterate
    every_answer zero n r i e h = let z : ◌≡◌ {A = ℕ} 0 1 = cc in absurd (omega arith)
    every_answer (suc left) n r i e h =
        let f = followed (s.corrections r) _ e h in
        let q = minus p f.0 in
        let a = asked (s.inside q) 10 _ e f.2 in
        branched (settled stop q r) _ _ _ a.1
        (λ t k. subst (T (suc left) n) (cc k) (last left n r f.0 i f.1 a.0 t))
        (λ t k. before left n e (every_answer left (n + 1) q a.0 e k))

-- An answer counts the evaluation that gives it, and at most those that were left.
pub counted : (s : Source) (stop : ℕ) (p : Point) (left n : ℕ) (r : Point) → s.inside r ≡ true
    → (e : Settled) → iterate s stop p left n r ≡ values e → (n < e.count) × (e.count ≤ n + left)
counted s stop p =
    every_answer s stop p (λ left n e. (n < e.count) × (e.count ≤ n + left))
    (λ left n r c i f j t. omega arith)
    (λ left n e h. omega arith)
