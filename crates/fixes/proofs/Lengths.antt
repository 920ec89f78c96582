-- Question 14 is answered yes for 3 × n numbers of fixes with 5 × n of answers, and for no other lengths.
use mathlib.Core.Bool.{true}
use mathlib.Core.Path.{◌≡◌}
use Prim.Native.Nat.{ℕ, ◌*◌, ◌/◌}
use native.Mathlib.Omega.{arith}
use lib.Dec.{eqb}
use borrow.Author.Tests.{eq-eqb, eqb-true}
use Rattle.integers.specs.Booleans.{and_left, and_right, and_both}
use Rattle.rules.specs.Lists.{question14}

pub same_n : (fixes answers : ℕ) → question14 fixes answers ≡ true → (fixes ≡ 3 * (fixes / 3)) × (answers ≡ 5 * (fixes / 3))
unfolding question14
same_n fixes answers h =
    let n = fixes / 3 in
    let a = eqb fixes (3 * n) in
    let b = eqb answers (5 * n) in
    (eqb-true _ _ (and_left a b h), eqb-true _ _ (and_right a b h))

pub any_n : (n : ℕ) → question14 (3 * n) (5 * n) ≡ true
unfolding question14
any_n n = and_both (eq-eqb (3 * n) (3 * (3 * n / 3)) (omega arith)) (eq-eqb (5 * n) (5 * (3 * n / 3)) (omega arith))
