-- Division in steps is division at once, rounded down and up; the size of a rounded number, in such steps.
use mathlib.Core.Bool.{Bool, true, false, cond}
use mathlib.Core.Path.{◌≡◌, refl, sym, ap, ◌∙◌}
use Prim.Native.Nat.{ℕ, zero, suc, ◌+◌, ◌-◌, ◌*◌, ◌/◌, ◌%◌, ◌^◌, ◌≤◌, ◌<◌, min}
use native.Mathlib.Nat.{le_of_lt, le_of_suc-le-suc, add-zero, sub-add_cancel, mul-le-mul_left, min-eq_left, min-eq_right}
use native.Mathlib.Nat.{div-add-mod', div-div-eq-div-mul, add-mul-div_right, mul-add-div_right, div-eq_of_lt, div-eq_of_lt-le}
use native.Mathlib.Nat.{div-le_self, div-lt_iff_lt-mul, le-div_iff_mul-le}
use native.Mathlib.Omega.{arith}
use lib.Dec.{leb}
use lib.Pow.{pow_mono, pow_pos, pow-add}
use mir.Val.{bool_byte}
use borrow.Author.Tests.{leb-true, leb-false}
use Rattle.floats.specs.Sizes.{rounded_size, floored_size}

-- what was left is divided with r times the first divisor
nested : (x r A B : ℕ) → 0 < A → (x / A + r) / B ≡ (x + r * A) / (A * B)
nested x r A B h = ap (λ n. n / B) (sym (add-mul-div_right x r h)) ∙ div-div-eq-div-mul (x + r * A) A B

-- ---- the code's 1 for a negative number, else 0

pub times_one : (minus : Bool) (x : ℕ) → bool_byte minus * x ≡ cond minus x 0
times_one true x = omega arith
times_one false x = omega arith

pub less_one : (minus : Bool) (x : ℕ) → x - bool_byte minus ≡ cond minus (x - 1) x
less_one true x = refl
less_one false x = omega arith

pub one_most : (minus : Bool) → bool_byte minus ≤ 1
one_most true = omega arith
one_most false = omega arith

pub at_most : (minus : Bool) (x : ℕ) → cond minus x 0 ≤ x
at_most true x = omega arith
at_most false x = omega arith

-- ---- a number in two parts of its first factor

in_parts : (minus : Bool) (m s A : ℕ) → 0 < A
    → 2 * (m / A * s) + floored_size minus (2 * (m % A * s)) A ≡ floored_size minus (2 * (m * s)) A
unfolding floored_size
in_parts minus m s A h =
    let r = cond minus (A - 1) 0 in
    let e : 2 * (m / A * s) * A + (2 * (m % A * s) + r) ≡ 2 * (m * s) + r = omega (arith, ap (λ n. n * s) (div-add-mod' m A)) in
    sym (mul-add-div_right h (2 * (m / A * s)) (2 * (m % A * s) + r)) ∙ ap (λ n. n / A) e

-- ---- two divisors

carried : (minus : Bool) (A B : ℕ) → 0 < A → 0 < B → cond minus (A - 1) 0 + cond minus (B - 1) 0 * A ≡ cond minus (A * B - 1) 0
carried true A B h k = omega (arith, ap (λ n. n * A) (sub-add_cancel k))
carried false A B h k = omega arith

floored_twice : (minus : Bool) (n A B : ℕ) → 0 < A → 0 < B → floored_size minus (floored_size minus n A) B ≡ floored_size minus n (A * B)
unfolding floored_size
floored_twice minus n A B h k =
    nested (n + cond minus (A - 1) 0) (cond minus (B - 1) 0) A B h ∙ ap (λ x. x / (A * B)) (omega (arith, carried minus A B h k))

-- ---- a divisor above the number counts no more

by_large : (minus : Bool) (n d : ℕ) → n < d → floored_size minus n d ≡ cond minus (min n 1) 0
unfolding floored_size
by_large false n d h = div-eq_of_lt (omega arith)
by_large true zero d h = div-eq_of_lt (omega arith)
by_large true (suc n) d h =
    let one : min (suc n) 1 ≡ 1 = omega arith in
    div-eq_of_lt-le d (omega arith) (omega arith) ∙ sym one

cut : (t : Bool) (minus : Bool) (n k cap : ℕ) → leb k cap ≡ t → n < 2 ^ cap
    → floored_size minus n (2 ^ min k cap) ≡ floored_size minus n (2 ^ k)
cut true minus n k cap e h = let l = leb-true k cap e in rw (min-eq_left l)
cut false minus n k cap e h =
    let l : 2 ^ cap ≤ 2 ^ k = pow_mono (le_of_lt (leb-false k cap e)) in
    rw (min-eq_right (le_of_lt (leb-false k cap e))) (by_large minus n (2 ^ cap) h ∙ sym (by_large minus n (2 ^ k) (omega arith)))

capped : (minus : Bool) (n k cap : ℕ) → n < 2 ^ cap → floored_size minus n (2 ^ min k cap) ≡ floored_size minus n (2 ^ k)
capped minus n k cap h = cut (leb k cap) minus n k cap refl h

pub floored_least : (minus : Bool) (n d : ℕ) → 0 < d → floored_size minus n d ≤ n
unfolding floored_size
floored_least true n d h = le_of_suc-le-suc ((div-lt_iff_lt-mul {k = d} {y = suc n} h).1 (omega (arith, mul-le-mul_left n h)))
floored_least false n d h = rw add-zero (div-le_self n d)

-- ---- the size of ± a / (P × D)

spread : (minus : Bool) (P D : ℕ) → 0 < P → 0 < D → cond minus (P - 1) 0 + cond minus (D - 1) D * P ≡ cond minus (P * D - 1) (P * D)
spread true P D h k = omega (arith, ap (λ n. n * P) (sub-add_cancel k))
spread false P D h k = omega arith

size_in_steps : (minus : Bool) (a P D : ℕ) → 0 < P → 0 < D
    → (floored_size minus (2 * a) P + cond minus (D - 1) D) / (2 * D) ≡ rounded_size minus a (P * D)
unfolding floored_size rounded_size
size_in_steps minus a P D h k =
    let e : 2 * a + cond minus (P - 1) 0 + cond minus (D - 1) D * P ≡ 2 * a + cond minus (P * D - 1) (P * D) =
    omega (arith, spread minus P D h k) in
    let f : P * (2 * D) ≡ 2 * (P * D) = omega arith in
    nested (2 * a + cond minus (P - 1) 0) (cond minus (D - 1) D) P (2 * D) h ∙ rw (e, f)

-- all of the code's steps: m in two parts, divided by 2^cut, by 2^k or a power that does as well, and by D
pub in_steps : (minus : Bool) (m s D cut k cap part low t : ℕ) → 0 < D → part ≡ 2 ^ cut
    → let n = 2 * (m / part * s) + low in
    low ≡ floored_size minus (2 * (m % part * s)) part → n < 2 ^ cap → t ≡ floored_size minus n (2 ^ min k cap)
    → (t + cond minus (D - 1) D) / (2 * D) ≡ rounded_size minus (m * s) (2 ^ (cut + k) * D)
in_steps minus m s D cut k cap part low t d p e h f =
    let n = 2 * (m / part * s) + low in
    let a = 2 * (m * s) in
    let pos : 0 < part = rw p (pow_pos cut) in
    let one : n ≡ floored_size minus a part = rw e (in_parts minus m s part pos) in
    let both : t ≡ floored_size minus a (2 ^ (cut + k)) =
    f
    ∙ capped minus n k cap h
    ∙ ap (λ (x : ℕ). floored_size minus x (2 ^ k)) one
    ∙ floored_twice minus a part (2 ^ k) pos (pow_pos k)
    ∙ ap (λ (x : ℕ). floored_size minus a (x * 2 ^ k)) p
    ∙ ap (floored_size minus a) (sym (pow-add 2 cut k)) in
    rw both (size_in_steps minus (m * s) (2 ^ (cut + k)) D (pow_pos (cut + k)) d)

-- ---- fractions that are equal have the same size

unscaled : (minus : Bool) (a b c : ℕ) → 0 < b → 0 < c → (2 * (a * c) + cond minus (b * c - 1) (b * c)) / c ≡ 2 * a + cond minus (b - 1) b
unscaled true a b c h k = let e = ap (λ n. n * c) (sub-add_cancel h) in div-eq_of_lt-le c (omega arith) (omega arith)
unscaled false a b c h k = div-eq_of_lt-le c (omega arith) (omega arith)

pub size_scaled : (minus : Bool) (a b c : ℕ) → 0 < b → 0 < c → rounded_size minus (a * c) (b * c) ≡ rounded_size minus a b
unfolding rounded_size
size_scaled minus a b c h k =
    let f : 2 * (b * c) ≡ c * (2 * b) = omega arith in
    let n = 2 * (a * c) + cond minus (b * c - 1) (b * c) in
    rw f (sym (div-div-eq-div-mul n c (2 * b)) ∙ ap (λ n. n / (2 * b)) (unscaled minus a b c h k))

-- ---- a fraction of at least K has at least that size

pub size_least : (minus : Bool) (a b K : ℕ) → 0 < b → K * b ≤ a → K ≤ rounded_size minus a b
unfolding rounded_size
size_least true a b K h k = (le-div_iff_mul-le {k = 2 * b} (omega arith)).1 (omega arith)
size_least false a b K h k = (le-div_iff_mul-le {k = 2 * b} (omega arith)).1 (omega arith)
