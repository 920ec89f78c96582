-- The law of the nearest number, over every width and scale: its sign is the float's, and its size is that of the mantissa divided by a
-- power of two (nearest-is), of which f32 and f64 are two cases (f32-is, f64-is); of a value of at least 2^21 it is beyond the limit
-- (nearest-beyond).
use mathlib.Core.Bool.{Bool, true, false, cond}
use mathlib.Core.Path.{◌≡◌, refl, sym, ap, ◌∙◌}
use Prim.Native.Nat.{ℕ, zero, suc, ◌+◌, ◌-◌, ◌*◌, ◌/◌, ◌^◌, ◌≤◌, ◌<◌}
use native.Mathlib.Nat.{zero-mul, mod-lt, mul-div-le, lt-mul-div-succ, mul-le-mul, mul-le-mul_left, mul-le-mul_right}
use native.Mathlib.Omega.{arith}
use lib.Dec.{eqb}
use lib.IntN.{ℤ, pos, nat_abs, ◌*ℤ◌}
use lib.Pow.{pow_pos, pow-add, pow_mono}
use borrow.Author.Tests.{ne_eqb, lt-leb}
use Rattle.integers.specs.Difference.{neg_up, neg_down}
use Rattle.integers.specs.Rounding.{round_half_up}
use Rattle.integers.proofs.Rounding.{round_is}
use Rattle.rules.specs.declared.FloatFormat.{FloatFormat}
use Rattle.rules.specs.declared.Scale.{Scale}
use Rattle.rules.specs.Units.{within}
use Rattle.rules.specs.Floats.{binary32, binary64, fraction_of, exponent_of, negative, mantissa, power, bias, signed, value_of, nearest}
use Rattle.floats.specs.Sizes.{rounded_size}
use Rattle.floats.proofs.Dividing.{size_scaled, size_least}

-- ---- a number by its sign and size

pub size_signed : (minus : Bool) (n : ℕ) → nat_abs (signed minus n) ≡ n
size_signed false n = refl
size_signed true zero = refl
size_signed true (suc n) = refl

scaled_sign : (minus : Bool) (n s : ℕ) → signed minus n *ℤ pos s ≡ signed minus (n * s)
scaled_sign false n s = refl
scaled_sign true zero s = rw (zero-mul s)
scaled_sign true (suc n) s = refl

-- rounded, it keeps its sign
round_signed : (minus : Bool) (a b : ℕ) → 0 < b → round_half_up (signed minus a) b ≡ signed minus (rounded_size minus a b)
unfolding rounded_size
round_signed false a b h = round_is h (omega (arith, mul-div-le (2 * a + b) (2 * b), lt-mul-div-succ (2 * a + b) {b = 2 * b} (omega arith)))
round_signed true a b h =
    let n = 2 * a + (b - 1) in
    let q = n / (2 * b) in
    round_is h
    (omega (
      arith,
      neg_up (pos a),
      neg_down (pos a),
      ap (λ n. b * n) (neg_up (pos q)),
      ap (λ n. b * n) (neg_down (pos q)),
      mul-div-le n (2 * b),
      lt-mul-div-succ n {b = 2 * b} (omega arith),
    ))

-- ---- mantissas

-- above exponent 0 the mantissa has its leading one
normal : (f : FloatFormat) (bits : ℕ) → 1 < power f bits → 2 ^ f.fraction ≤ mantissa f bits
normal f bits h = rw (ne_eqb (exponent_of f bits) 0 (λ e. omega arith)) (omega arith)

below : (t : Bool) (x one : ℕ) → x < one → cond t x (one + x) < 2 * one
below true x one h = omega arith
below false x one h = omega arith

-- and below twice the leading one
pub mantissa_most : (f : FloatFormat) (bits : ℕ) → mantissa f bits < 2 * 2 ^ f.fraction
mantissa_most f bits = below (eqb (exponent_of f bits) 0) (fraction_of f bits) (2 ^ f.fraction) (mod-lt bits (pow_pos f.fraction))

-- ---- the law

pub under_pos : (k : ℕ) {d : ℕ} → 0 < d → 0 < 2 ^ k * d
under_pos k h = mul-le-mul (pow_pos k) h

large : (b p : ℕ) → b + 20 < p → 2 ^ b * 2097152 ≤ 2 ^ p
large b p h = rw (pow-add 2 b 21) at (pow_mono {i = b + 21} {j = p} (omega arith))

far_top : (K U O B P m w : ℕ) → K * U ≤ 2097152 * O → P ≤ m → B * 2097152 ≤ w → K * (B * P * U) ≤ m * w * O
far_top K U O B P m w h k l = omega (arith, mul-le-mul_left (B * P) h, mul-le-mul_right O (mul-le-mul k l))

module _ (f : FloatFormat) (s : Scale) (bits : ℕ) (u : 0 < s.under) where
  -- the sign is the float's, and the size that of the exact value
  pub nearest_signed : let minus = negative f bits in
      nearest s (value_of f bits)
      ≡ signed minus (rounded_size minus (mantissa f bits * 2 ^ power f bits * s.over) (2 ^ (bias f + f.fraction) * s.under))
  unfolding nearest value_of
  nearest_signed =
      let n = mantissa f bits * 2 ^ power f bits in
      let minus = negative f bits in
      let d = 2 ^ (bias f + f.fraction) * s.under in
      ap (λ (z : ℤ). round_half_up z d) (scaled_sign minus n s.over)
      ∙ round_signed minus (n * s.over) d (under_pos (bias f + f.fraction) u)

  -- where h is what the power lacks of the bias and the fraction's bits
  pub nearest_is : (h : ℕ) → power f bits + h ≡ bias f + f.fraction → let minus = negative f bits in
      nearest s (value_of f bits) ≡ signed minus (rounded_size minus (mantissa f bits * s.over) (2 ^ h * s.under))
  nearest_is h e =
      let minus = negative f bits in
      let p = 2 ^ power f bits in
      let m = mantissa f bits in
      let top : m * p * s.over ≡ m * s.over * p = omega arith in
      let bottom : 2 ^ (bias f + f.fraction) * s.under ≡ 2 ^ h * s.under * p =
      ap (λ (n : ℕ). 2 ^ n * s.under) (sym e) ∙ ap (λ (n : ℕ). n * s.under) (pow-add 2 (power f bits) h) ∙ omega arith in
      nearest_signed
      ∙ ap (signed minus)
      ((λ i. rounded_size minus (top i) (bottom i))
      ∙ size_scaled minus (m * s.over) (2 ^ h * s.under) p (under_pos h u) (pow_pos (power f bits)))

  -- the power is so high that the value is at least 2^21
  pub nearest_beyond : (limit : ℕ) → (limit + 1) * s.under ≤ 2097152 * s.over → bias f + 20 < power f bits
      → within limit (nearest s (value_of f bits)) ≡ false
  nearest_beyond limit l g =
      let minus = negative f bits in
      let n = mantissa f bits * 2 ^ power f bits * s.over in
      let d = 2 ^ (bias f + f.fraction) * s.under in
      let top = far_top _ _ _ _ _ _ _ l (normal f bits (omega arith)) (large (bias f) (power f bits) g) in
      let far : limit + 1 ≤ rounded_size minus n d =
      size_least minus n d (limit + 1) (under_pos (bias f + f.fraction) u) (rw (pow-add 2 (bias f) f.fraction) top) in
      rw (nearest_signed, size_signed minus _) (lt-leb (rounded_size minus n d) limit (omega arith))

-- f32 and f64
pub f32_is : (s : Scale) (bits h : ℕ) → 0 < s.under → power binary32 bits + h ≡ 150 → let minus = negative binary32 bits in
    nearest s (value_of binary32 bits) ≡ signed minus (rounded_size minus (mantissa binary32 bits * s.over) (2 ^ h * s.under))
f32_is s bits h u e = nearest_is binary32 s bits u h e

pub f64_is : (s : Scale) (bits h : ℕ) → 0 < s.under → power binary64 bits + h ≡ 1075 → let minus = negative binary64 bits in
    nearest s (value_of binary64 bits) ≡ signed minus (rounded_size minus (mantissa binary64 bits * s.over) (2 ^ h * s.under))
f64_is s bits h u e = nearest_is binary64 s bits u h e
