-- The bit of the sign, added once, turns the sign of a float's value and nothing else, at every width.
use mathlib.Core.Bool.{Bool, true, false, not}
use mathlib.Core.Path.{◌≡◌, refl, sym, ap, subst, ◌∙◌}
use Prim.Native.Nat.{ℕ, zero, suc, ◌+◌, ◌*◌, ◌/◌, ◌%◌, ◌^◌, ◌<◌}
use native.Mathlib.Nat.{add-mul-mod_self_right, add-mod_right, add-div_right, add-mul-div_right}
use native.Mathlib.Omega.{arith}
use lib.Dec.{eqb}
use lib.IntN.{neg_ℤ}
use lib.Pow.{pow_pos, pow-add}
use borrow.Author.Tests.{eqb-true, eqb-false, eq-eqb, ne_eqb}
use Rattle.std.specs.Int.{bit_at}
use Rattle.std.specs.Int.Bits.{bit_xor, xor_add_and}
use Rattle.std.proofs.lemmas.Nat.Bits.{and_pow, bit_at-lt}
use Rattle.rules.specs.declared.FloatFormat.{FloatFormat}
use Rattle.rules.specs.Floats.{fraction_of, exponent_of, negative, finite, signed, value_of}
use Rattle.floats.specs.Turned.{Turned}

-- the sign's size, negated once and twice
signed_turned : (minus : Bool) (n : ℕ) → signed (not minus) n ≡ neg_ℤ (signed minus n)
signed_turned false n = refl
signed_turned true zero = refl
signed_turned true (suc n) = refl

signed_back : (minus : Bool) (n : ℕ) → signed minus n ≡ neg_ℤ (signed (not minus) n)
signed_back true n = refl
signed_back false zero = refl
signed_back false (suc n) = refl

-- one more is odd where a number is even
odd_next : (n : ℕ) (t : Bool) → eqb (n % 2) 1 ≡ t → eqb ((n + 1) % 2) 1 ≡ not t
odd_next n true h = ne_eqb ((n + 1) % 2) 1 (λ e. omega (arith, eqb-true (n % 2) 1 h))
odd_next n false h = eq-eqb ((n + 1) % 2) 1 (omega (arith, eqb-false (n % 2) 1 h))

module _ (f : FloatFormat) (bits : ℕ) where
  -- with the sign's bit added
  abbrev pub sign_added : ℕ
  sign_added = bits + 2 ^ (f.fraction + f.exponent)

  abbrev split : sign_added ≡ bits + 2 ^ f.exponent * 2 ^ f.fraction
  split = rw (pow-add 2 f.fraction f.exponent) (omega arith)

  fraction_kept : fraction_of f sign_added ≡ fraction_of f bits
  fraction_kept = ap (λ n. n % 2 ^ f.fraction) split ∙ add-mul-mod_self_right bits (2 ^ f.exponent) (2 ^ f.fraction)

  exponent_kept : exponent_of f sign_added ≡ exponent_of f bits
  exponent_kept =
      ap (λ n. n / 2 ^ f.fraction % 2 ^ f.exponent) split
      ∙ ap (λ n. n % 2 ^ f.exponent) (add-mul-div_right bits (2 ^ f.exponent) (pow_pos f.fraction))
      ∙ add-mod_right (bits / 2 ^ f.fraction) (2 ^ f.exponent)

  sign_other : negative f sign_added ≡ not (negative f bits)
  sign_other =
      ap (λ n. eqb (n % 2) 1) (add-div_right bits (pow_pos (f.fraction + f.exponent)))
      ∙ odd_next (bits / 2 ^ (f.fraction + f.exponent)) (negative f bits) refl

  finite_kept : finite f sign_added ≡ finite f bits
  finite_kept = rw exponent_kept

  -- added, and taken away again
  pub sign_added_lem : Turned f bits sign_added
  unfolding value_of
  sign_added_lem = record { finite_same = finite_kept; value_turned = rw (exponent_kept, fraction_kept, sign_other, signed_turned) }

  pub sign_taken : Turned f sign_added bits
  unfolding value_of
  sign_taken = record { finite_same = sym finite_kept; value_turned = rw (exponent_kept, fraction_kept, sign_other, ← signed_back) }

-- The code turns the bit of the sign, whether it is set or not.
by_bit : (f : FloatFormat) (bits r bit : ℕ) → let sign = 2 ^ (f.fraction + f.exponent) in
    r + bit * sign * 2 ≡ bits + sign → bit < 2 → Turned f bits r
by_bit f bits r zero e h = let a : sign_added f bits ≡ r = omega arith in subst (Turned f bits) a (sign_added_lem f bits)
by_bit f bits r (suc zero) e h =
    let a : sign_added f r ≡ bits = omega arith in
    subst (λ (n : ℕ). Turned f n r) a (sign_taken f r)
by_bit f bits r (suc (suc n)) e h = absurd (omega arith)

pub turned_lem : (f : FloatFormat) (bits sign : ℕ) → sign ≡ 2 ^ (f.fraction + f.exponent) → Turned f bits (bit_xor bits sign)
turned_lem f bits sign e =
    let k = f.fraction + f.exponent in
    rw e (by_bit f bits _ (bit_at bits k) (rw (and_pow bits k) at (xor_add_and bits (2 ^ k))) (bit_at-lt bits k))
