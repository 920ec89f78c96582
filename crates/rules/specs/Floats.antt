-- Document 02, note 2: the exact value of a float by its bits, and the nearest whole number at a scale, halves upward; one definition for
-- floats of every width.
use Rattle.std.specs.Prelude.{Bool, cond, ℕ, ◌+◌, ◌-◌, ◌*◌, ◌/◌, ◌%◌, ◌^◌, max, ltb, eqb, ℤ, pos, neg_ℤ, ◌*ℤ◌}
use Rattle.integers.specs.Rounding.{round_half_up}
use Rattle.rules.specs.declared.FloatFormat.{FloatFormat}
use Rattle.rules.specs.declared.Scale.{Scale}

-- f32 and f64.
abbrev pub binary32 : FloatFormat
binary32 = record { fraction = 23; exponent = 8 }

abbrev pub binary64 : FloatFormat
binary64 = record { fraction = 52; exponent = 11 }

-- The parts of a float's bits.
abbrev pub fraction_of : FloatFormat → (bits : ℕ) → ℕ
fraction_of f bits = bits % 2 ^ f.fraction

abbrev pub exponent_of : FloatFormat → (bits : ℕ) → ℕ
exponent_of f bits = bits / 2 ^ f.fraction % 2 ^ f.exponent

abbrev pub negative : FloatFormat → (bits : ℕ) → Bool
negative f bits = eqb (bits / 2 ^ (f.fraction + f.exponent) % 2) 1

-- An exponent of ones alone is that of the infinities and of what is not a number; any other is finite.
abbrev pub finite : FloatFormat → (bits : ℕ) → Bool
finite f bits = ltb (exponent_of f bits + 1) (2 ^ f.exponent)

-- The mantissa has a one before its fraction, but for exponent 0: zeros and subnormals, whose power of two is that of exponent 1.
abbrev pub mantissa : FloatFormat → (bits : ℕ) → ℕ
mantissa f bits = cond (eqb (exponent_of f bits) 0) (fraction_of f bits) (2 ^ f.fraction + fraction_of f bits)

abbrev pub power : FloatFormat → (bits : ℕ) → ℕ
power f bits = max 1 (exponent_of f bits)

-- What the exponent of 1.0 is.
abbrev pub bias : FloatFormat → ℕ
bias f = 2 ^ (f.exponent - 1) - 1

-- A number by its sign and its size.
abbrev pub signed : (minus : Bool) → (size : ℕ) → ℤ
signed minus n = cond minus (neg_ℤ (pos n)) (pos n)

-- A fraction, top / bottom.
pub record Fraction : Type 0 where
  pub top : ℤ
  pub bottom : ℕ

-- A float's exact value: ± mantissa × 2^power / 2^(bias + bits of the fraction).
unfoldable pub value_of : FloatFormat → (bits : ℕ) → Fraction
value_of f bits = record { top = signed (negative f bits) (mantissa f bits * 2 ^ power f bits); bottom = 2 ^ (bias f + f.fraction) }

-- The whole number nearest to a value times a scale, halves upward: that product plus one half, rounded down.
unfoldable pub nearest : Scale → Fraction → ℤ
nearest s v = round_half_up (v.top *ℤ pos s.over) (v.bottom * s.under)
