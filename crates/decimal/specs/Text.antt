-- A whole number and the bytes of its text: a minus sign or none, then digits, the most significant first.
use Rattle.std.specs.Prelude.{Bool, true, false, cond, ◌&&◌, Option, None, List, [], ◌∷◌, ℕ, ◌+◌, ◌-◌, ◌*◌, leb, eqb, ℤ, pos, neg_ℤ, drop}
use Rattle.rules.specs.Units.{between}
use Rattle.std.specs.Bool.{then_some}
use Rattle.std.specs.Option.{option_map}

-- The bytes of 0 to 9 are 48 to 57, that of the minus sign is 45.
abbrev pub is_digit : ℕ → Bool
is_digit = between 48 57

abbrev pub all_digits : List ℕ → Bool
all_digits [] = true
all_digits (b ∷ rest) = is_digit b && all_digits rest

abbrev pub has_minus : List ℕ → Bool
has_minus [] = false
has_minus (b ∷ rest) = eqb b 45

-- The number n with one more digit behind it, and with all the digits of a text.
abbrev pub longer : ℕ → ℕ → ℕ
longer n b = 10 * n + (b - 48)

abbrev pub number_after : ℕ → List ℕ → ℕ
number_after n [] = n
number_after n (b ∷ rest) = number_after (longer n b) rest

-- A number where these are digits and it is at most `most`.
abbrev pub number_if : Bool → (most n : ℕ) → Option ℕ
number_if areDigits most n = then_some (areDigits && leb n most) n

unfoldable pub with_digit : (most n b : ℕ) → Option ℕ
with_digit most n b = number_if (is_digit b) most (longer n b)

-- Digits alone, at least one.
unfoldable pub digits_of : (most : ℕ) → List ℕ → Option ℕ
digits_of most [] = None
digits_of most (b ∷ rest) = number_if (all_digits (b ∷ rest)) most (number_after 0 (b ∷ rest))

-- A text: after a minus sign down to −2^63, else up to 2^63 − 1.
unfoldable pub decimal_of : List ℕ → Option ℤ
decimal_of text =
    cond (has_minus text)
    (option_map (λ n. neg_ℤ (pos n)) (digits_of 9223372036854775808 (drop 1 text)))
    (option_map pos (digits_of 9223372036854775807 text))
