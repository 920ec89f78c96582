-- Document 02, note 3: the rounding of the bilinear value in six cases, as a surveyor does it by hand. Theorem `six_cases_lem`
-- (proofs/SixCases.antt): it is the rounding of `bilinear`, the exact value plus one half, rounded down.
use Rattle.std.specs.Prelude.{Bool, true, false, cond, ℕ, ◌+◌, ◌*◌, ◌/◌, ◌%◌, ltb, eqb, ℤ, pos, neg_ℤ, nat_abs}
use Rattle.std.specs.Int.Signed.{lt_z}

-- The remainder beside half of the area, P × Q.
pub data Half : Type 0 where
  below_half : Half
  exactly_half : Half
  above_half : Half

-- Twice the remainder is compared with the area itself, whose half is no whole number where it is odd.
abbrev pub less_than_half : (remainder area : ℕ) → Bool
less_than_half remainder area = ltb (2 * remainder) area

abbrev pub equal_to_half : (remainder area : ℕ) → Bool
equal_to_half remainder area = eqb (2 * remainder) area

unfoldable pub test_for_half : (remainder area : ℕ) → Half
test_for_half remainder area = cond (less_than_half remainder area) below_half (cond (equal_to_half remainder area) exactly_half above_half)

-- The six cases, in their order: 1 to 3 of a sum that is not negative, 4 to 6 of a negative one. The value, by the quotient.
abbrev pub value_in_case : (negative : Bool) → Half → (quotient : ℕ) → ℤ
value_in_case false below_half quotient = pos quotient
value_in_case false exactly_half quotient = pos (quotient + 1)
value_in_case false above_half quotient = pos (quotient + 1)
value_in_case true below_half quotient = neg_ℤ (pos quotient)
value_in_case true exactly_half quotient = neg_ℤ (pos quotient)
value_in_case true above_half quotient = neg_ℤ (pos (quotient + 1))

-- The rule: by the sum's sign, and the quotient and the remainder of its absolute value.
unfoldable pub six_cases : (negative : Bool) → (quotient remainder area : ℕ) → ℤ
six_cases negative quotient remainder area = value_in_case negative (test_for_half remainder area) quotient

-- The rule on a sum of corner times weight.
abbrev pub rounded_by_cases : (sum : ℤ) → (area : ℕ) → ℤ
rounded_by_cases sum area = six_cases (lt_z sum (pos 0)) (nat_abs sum / area) (nat_abs sum % area) area
