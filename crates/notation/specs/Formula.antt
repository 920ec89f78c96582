-- Source document 002, formula 3.4b to g, which turns decimal degrees into degrees, minutes and seconds, on an angle of whole nd; and that
-- writing follows it, but for the letter of a total of zero (document 02, note 7). The formula's fractions are kept as whole numbers over
-- 3600 × 10^5, the hundred-thousandths of a second in a degree.
use Rattle.std.specs.Prelude.{Bool, cond, ◌&&◌, ◌≡◌, refl, ℕ, ◌+◌, ◌*◌, ◌/◌, ◌%◌, ltb, eqb, ℤ, pos, nat_abs}
use Rattle.std.proofs.Common.{⊎_elim, eq-zero-or-pos, arith, lt-ltb, ne_eqb}
use Rattle.std.specs.Int.Signed.{lt_z}
use Rattle.rules.specs.declared.Notation.{Notation}
use Rattle.rules.specs.Units.{degrees, within}
use Rattle.rules.specs.Answers.{values, ask}
use Rattle.rules.specs.Notation.{per_degree, per_minute, total, axis_limit, positive_letter, negative_letter, total_written, split}
use Rattle.rules.specs.Notation.{write_notation}
use Rattle.notation.specs.Totals.{lettered, same_parts, total_split}

-- 3.4b: D, over 3600 × 10^5, is ⌊3600 × 10^5 × |d| + 0.5⌋, where d is z / 10^9 degrees.
unfoldable pub rounded_degrees : ℤ → ℕ
rounded_degrees z = (2 * (per_degree * nat_abs z) + degrees 1) / (2 * degrees 1)

-- 3.4g: C is N or E from zero up, S or W below.
abbrev pub hemisphere : Bool → ℤ → ℕ
hemisphere longitude z = cond (lt_z z (pos 0)) (negative_letter longitude) (positive_letter longitude)

-- 3.4c to f, of a D over 3600 × 10^5: the integer degrees are ⌊D⌋; M is 60 (D − ⌊D⌋), and the integer minutes are ⌊M⌋; S is 60 (M − ⌊M⌋),
-- here times 10^5.
unfoldable pub split_by_formula : ℕ → ℕ → Notation
split_by_formula d letter =
    let m = 60 * (d % per_degree) in
    let s = 60 * (m % per_degree) in
    record { degrees = d / per_degree; minutes = m / per_degree; fraction = 100000 * s / per_degree; letter = letter }

-- The formula whole, 3.4b to g, of an angle of z nd.
abbrev pub formula : Bool → ℤ → Notation
formula longitude z = split_by_formula (rounded_degrees z) (hemisphere longitude z)

-- Note 7: a total of zero is N or E.
abbrev pub but_zero : Bool → Notation → Notation
but_zero longitude n = lettered n (cond (eqb (total n) 0) (positive_letter longitude) n.letter)

-- The formula rounds to the written total.
rounded_is : (z : ℤ) → rounded_degrees z ≡ total_written z
unfolding rounded_degrees total_written
rounded_is z = omega arith

-- Its steps split that total.
formula_splits : (t letter : ℕ) → split_by_formula t letter ≡ split t letter
unfolding split_by_formula split
formula_splits t letter =
    let r = t % per_degree in
    let minutes : 60 * r / per_degree ≡ r / per_minute = omega arith in
    let all-minutes : t / per_minute ≡ 60 * (t / per_degree) + r / per_minute = omega arith in
    same_parts _ _ refl (omega arith) (omega arith) refl

-- The letter by total and sign is the letter by the sign, but for a total of zero.
letter_but_zero : (below : Bool) (negative positive t : ℕ) →
    cond (ltb 0 t && below) negative positive ≡ cond (eqb t 0) positive (cond below negative positive)
letter_but_zero below negative positive t =
    ⊎_elim (λ e. rw e refl) (λ k. rw (lt-ltb 0 t k, ne_eqb t 0 (λ e. omega arith)) refl) (eq-zero-or-pos t)

-- Writing an angle: 13 beyond the axis's limit, else the formula's notation, but for the letter of zero.
pub by_formula : (longitude : Bool) (z : ℤ) →
    write_notation longitude z ≡ ask (within (degrees (axis_limit longitude)) z) 13 (values (but_zero longitude (formula longitude z)))
unfolding write_notation split
by_formula longitude z =
    let letters = letter_but_zero (lt_z z (pos 0)) (negative_letter longitude) (positive_letter longitude) (total_written z) in
    rw (rounded_is, formula_splits, total_split, letters)
