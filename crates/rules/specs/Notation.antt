-- Document 01, "Degrees, minutes, seconds", with question 13, and document 02, note 7, on the letter of zero. Letters are the bytes N 78,
-- S 83, E 69, W 87. In every definition `longitude` is the wanted axis: true for longitudes, false for latitudes.
use Rattle.std.specs.Prelude.{Bool, cond, ◌&&◌, ◌||◌, List, [], ◌∷◌, ℕ, ◌+◌, ◌*◌, ◌/◌, ◌%◌, leb, ltb, eqb, ℤ, pos, neg_ℤ, nat_abs}
use Rattle.std.specs.Int.Signed.{lt_z}
use Rattle.rules.specs.declared.Notation.{Notation}
use Rattle.rules.specs.Units.{degrees, within}
use Rattle.rules.specs.Answers.{Outcome, values, number, ask}

-- A degree and a minute in hundred-thousandths of a second.
abbrev pub per_degree : ℕ
per_degree = 360000000

abbrev pub per_minute : ℕ
per_minute = 6000000

-- The total of a notation in hundred-thousandths of a second: document 01's t.
unfoldable pub total : Notation → ℕ
total n = n.degrees * per_degree + n.minutes * per_minute + n.fraction

-- The axis's limit in degrees: 90 for latitudes, 180 for longitudes.
abbrev pub axis_limit : Bool → ℕ
axis_limit longitude = cond longitude 180 90

-- The axis's letter of angles from zero up, N or E, and the one of angles below zero, S or W.
abbrev pub positive_letter : Bool → ℕ
positive_letter longitude = cond longitude 69 78

abbrev pub negative_letter : Bool → ℕ
negative_letter longitude = cond longitude 87 83

-- 13, in reading: minutes below 60, hundred-thousandths below 6,000,000, a letter of the wanted axis, a total within the axis's limit.
unfoldable pub readable : Bool → Notation → Bool
readable longitude n =
    ltb n.minutes 60
    && (ltb n.fraction per_minute
    && ((eqb n.letter (positive_letter longitude) || eqb n.letter (negative_letter longitude))
    && leb (total n) (axis_limit longitude * per_degree)))

-- The nd of a total t: 25 × t / 9 plus one half, rounded down.
unfoldable pub magnitude_read : ℕ → ℕ
magnitude_read t = (2 * (25 * t) + 9) / (2 * 9)

-- Reading a notation: 13, or the nd of its total with the sign for S and W.
unfoldable pub read_notation : Bool → Notation → Outcome ℤ
read_notation longitude n =
    ask (readable longitude n) 13
    (values (cond (eqb n.letter (negative_letter longitude)) (neg_ℤ (pos (magnitude_read (total n)))) (pos (magnitude_read (total n)))))

-- The same of the four parts, as a call over C has them.
abbrev pub read_parts : Bool → (degrees minutes fraction letter : ℕ) → Outcome ℤ
read_parts longitude d m f l = read_notation longitude (record { degrees = d; minutes = m; fraction = f; letter = l })

-- The total that is written of an angle: (18 × |nd| + 25) / 50, rounded down.
unfoldable pub total_written : ℤ → ℕ
total_written z = (18 * nat_abs z + 25) / 50

-- A total, split into degrees, minutes and hundred-thousandths of a second, with a letter.
unfoldable pub split : ℕ → ℕ → Notation
split t letter = record { degrees = t / per_degree; minutes = t / per_minute % 60; fraction = t % per_minute; letter = letter }

-- The letter that is written follows the sign, but a written total of zero, as that of −1 nd, is N or E (document 02, note 7).
abbrev pub letter_written : Bool → ℤ → ℕ
letter_written longitude z = cond (ltb 0 (total_written z) && lt_z z (pos 0)) (negative_letter longitude) (positive_letter longitude)

-- Writing an angle: 13 where it is beyond the axis's limit, or its notation.
unfoldable pub write_notation : Bool → ℤ → Outcome Notation
write_notation longitude z =
    ask (within (degrees (axis_limit longitude)) z) 13
    (values (split (total_written z) (letter_written longitude z)))

-- What writing over C leaves in its lent array: degrees, minutes, hundred-thousandths of a second and the letter's byte, or with a number
-- what was there before.
abbrev pub notation_after : Outcome Notation → List ℕ → List ℕ
notation_after (values n) before = n.degrees ∷ n.minutes ∷ n.fraction ∷ n.letter ∷ []
notation_after (number n) before = before
