-- The rule of reading in the parts that the code answers: the amounts of question 13, and the side of zero that a letter means.
use Rattle.std.specs.Prelude.{Bool, true, false, cond, Option, Some, None, ◌&&◌, ◌||◌, ◌≡◌}
use Rattle.std.specs.Prelude.{refl, ℕ, ◌*◌, ◌≤◌, ◌<◌, leb, ltb, eqb, ℤ, pos, neg_ℤ}
use Rattle.std.proofs.Common.{arith, ltb-true, leb-true, lt-ltb, eqb-true, ne_eqb}
use Rattle.integers.specs.Booleans.{and_left, and_right}
use Rattle.rules.specs.declared.Notation.{Notation}
use Rattle.rules.specs.Answers.{Outcome, values, number, ask}
use Rattle.rules.specs.Notation.{per_degree, per_minute, total, axis_limit, positive_letter, negative_letter}
use Rattle.rules.specs.Notation.{readable, magnitude_read, read_notation}
use Rattle.notation.specs.declared.Side.{Side}
use Rattle.notation.specs.declared.Side.TheVariants.{Positive, Negative}

-- Minutes below 60, hundred-thousandths below 6,000,000, a total within the axis's limit.
unfoldable pub amounts_fit : Bool → Notation → Bool
amounts_fit longitude n = ltb n.minutes 60 && (ltb n.fraction per_minute && leb (total n) (axis_limit longitude * per_degree))

-- The side that a letter means on an axis: none, where it is no letter of the axis.
abbrev pub side_of : Bool → ℕ → Option Side
side_of longitude letter =
    cond (eqb letter (positive_letter longitude)) (Some Positive)
    (cond (eqb letter (negative_letter longitude)) (Some Negative) None)

-- The angle of a size on a side of zero, or 13.
abbrev pub angle_on : Option Side → ℕ → Outcome ℤ
angle_on (Some Positive) size = values (pos size)
angle_on (Some Negative) size = values (neg_ℤ (pos size))
angle_on None size = number 13

-- The rule of reading in two of these parts: the amounts, and the letter.
in_parts : (a b u l d : Bool) (size : ℕ) → (u ≡ true → l ≡ false) →
    let side = cond u (Some Positive) (cond l (Some Negative) None) in
    let angle = values (cond l (neg_ℤ (pos size)) (pos size)) in
    ask (a && (b && ((u || l) && d))) 13 angle ≡ ask (a && (b && d)) 13 (angle_on side size)
in_parts false b u l d size h = refl
in_parts true false u l d size h = refl
in_parts true true true l d size h = rw (h refl)
in_parts true true false true d size h = refl
in_parts true true false false true size h = refl
in_parts true true false false false size h = refl

one_letter : (longitude : Bool) (letter : ℕ) → eqb letter (positive_letter longitude) ≡ true
    → eqb letter (negative_letter longitude) ≡ false
one_letter true letter h = let e = eqb-true letter 69 h in ne_eqb letter 87 (λ k. omega arith)
one_letter false letter h = let e = eqb-true letter 78 h in ne_eqb letter 83 (λ k. omega arith)

pub read_in_parts : (longitude : Bool) (n : Notation) →
    let angle = angle_on (side_of longitude n.letter) (magnitude_read (total n)) in
    read_notation longitude n ≡ ask (amounts_fit longitude n) 13 angle
unfolding read_notation readable amounts_fit
read_in_parts longitude n = in_parts (ltb n.minutes 60) (ltb n.fraction per_minute) _ _ _ _ (one_letter longitude n.letter)

-- What the amounts that fit are.
pub record Amounts (longitude : Bool) (n : Notation) : Type 0 where
  pub minutes_below : n.minutes < 60
  pub fraction_below : n.fraction < per_minute
  pub total_most : total n ≤ axis_limit longitude * per_degree

pub amounts : (longitude : Bool) (n : Notation) → amounts_fit longitude n ≡ true → Amounts longitude n
unfolding amounts_fit
amounts longitude n h =
    let a = ltb n.minutes 60 in
    let b = ltb n.fraction per_minute in
    let k = and_right a _ h in
    record {
      minutes_below = ltb-true _ _ (and_left a _ h);
      fraction_below = ltb-true _ _ (and_left b _ k);
      total_most = leb-true _ _ (and_right b _ k);
    }

pub amounts_not : (longitude : Bool) (n : Notation) → (Amounts longitude n → ⊥) → amounts_fit longitude n ≡ false
amounts_not longitude n never = by (amounts_fit longitude n) refl
  where
    by : (fit : Bool) → amounts_fit longitude n ≡ fit → fit ≡ false
    by true e = absurd (never (amounts longitude n e))
    by false e = refl

-- With minutes and hundred-thousandths below theirs, the total decides.
pub by_total : (longitude : Bool) (n : Notation) → n.minutes < 60 → n.fraction < per_minute
    → amounts_fit longitude n ≡ leb (total n) (axis_limit longitude * per_degree)
unfolding amounts_fit
by_total longitude n h k = rw (lt-ltb _ _ h, lt-ltb _ _ k)

pub axis_most : (longitude : Bool) → axis_limit longitude ≤ 180
axis_most true = omega arith
axis_most false = omega arith
