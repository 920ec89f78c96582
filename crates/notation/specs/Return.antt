-- Document 01: "Reading then writing returns the notation, save a zero with S or W." The other way round, writing then reading returns
-- every angle that can be written within 1 nd; and no zero is written with S or W (document 02, note 7).
-- What is read lies within the axis's limit and has the size of the total; its letter is that of its sign, unless the total is zero.
use Rattle.std.specs.Prelude.{Bool, true, false, cond, Some, None, ◌&&◌, ◌⊎◌, ◌≡◌, refl}
use Rattle.std.specs.Prelude.{ℕ, ◌*◌, ◌≤◌, ◌<◌, ltb, eqb, ℤ, pos, neg_ℤ, nat_abs, ◌-ℤ◌}
use Rattle.std.proofs.Common.{inl, inr, ⊎_elim, ◌∙◌, eq-zero-or-pos, arith, le-leb, leb-true, eqb-true}
use Rattle.std.proofs.Math.Path.{sym, ap}
use Rattle.std.specs.Int.Signed.{lt_z}
use Rattle.integers.specs.Booleans.{and_false}
use Rattle.integers.specs.Difference.{var, lit, negated}
use Rattle.integers.specs.Distance.{Near, size, abs_is, near_abs}
use Rattle.integers.specs.Machine.{zarith}
use Rattle.rules.proofs.Answers.{asked}
use Rattle.rules.specs.declared.Notation.{Notation}
use Rattle.rules.specs.Units.{degrees}
use Rattle.rules.specs.Answers.{values}
use Rattle.rules.specs.Notation.{per_degree, total, axis_limit, positive_letter, negative_letter, magnitude_read, total_written, split}
use Rattle.rules.specs.Notation.{letter_written, read_notation, write_notation}
use Rattle.notation.specs.declared.Side.TheVariants.{Positive, Negative}
use Rattle.notation.specs.Parts.{amounts_fit, side_of, angle_on, read_in_parts, Amounts, amounts, by_total}
use Rattle.notation.specs.Totals.{total_back, size_back, read_most, written_most, read_above, read_zero}
use Rattle.notation.specs.Totals.{lettered, split_total, total_split}

-- An angle is on the positive side with the positive letter, or on the negative side with the negative one.
by_side : (u l : Bool) (m : ℕ) (z : ℤ) → angle_on (cond u (Some Positive) (cond l (Some Negative) None)) m ≡ values z
    → ((u ≡ true) × (z ≡ pos m)) ⊎ ((l ≡ true) × (z ≡ neg_ℤ (pos m)))
by_side true l m z h = inl (refl, cc)
by_side false true m z h = inr (refl, cc)
by_side false false m z h = let e : ◌≡◌ {A = ℕ} 0 1 = cc in absurd (omega arith)

-- What a reading says of its angle.
pub record ReadAs (longitude : Bool) (n : Notation) (z : ℤ) : Type 0 where
  pub fitting : Amounts longitude n
  pub size_read : nat_abs z ≡ magnitude_read (total n)
  pub letter_read : 0 < total n → letter_written longitude z ≡ n.letter

module _ (longitude : Bool) (n : Notation) (z : ℤ) (a : Amounts longitude n) where
  positive_read : (eqb n.letter (positive_letter longitude) ≡ true) × (z ≡ pos (magnitude_read (total n))) → ReadAs longitude n z
  positive_read h =
      let e = h.1 in
      let t : lt_z z (pos 0) ≡ false = omega zarith in
      record { fitting = a; size_read = ap nat_abs e; letter_read = λ _. rw (t, and_false) (sym (eqb-true _ _ h.0)) }

  negative_read : (eqb n.letter (negative_letter longitude) ≡ true) × (z ≡ neg_ℤ (pos (magnitude_read (total n)))) → ReadAs longitude n z
  negative_read h =
      let e = h.1 in
      let form = negated (lit (magnitude_read (total n))) in
      let read : nat_abs z ≡ magnitude_read (total n) = omega (zarith, form, abs_is (var z)) in
      let above : 0 < total n → ltb 0 (total_written z) ≡ true = λ k. omega (zarith, total_back z (total n) read) in
      let below : 0 < total n → lt_z z (pos 0) ≡ true = λ k. omega (zarith, form, read_above k) in
      record { fitting = a; size_read = read; letter_read = λ k. rw (above k, below k) (sym (eqb-true _ _ h.0)) }

pub read_as : (longitude : Bool) (n : Notation) (z : ℤ) → read_notation longitude n ≡ values z → ReadAs longitude n z
read_as longitude n z h =
    let k = asked (amounts_fit longitude n) 13 _ z (sym (read_in_parts longitude n) ∙ h) in
    let a = amounts longitude n k.0 in
    ⊎_elim (positive_read longitude n z a) (negative_read longitude n z a) (by_side _ _ _ z k.1)

module _ (longitude : Bool) (n : Notation) (z : ℤ) (h : read_notation longitude n ≡ values z) where
  -- A reading is within the axis's limit, so writing never refuses what reading gave.
  pub read_within : nat_abs z ≤ degrees (axis_limit longitude)
  read_within =
      let r = read_as longitude n z h in
      omega (arith, read_most (axis_limit longitude) (total n) r.fitting.total_most)

  -- The amounts are returned, with the letter that the angle is written with.
  amounts_back : write_notation longitude z ≡ values (lettered n (letter_written longitude z))
  unfolding write_notation
  amounts_back =
      let r = read_as longitude n z h in
      let same = ap (λ (t : ℕ). split t (letter_written longitude z)) (total_back z (total n) r.size_read) in
      rw (le-leb _ _ read_within) (ap values (same ∙ split_total n _ r.fitting.minutes_below r.fitting.fraction_below))

  -- A zero is returned with N or E, whichever of the axis's letters it was read with.
  pub zero_read_then_write : total n ≡ 0 → write_notation longitude z ≡ values (lettered n (positive_letter longitude))
  zero_read_then_write zero =
      let s = (read_as longitude n z h).size_read ∙ ap magnitude_read zero ∙ read_zero in
      let t : lt_z z (pos 0) ≡ false = omega (zarith, size z) in
      rw (t, and_false) at amounts_back

  -- Every notation above zero is returned as it was read, and so is a zero with N or E.
  pub read_then_write : (total n ≡ 0 → n.letter ≡ positive_letter longitude) → write_notation longitude z ≡ values n
  read_then_write positive =
      ⊎_elim (λ e. zero_read_then_write e ∙ ap (λ letter. values (lettered n letter)) (sym (positive e)))
      (λ k. amounts_back ∙ ap (λ letter. values (lettered n letter)) ((read_as longitude n z h).letter_read k))
      (eq-zero-or-pos (total n))

-- A total within the axis's limit, split, is read as its size, on the side of the letter.
read_split : (longitude : Bool) (t letter : ℕ) → t ≤ axis_limit longitude * per_degree
    → read_notation longitude (split t letter) ≡ angle_on (side_of longitude letter) (magnitude_read t)
unfolding split
read_split longitude t letter h =
    rw (read_in_parts, by_total longitude (split t letter) (omega arith) (omega arith), total_split t letter, le-leb _ _ h)

-- The axis's letter by a test is read on its side.
by_letter : (longitude below : Bool) (m : ℕ) →
    let letter = cond below (negative_letter longitude) (positive_letter longitude) in
    angle_on (side_of longitude letter) m ≡ values (cond below (neg_ℤ (pos m)) (pos m))
by_letter true true m = refl
by_letter true false m = refl
by_letter false true m = refl
by_letter false false m = refl

-- The size that is read of an angle's written total, on the side of its letter, is within 1 nd of the angle: with the angle's sign, or 0
-- where the total is zero.
near_written : (z : ℤ) (above below : Bool) → ltb 0 (total_written z) ≡ above → lt_z z (pos 0) ≡ below →
    let m = magnitude_read (total_written z) in
    Near 1 (cond (above && below) (neg_ℤ (pos m)) (pos m)) z
near_written z true true h k = omega (zarith, negated (lit (magnitude_read (total_written z))), size_back z, abs_is (var z))
near_written z true false h k = omega (zarith, size_back z, abs_is (var z))
near_written z false below h k =
    let e : total_written z ≡ 0 = omega zarith in
    omega (zarith, size_back z, size z, ap magnitude_read e ∙ read_zero)

module _ (longitude : Bool) (z : ℤ) (n : Notation) (h : write_notation longitude z ≡ values n) where
  -- What is written is a total with its letter, of an angle within the axis's limit.
  written : (nat_abs z ≤ degrees (axis_limit longitude)) × (n ≡ split (total_written z) (letter_written longitude z))
  unfolding write_notation
  written = let k = asked _ 13 _ n h in (leb-true _ _ k.0, cc)

  -- Zero is never written with S or W.
  pub zero_written : total n ≡ 0 → n.letter ≡ positive_letter longitude
  unfolding split
  zero_written zero =
      let e : total_written z ≡ 0 = sym (total_split _ _) ∙ ap total (sym written.1) ∙ zero in
      ap (λ (k : Notation). k.letter) written.1 ∙ rw e

  -- Every angle that can be written is read again, within 1 nd.
  pub write_then_read : (w : ℤ) × (read_notation longitude n ≡ values w) × (nat_abs (w -ℤ z) ≤ 1)
  write_then_read =
      let most = written_most (axis_limit longitude) z written.0 in
      let below = ltb 0 (total_written z) && lt_z z (pos 0) in
      let read = read_split longitude (total_written z) (letter_written longitude z) most ∙ by_letter longitude below _ in
      (_, ap (read_notation longitude) written.1 ∙ read, near_abs 1 _ z (near_written z _ _ refl refl))
