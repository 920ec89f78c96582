-- Totals in hundred-thousandths of a second and sizes in nd: writing is a left inverse of reading, reading is one of writing but for 1 nd,
-- and total and split are inverse.
use Rattle.std.specs.Prelude.{◌≡◌, refl, ℕ, ◌+◌, ◌*◌, ◌≤◌, ◌<◌, ℤ, nat_abs}
use Rattle.std.proofs.Common.{arith}
use Rattle.rules.specs.declared.Notation.{Notation}
use Rattle.rules.specs.Units.{degrees}
use Rattle.rules.specs.Notation.{per_degree, per_minute, total, magnitude_read, total_written, split}

-- An nd is finer than a hundred-thousandth of a second, so rounding to nd and back keeps the total.
pub total_back : (z : ℤ) (t : ℕ) → nat_abs z ≡ magnitude_read t → total_written z ≡ t
unfolding magnitude_read total_written
total_back z t e = omega arith

-- A hundred-thousandth of a second is less than 3 nd, so rounding to one and back keeps the size within 1 nd.
pub record SizeBack (z : ℤ) : Type 0 where
  pub above : magnitude_read (total_written z) ≤ nat_abs z + 1
  pub below : nat_abs z ≤ magnitude_read (total_written z) + 1

pub size_back : (z : ℤ) → SizeBack z
unfolding magnitude_read total_written
size_back z = record { above = omega arith; below = omega arith }

-- A total within k degrees is read as a size within k degrees.
pub read_most : (k t : ℕ) → t ≤ k * per_degree → magnitude_read t ≤ degrees k
unfolding magnitude_read
read_most k t h = omega arith

-- An angle within k degrees is written as a total within k degrees.
pub written_most : (k : ℕ) (z : ℤ) → nat_abs z ≤ degrees k → total_written z ≤ k * per_degree
unfolding total_written
written_most k z h = omega arith

-- Only a total of zero is read as zero.
pub read_above : {t : ℕ} → 0 < t → 0 < magnitude_read t
unfolding magnitude_read
read_above h = omega arith

pub read_zero : magnitude_read 0 ≡ 0
unfolding magnitude_read
read_zero = refl

-- A notation's amounts with a letter.
abbrev pub lettered : Notation → ℕ → Notation
lettered n letter = record { degrees = n.degrees; minutes = n.minutes; fraction = n.fraction; letter = letter }

-- Two notations are the same by their parts.
pub same_parts : (n k : Notation) → n.degrees ≡ k.degrees → n.minutes ≡ k.minutes → n.fraction ≡ k.fraction
    → n.letter ≡ k.letter → n ≡ k
same_parts n k d m f l = λ i. record { degrees = d i; minutes = m i; fraction = f i; letter = l i }

pub split_total : (n : Notation) (letter : ℕ) → n.minutes < 60 → n.fraction < per_minute → split (total n) letter ≡ lettered n letter
unfolding split total
split_total n letter h k = same_parts _ _ (omega arith) (omega arith) (omega arith) refl

pub total_split : (t letter : ℕ) → total (split t letter) ≡ t
unfolding split total
total_split t letter = omega arith
