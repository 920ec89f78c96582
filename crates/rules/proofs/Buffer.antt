-- The lent buffer of a grid file's conversion: while its parts are written one after another, and where an image has them.
use mathlib.Core.List.{List, [], ◌++◌, append_assoc, append-nil}
use mathlib.Core.Bool.{true, false}
use mathlib.Core.Logic.{⊎_elim}
use mathlib.Core.Path.{◌≡◌, refl, sym, ap, ap₂, ◌∙◌}
use Prim.Native.Nat.{ℕ, zero, suc, ◌+◌, ◌*◌, ◌/◌, ◌%◌, ◌≤◌, ◌<◌}
use native.Mathlib.Nat.{div-div-eq-div-mul, eq-or-lt_of_le, le_of_suc-le-suc, mod-eq_of_lt, mul-zero, not-suc-le-zero}
use native.Mathlib.Numerals.{add-one}
use native.Mathlib.Omega.{arith}
use lib.Dec.{ltb}
use lib.IntN.{ℤ, pos, negsuc, nat_abs}
use lib.ListN.{length, take, length-append}
use lib.Seq.{take_all, get_or-append_seam, get_or-append-add}
use Rattle.integers.specs.Difference.{lit, ◌⊖◌}
use Rattle.integers.specs.Machine.{zarith}
use Rattle.rules.specs.Image.{twos_complement, i32_at}
use Rattle.rules.specs.Files.{bits_of, bytes_of, in_sequence}
use Rattle.rules.proofs.Lent.{front}

-- ---- parts of one size, one after another

module _ (size : ℕ) (part : ℕ → List ℕ) where
  -- The first n are written.
  pub Written : (buffer : List ℕ) → ℕ → Type 0
  Written buffer n = take (size * n) buffer ≡ in_sequence part n

  pub written_none : (buffer : List ℕ) (n : ℕ) → n ≡ 0 → Written buffer n
  unfolding Written in_sequence
  written_none buffer n e = rw (e, mul-zero)

  -- One more, v, at the front of what was lent on.
  pub written_more : (buffer lent v rest post : List ℕ) (n : ℕ) → length v ≡ size → size * n ≤ length buffer → lent ≡ v ++ rest → v ≡ part n
      → Written buffer n → Written (take (size * n) buffer ++ (lent ++ post)) (n + 1)
  unfolding Written in_sequence
  written_more buffer lent v rest post n s l e r w =
      let k : size * (n + 1) ≡ size * n + length v = omega (arith, s) in
      rw (k, e, front buffer v rest post (size * n) l, w, r, add-one)

  pub written_all : (buffer : List ℕ) (n : ℕ) → length buffer ≡ size * n → Written buffer n → buffer ≡ in_sequence part n
  unfolding Written
  written_all buffer n h w = sym (take_all (size * n) buffer (omega arith)) ∙ w

  -- Part n stands after the parts before it.
  pub first_parts_long : (n : ℕ) → ((i : ℕ) → i < n → length (part i) ≡ size) → length (in_sequence part n) ≡ size * n
  unfolding in_sequence
  first_parts_long zero s = omega arith
  first_parts_long (suc n) s = rw length-append (omega (arith, first_parts_long n (λ i l. s i (omega arith)), s n (omega arith)))

  pub parts_long : ((n : ℕ) → length (part n) ≡ size) → (n : ℕ) → length (in_sequence part n) ≡ size * n
  parts_long s n = first_parts_long n (λ i l. s i)

  pub part_among : (count n : ℕ) → n < count → (rest : List ℕ) × (in_sequence part count ≡ in_sequence part n ++ (part n ++ rest))
  unfolding in_sequence
  part_among zero n l = absurd (not-suc-le-zero l)
  part_among (suc m) n l =
      ⊎_elim (λ e. ([], rw (append-nil (part n)) (ap (λ k. in_sequence part k ++ part k) (sym e))))
      (λ k. let r = part_among m n k in (r.0 ++ part m, rw r.1 (simp append_assoc)))
      (eq-or-lt_of_le (le_of_suc-le-suc l))

-- The same parts are the same in sequence.
pub parts_same : (n : ℕ) {part other : ℕ → List ℕ} → ((i : ℕ) → i < n → part i ≡ other i) → in_sequence part n ≡ in_sequence other n
unfolding in_sequence
parts_same zero e = refl
parts_same (suc n) e = ap₂ ◌++◌ (parts_same n (λ i l. e i (omega arith))) (e n (omega arith))

-- ---- the four bytes of a number

-- Its four bytes give a number of 32 bits again.
bytes_back : (n : ℕ) → n < 4294967296 → n % 256 + 256 * (n / 256 % 256) + 65536 * (n / 65536 % 256) + 16777216 * (n / 16777216 % 256) ≡ n
bytes_back n h =
    let top : n / 16777216 < 256 = omega arith in
    omega (arith, div-div-eq-div-mul n 256 256, div-div-eq-div-mul n 65536 256, mod-eq_of_lt top)

bits_fit : (z : ℤ) → nat_abs z < 2147483648 → bits_of z < 4294967296
bits_fit (pos n) h = omega arith
bits_fit (negsuc n) h = omega arith

bits_back : (z : ℤ) → nat_abs z < 2147483648 → twos_complement 2147483648 (bits_of z) ≡ z
bits_back (pos n) h = let t : ltb n 2147483648 ≡ true = omega zarith in rw t
bits_back (negsuc n) h =
    let bits = bits_of (negsuc n) in
    let t : ltb bits 2147483648 ≡ false = omega zarith in
    rw t (omega (zarith, lit bits ⊖ lit 4294967296))

-- An image that has them anywhere reads the number there.
pub bytes_read : (before after : List ℕ) (z : ℤ) → nat_abs z < 2147483648 → i32_at (before ++ (bytes_of z ++ after)) (length before) ≡ z
unfolding i32_at
bytes_read before after z h =
    let byte = get_or-append-add before (bytes_of z ++ after) in
    rw (get_or-append_seam, byte 1 0, byte 2 0, byte 3 0, bytes_back (bits_of z) (bits_fit z h)) (bits_back z h)
