-- Signed machine integers on the parts: ranges, tests, and what the machine reads back from a number's bits.
use Rattle.std.specs.Prelude.{◌≡◌, refl, Bool, true, false, not, ℕ, suc, ◌+◌, ◌^◌, ◌≤◌, ◌<◌, max, T, ℤ, pos, negsuc, neg_ℤ, nat_abs, ◌+ℤ◌, ◌-ℤ◌}
use Rattle.std.proofs.Common.{sym, subst, ◌∙◌, arith, to_z-of_z, ltb-true, ltb-false, leb-true, leb-false, lt-ltb, le-ltb, le-leb, eqb-true, eq-eqb, ne_eqb}
use Rattle.std.proofs.Math.Dec.{nleb→lt}
use Rattle.std.specs.Int.Signed.{mag, non_neg, le_z, lt_z, le_z_yes, lt_z_yes, lt_z_no}
use Rattle.std.specs.Int.{Width, w64}
use mir.Val.{SFits, to_z, of_z, hbits}
use Rattle.std.proofs.Math.Facts.{to_z_pos}
use Rattle.std.proofs.lemmas.Bool.{lt-leb, eqb-false}
use Rattle.integers.specs.Difference.{up, down, order, ≤ℤ-parts, <ℤ-parts, parts-≤ℤ, parts-<ℤ}
use Rattle.integers.specs.Difference.{Difference, var, lit, negated, ◌⊕◌, ◌⊖◌}
use Rattle.integers.specs.Distance.{size}

-- A range for `omega` to find by itself: with no case to split, it does not exclude the number 2 ^ hbits, one above the range
pub sfits_parts : (w : Width) (z : ℤ) → SFits w z → up z + down z ≤ 2 ^ hbits w
sfits_parts w (pos n) f = omega (arith, f.sfits)
sfits_parts w (negsuc n) f = omega (arith, f.sfits)

-- the exact range, to be listed where that number matters: `range c.fits.x`
pub record Range (w : Width) (z : ℤ) : Type 0 where
  pub above : up z < 2 ^ hbits w
  pub below : down z ≤ 2 ^ hbits w
  pub both : up z + down z ≤ 2 ^ hbits w

pub range : {w : Width} {z : ℤ} → SFits w z → Range w z
range {w} {z = pos n} f = omega (arith, f.sfits)
range {w} {z = negsuc n} f = omega (arith, f.sfits)

pub parts_sfits : (w : Width) (z : ℤ) → max (down z + down z) (suc (up z + up z)) ≤ 2 ^ hbits w + (up z + down z) → SFits w z
parts_sfits w (pos n) h = record { sfits = omega arith }
parts_sfits w (negsuc n) h = record { sfits = omega arith }

-- ---- a test's outcome, from a branch that was taken or not, and for a clause
by_true : {P : Type 0} (b : Bool) → (T b → P) → b ≡ true → P
by_true b f e = f (subst T (sym e) tt)

by_false : {P : Type 0} (b : Bool) → (T (not b) → P) → b ≡ false → P
by_false b f e = f (subst (λ (t : Bool). T (not t)) (sym e) tt)

to_true : (b : Bool) → T b → b ≡ true
to_true true t = refl
to_true false t = absurd t

to_false : (b : Bool) → (T b → ⊥) → b ≡ false
to_false true f = absurd (f tt)
to_false false f = refl

not_le : (x y : ℤ) → T (not (le_z x y)) → up y + down x < up x + down y
not_le (pos a) (pos b) t = omega (arith, nleb→lt a b t)
not_le (pos a) (negsuc b) t = omega arith
not_le (negsuc a) (pos b) t = absurd t
not_le (negsuc a) (negsuc b) t = omega (arith, nleb→lt b a t)

pub lt_z_true : (x y : ℤ) → lt_z x y ≡ true → up x + down y < up y + down x
lt_z_true x y = by_true (lt_z x y) (λ t. <ℤ-parts x y (lt_z_yes t))

pub lt_z_false : (x y : ℤ) → lt_z x y ≡ false → up y + down x ≤ up x + down y
lt_z_false x y = by_false (lt_z x y) (λ t. ≤ℤ-parts y x (lt_z_no t))

pub le_z_true : (x y : ℤ) → le_z x y ≡ true → up x + down y ≤ up y + down x
le_z_true x y = by_true (le_z x y) (λ t. ≤ℤ-parts x y (le_z_yes t))

pub le_z_false : (x y : ℤ) → le_z x y ≡ false → up y + down x < up x + down y
le_z_false x y = by_false (le_z x y) (not_le x y)

pub is_lt_z : (x y : ℤ) → up x + down y < up y + down x → lt_z x y ≡ true
is_lt_z x y h = to_true (lt_z x y) (parts-<ℤ x y h).lt

pub not_lt_z : (x y : ℤ) → up y + down x ≤ up x + down y → lt_z x y ≡ false
not_lt_z x y h = to_false (lt_z x y) (λ t. let k = <ℤ-parts x y (lt_z_yes t) in omega arith)

pub is_le_z : (x y : ℤ) → up x + down y ≤ up y + down x → le_z x y ≡ true
is_le_z x y h = to_true (le_z x y) (parts-≤ℤ x y h).le

pub not_le_z : (x y : ℤ) → up y + down x < up x + down y → le_z x y ≡ false
not_le_z x y h = to_false (le_z x y) (λ t. let k = ≤ℤ-parts x y (le_z_yes t) in omega arith)

-- not negative, as a cast to an unsigned type requires
pub is_non_neg : (z : ℤ) → down z ≤ up z → T (non_neg z)
is_non_neg (pos n) h = tt
is_non_neg (negsuc n) h = let k : ⊥ = omega arith in absurd k

-- the tests of integers, and those of naturals
pub ruleset signed-tests = (lt_z_true, lt_z_false, le_z_true, le_z_false, is_lt_z, not_lt_z, is_le_z, not_le_z, is_non_neg)

pub ruleset natural-tests = (ltb-true, ltb-false, leb-true, leb-false, lt-ltb, le-ltb, le-leb, lt-leb, eqb-true, eqb-false, eq-eqb, ne_eqb)

-- all that `omega` reads and proves on ℤ: equality, order, ranges and tests
pub ruleset zarith = (arith, order, sfits_parts, parts_sfits, signed-tests, natural-tests)

-- ---- what the machine reads back from bits, as difference forms
-- of the bits of a number that fits, the number
abbrev pub read_back_lem : {w : Width} {z : ℤ} → SFits w z → Difference z → Difference (to_z w (of_z w z))
read_back_lem {w} {z} f d = record { hi = d.hi; lo = d.lo; is = subst (λ (y : ℤ). up y + d.lo ≡ d.hi + down y) (sym (to_z-of_z f)) d.is }

-- the same of a parameter: `read_parameter c.fits.x`
abbrev pub read_parameter : {w : Width} {z : ℤ} → SFits w z → Difference (to_z w (of_z w z))
read_parameter {w} {z} f = read_back_lem f (var z)

-- the same of the signed result of a call: `read_result w64 c.f.result c.f.ok`
abbrev pub read_result : (w : Width) (z : ℤ) → mag z < 2 ^ hbits w → Difference (to_z w (of_z w z))
read_result w z h = read_back_lem (record { sfits = h }) (var z)

-- an unsigned number in the lower half, cast to a signed type
abbrev pub read_cast : (w : Width) (n : ℕ) → n < 2 ^ hbits w → Difference (to_z w n)
read_cast w n h = record { hi = n; lo = 0; is = subst (λ (y : ℤ). up y + 0 ≡ n + down y) (sym (to_z_pos w h)) refl }

-- the negative of what is a natural number in the lower half
module _ (w : Width) {z : ℤ} {n : ℕ} (e : z ≡ pos n) (h : n < 2 ^ hbits w) where
  pub minus_fits : SFits w (pos 0 -ℤ z)
  minus_fits = omega (zarith, lit 0 ⊖ var z)

  pub minus_back : to_z w (of_z w (pos 0 -ℤ z)) ≡ neg_ℤ (pos n)
  minus_back = omega (zarith, read_back_lem minus_fits (lit 0 ⊖ var z), negated (lit n))

-- A test of two signed numbers that fit, as the code makes it on their bits, on the numbers themselves.
pub plain_le : {w : Width} {x y : ℤ} → SFits w x → SFits w y → {b : Bool} → le_z (to_z w (of_z w x)) (to_z w (of_z w y)) ≡ b → le_z x y ≡ b
plain_le fx fy e = simp (to_z-of_z fx, to_z-of_z fy) at e

-- the signed result z of a call: `reads_back w64 c.f.result c.f.ok`
pub reads_back : (w : Width) (z : ℤ) → mag z < 2 ^ hbits w → to_z w (of_z w z) ≡ z
reads_back w z h = to_z-of_z (record { sfits = h })

-- and what the call ensures of it: `told w64 c.f.ok c.f.ensures`
pub told : (w : Width) {z y : ℤ} → mag z < 2 ^ hbits w → z ≡ y → to_z w (of_z w z) ≡ y
told w {z} h e = reads_back w z h ∙ e

-- ---- an operation on two parameters: that it fits, as the machine requires, and what it gives, from the range of the plain result
module _ {w : Width} {x y : ℤ} (fx : SFits w x) (fy : SFits w y) where
  pub add_fits : SFits w (x +ℤ y) → SFits w (to_z w (of_z w x) +ℤ to_z w (of_z w y))
  add_fits f = simp (to_z-of_z fx, to_z-of_z fy) f

  pub add_back : SFits w (x +ℤ y) → to_z w (of_z w (to_z w (of_z w x) +ℤ to_z w (of_z w y))) ≡ x +ℤ y
  add_back f = simp (to_z-of_z fx, to_z-of_z fy, to_z-of_z f)

  pub sub_fits : SFits w (x -ℤ y) → SFits w (to_z w (of_z w x) -ℤ to_z w (of_z w y))
  sub_fits f = simp (to_z-of_z fx, to_z-of_z fy) f

  pub sub_back : SFits w (x -ℤ y) → to_z w (of_z w (to_z w (of_z w x) -ℤ to_z w (of_z w y))) ≡ x -ℤ y
  sub_back f = simp (to_z-of_z fx, to_z-of_z fy, to_z-of_z f)

-- Sums and differences of numbers within 10^18 of zero fit 64 bits, and are read back as they are.
small_fits : (x : ℤ) → nat_abs x ≤ 1000000000000000000 → SFits w64 x
small_fits x h = omega (zarith, size x)

module _ (x y : ℤ) (h : nat_abs x ≤ 1000000000000000000) (k : nat_abs y ≤ 1000000000000000000) where
  sum_small : SFits w64 (x +ℤ y)
  sum_small = omega (zarith, var x ⊕ var y, size x, size y)

  difference_small : SFits w64 (x -ℤ y)
  difference_small = omega (zarith, var x ⊖ var y, size x, size y)

  pub sum_fits : SFits w64 (to_z w64 (of_z w64 x) +ℤ to_z w64 (of_z w64 y))
  sum_fits = add_fits (small_fits x h) (small_fits y k) sum_small

  pub sum_back : to_z w64 (of_z w64 (to_z w64 (of_z w64 x) +ℤ to_z w64 (of_z w64 y))) ≡ x +ℤ y
  sum_back = add_back (small_fits x h) (small_fits y k) sum_small

  pub difference_fits : SFits w64 (to_z w64 (of_z w64 x) -ℤ to_z w64 (of_z w64 y))
  difference_fits = sub_fits (small_fits x h) (small_fits y k) difference_small

  pub difference_back : to_z w64 (of_z w64 (to_z w64 (of_z w64 x) -ℤ to_z w64 (of_z w64 y))) ≡ x -ℤ y
  difference_back = sub_back (small_fits x h) (small_fits y k) difference_small
