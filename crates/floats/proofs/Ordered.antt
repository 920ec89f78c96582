-- Floats of one sign stand in the order of their bits. So where one of them is the largest that is within a limit, with either sign, a
-- float is finite and within the limit exactly where its bits without the sign are at most those (ordered-passes).
use mathlib.Core.Bool.{Bool, true, false, not, cond, ◌&&◌}
use mathlib.Core.Path.{◌≡◌, refl, ap, ◌∙◌}
use Prim.Native.Nat.{ℕ, zero, suc, ◌+◌, ◌-◌, ◌*◌, ◌%◌, ◌^◌, ◌≤◌, ◌<◌, max}
use native.Mathlib.Nat.{mod-lt, mod-eq_of_lt, mul-le-mul, mul-le-mul_left, mul-le-mul_right, le-div_iff_mul-le, mul-div-le, le_trans}
use native.Mathlib.Omega.{arith}
use lib.Dec.{eqb, ltb, leb}
use lib.Pow.{pow_pos, pow-add, pow_mono, shr_mono, mod-pow-add, field}
use borrow.Author.Tests.{ltb-true, ltb-false, leb-true, leb-false, lt-ltb, le-leb, lt-leb, ne_eqb, not-true}
use Rattle.integers.specs.Booleans.{and_left, and_right, and_both, and_false, all_three}
use Rattle.rules.specs.declared.FloatFormat.{FloatFormat}
use Rattle.rules.specs.declared.Scale.{Scale}
use Rattle.rules.specs.Units.{within}
use Rattle.rules.specs.Floats.{exponent_of, negative, finite, mantissa, power, bias, value_of, nearest}
use Rattle.floats.specs.Sizes.{rounded_size}
use Rattle.floats.specs.Turned.{without_sign}
use Rattle.floats.proofs.Widths.{under_pos, size_signed, nearest_signed}

-- ---- the top of a float's fraction grows with its exponent, and with the bits of its fraction

-- of exponent e and fraction x, where d is the leading one
abbrev top_of : (d e x : ℕ) → ℕ
top_of d e x = cond (eqb e 0) x (d + x) * 2 ^ max 1 e

-- both above exponent 0; t and u say whether e is below e' and above it
both_normal : (t u : Bool) (d e x e' x' : ℕ) → ltb e e' ≡ t → ltb e' e ≡ u → x < d → x' < d → e * d + x ≤ e' * d + x'
    → (d + x) * 2 ^ e ≤ (d + x') * 2 ^ e'
both_normal true u d e x e' x' p q h k l =
    let w = rw (pow-add 2 e 1) at (pow_mono {i = e + 1} {j = e'} (omega (arith, ltb-true e e' p))) in
    let low = mul-le-mul_right {m = d + x} {n = 2 * d} (2 ^ e) (omega arith) in
    omega (arith, low, mul-le-mul_left d w)
both_normal false true d e x e' x' p q h k l =
    let w = mul-le-mul_right {m = e' + 1} {n = e} d (omega (arith, ltb-true e' e q)) in
    absurd (omega (arith, w))
both_normal false false d e x e' x' p q h k l =
    let same : e ≡ e' = omega (arith, ltb-false e e' p, ltb-false e' e q) in
    let less : x ≤ x' = omega (arith, ap (λ n. n * d) same) in
    rw same (mul-le-mul_right (2 ^ e') (omega arith))

not_zero : (e : ℕ) → eqb (suc e) 0 ≡ false
not_zero e = ne_eqb (suc e) 0 (λ z. omega arith)

ordered : (d e x e' x' : ℕ) → x < d → x' < d → e * d + x ≤ e' * d + x' → top_of d e x ≤ top_of d e' x'
ordered d zero x zero x' h k l = mul-le-mul_right 2 (omega arith)
ordered d zero x (suc e') x' h k l =
    let m : max 1 (suc e') ≡ suc e' = omega arith in
    let least : x ≤ d + x' = omega arith in
    rw (not_zero e', m) (mul-le-mul least (pow_mono {i = 1} {j = suc e'} (omega arith)))
ordered d (suc e) x zero x' h k l = absurd (omega arith)
ordered d (suc e) x (suc e') x' h k l =
    let m : max 1 (suc e) ≡ suc e = omega arith in
    let m' : max 1 (suc e') ≡ suc e' = omega arith in
    rw (not_zero e, not_zero e', m, m') (both_normal (ltb (suc e) (suc e')) (ltb (suc e') (suc e)) d (suc e) x (suc e') x' refl refl h k l)

-- ---- and with it the size of the rounded number

size_grows : (minus : Bool) (a a' b : ℕ) → 0 < b → a ≤ a' → rounded_size minus a b ≤ rounded_size minus a' b
unfolding rounded_size
size_grows minus a a' b h l =
    let r = cond minus (b - 1) b in
    (le-div_iff_mul-le {k = 2 * b} (omega arith)).1 (omega (arith, mul-div-le (2 * a + r) (2 * b)))

-- ---- a float by its bits without the sign

module _ (f : FloatFormat) (s : Scale) where
  -- the size of a float's nearest number, were it of this sign
  abbrev pub size_with : (minus : Bool) (bits : ℕ) → ℕ
  size_with minus bits = rounded_size minus (mantissa f bits * 2 ^ power f bits * s.over) (2 ^ (bias f + f.fraction) * s.under)

  -- the largest float that is within the limit, with either sign
  pub record LargestWithin (limit most : ℕ) : Type 0 where
    pub under_least : 0 < s.under
    pub unsigned_next : most + 1 < 2 ^ (f.exponent + f.fraction)
    pub finite_most : finite f most ≡ true
    pub within_most : (minus : Bool) → leb (size_with minus most) limit ≡ true
    pub beyond_next : (minus : Bool) → leb (size_with minus (most + 1)) limit ≡ false

  -- All of that as one test, which the checker computes for a given float.
  abbrev with_both : (Bool → Bool) → Bool
  with_both t = t false && t true

  unfoldable pub is_largest : (limit most : ℕ) → Bool
  is_largest limit most =
      (ltb 0 s.under && (ltb (most + 1) (2 ^ (f.exponent + f.fraction)) && finite f most))
      && (with_both (λ minus. leb (size_with minus most) limit) && with_both (λ minus. not (leb (size_with minus (most + 1)) limit)))

  with_each : (t : Bool → Bool) → with_both t ≡ true → (minus : Bool) → t minus ≡ true
  with_each t h false = and_left (t false) (t true) h
  with_each t h true = and_right (t false) (t true) h

  pub largest_computed : (limit most : ℕ) → is_largest limit most ≡ true → LargestWithin limit most
  unfolding is_largest
  largest_computed limit most h =
      let float = ltb 0 s.under && (ltb (most + 1) (2 ^ (f.exponent + f.fraction)) && finite f most) in
      let within : Bool → Bool = λ minus. leb (size_with minus most) limit in
      let beyond : Bool → Bool = λ minus. not (leb (size_with minus (most + 1)) limit) in
      let k = and_right float (with_both within && with_both beyond) h in
      let t = all_three (ltb 0 s.under) (ltb (most + 1) (2 ^ (f.exponent + f.fraction))) (finite f most)
      (and_left float (with_both within && with_both beyond) h) in
      record {
        under_least = ltb-true 0 s.under t.0;
        unsigned_next = ltb-true (most + 1) (2 ^ (f.exponent + f.fraction)) t.1;
        finite_most = t.2;
        within_most = with_each within (and_left (with_both within) (with_both beyond) k);
        beyond_next = λ minus. not-true _ (with_each beyond (and_right (with_both within) (with_both beyond) k) minus);
      }

  module _ (u : 0 < s.under) where
    in_order : (minus : Bool) (a b : ℕ) → without_sign f a ≤ without_sign f b → size_with minus a ≤ size_with minus b
    in_order minus a b h =
        let d = pow_pos f.fraction in
        let parts = rw (mod-pow-add a f.exponent f.fraction, mod-pow-add b f.exponent f.fraction) at h in
        let tops = ordered (2 ^ f.fraction) _ _ _ _ (mod-lt a d) (mod-lt b d) parts in
        size_grows minus _ _ _ (under_pos (bias f + f.fraction) u) (mul-le-mul_right s.over tops)

    exponents : (a b : ℕ) → without_sign f a ≤ without_sign f b → exponent_of f a ≤ exponent_of f b
    exponents a b h = rw (field a f.exponent f.fraction, field b f.exponent f.fraction) at (shr_mono f.fraction h)

  module _ (limit most : ℕ) (l : LargestWithin limit most) (bits : ℕ) where
    abbrev minus : Bool
    minus = negative f bits

    within_is : within limit (nearest s (value_of f bits)) ≡ leb (size_with minus bits) limit
    within_is = rw (nearest_signed f s bits l.under_least, size_signed minus _)

    passes : (t : Bool) → leb (without_sign f bits) most ≡ t → (finite f bits && within limit (nearest s (value_of f bits))) ≡ t
    passes true h =
        let e = mod-eq_of_lt {n = most} {m = 2 ^ (f.exponent + f.fraction)} (omega (arith, l.unsigned_next)) in
        let o : without_sign f bits ≤ without_sign f most = rw e (leb-true _ _ h) in
        let size = in_order l.under_least minus bits most o in
        let fin = lt-ltb (exponent_of f bits + 1) (2 ^ f.exponent)
        (omega (arith, exponents l.under_least bits most o, ltb-true (exponent_of f most + 1) (2 ^ f.exponent) l.finite_most)) in
        and_both fin (within_is ∙ le-leb (size_with minus bits) limit (le_trans size (leb-true _ _ (l.within_most minus))))
    passes false h =
        let e = mod-eq_of_lt l.unsigned_next in
        let o : without_sign f (most + 1) ≤ without_sign f bits = rw e (omega (arith, leb-false (without_sign f bits) most h)) in
        let size = in_order l.under_least minus (most + 1) bits o in
        let next = leb-false (size_with minus (most + 1)) limit (l.beyond_next minus) in
        let far = lt-leb (size_with minus bits) limit (omega (arith, size, next)) in
        rw (within_is, far) (and_false (finite f bits))

    pub ordered_passes : (finite f bits && within limit (nearest s (value_of f bits))) ≡ leb (without_sign f bits) most
    ordered_passes = passes (leb (without_sign f bits) most) refl
