-- An integer as a difference of two naturals, so that a goal on ℤ becomes one on ℕ, which `omega` proves.
use Rattle.std.specs.Prelude.{◌≡◌, refl, Bool, true, false, not, cond, ℕ, zero, suc, ◌+◌, ◌*◌, ◌-◌, ◌≤◌, ◌<◌, T, ltb, ℤ, pos, negsuc, neg_ℤ, ◌+ℤ◌, ◌-ℤ◌, ◌*ℤ◌, ◌≤ℤ◌, ◌<ℤ◌}
use Rattle.std.proofs.Common.{ap, subst, arith, ltb→lt, lt→ltb, nltb→le, leb→le, le→leb}
use Rattle.std.proofs.Math.IntN.{sub_ℕ}
use Rattle.std.specs.Int.Signed.{le_z, lt_z}

-- the part above zero, and the part below
abbrev pub up : ℤ → ℕ
up (pos n) = n
up (negsuc n) = 0

abbrev pub down : ℤ → ℕ
down (pos n) = 0
down (negsuc n) = suc n

-- the operations on the parts
sub_by : (a b : ℕ) (t : Bool) → (T t → a < b) → (T (not t) → b ≤ a)
    → up (cond t (negsuc (b - suc a)) (pos (a - b))) + b ≡ a + down (cond t (negsuc (b - suc a)) (pos (a - b)))
sub_by a b true y n = let h : a < b = y tt in omega arith
sub_by a b false y n = let h : b ≤ a = n tt in omega arith

subℕ-parts : (a b : ℕ) → up (sub_ℕ a b) + b ≡ a + down (sub_ℕ a b)
subℕ-parts a b = sub_by a b (ltb a b) (ltb→lt a b) (nltb→le a b)

pub neg_up : (z : ℤ) → up (neg_ℤ z) ≡ down z
neg_up (pos zero) = refl
neg_up (pos (suc n)) = refl
neg_up (negsuc n) = refl

pub neg_down : (z : ℤ) → down (neg_ℤ z) ≡ up z
neg_down (pos zero) = refl
neg_down (pos (suc n)) = refl
neg_down (negsuc n) = refl

pub add_parts : (x y : ℤ) → up (x +ℤ y) + (down x + down y) ≡ up x + up y + down (x +ℤ y)
add_parts (pos a) (pos b) = omega arith
add_parts (pos a) (negsuc b) = omega (arith, subℕ-parts a (suc b))
add_parts (negsuc a) (pos b) = omega (arith, subℕ-parts b (suc a))
add_parts (negsuc a) (negsuc b) = omega arith

pub mul_parts : (x y : ℤ) → up (x *ℤ y) + (up x * down y + down x * up y) ≡ up x * up y + down x * down y + down (x *ℤ y)
mul_parts (pos a) (pos b) = omega arith
mul_parts (pos a) (negsuc b) = omega (arith, neg_up (pos (a * suc b)), neg_down (pos (a * suc b)))
mul_parts (negsuc a) (pos b) = omega (arith, neg_up (pos (suc a * b)), neg_down (pos (suc a * b)))
mul_parts (negsuc a) (negsuc b) = omega arith

-- the order and equality on the parts
le_le : (x y : ℤ) → T (le_z x y) → up x + down y ≤ up y + down x
le_le (pos a) (pos b) t = omega (arith, leb→le a b t)
le_le (pos a) (negsuc b) t = absurd t
le_le (negsuc a) (pos b) t = omega arith
le_le (negsuc a) (negsuc b) t = omega (arith, leb→le b a t)

le_le_z : (x y : ℤ) → up x + down y ≤ up y + down x → T (le_z x y)
le_le_z (pos a) (pos b) h = le→leb a b (omega arith)
le_le_z (pos a) (negsuc b) h = let k : ⊥ = omega arith in absurd k
le_le_z (negsuc a) (pos b) h = tt
le_le_z (negsuc a) (negsuc b) h = le→leb b a (omega arith)

lt_lt : (x y : ℤ) → T (lt_z x y) → up x + down y < up y + down x
lt_lt (pos a) (pos b) t = omega (arith, ltb→lt a b t)
lt_lt (pos a) (negsuc b) t = absurd t
lt_lt (negsuc a) (pos b) t = omega arith
lt_lt (negsuc a) (negsuc b) t = omega (arith, ltb→lt b a t)

lt_lt_z : (x y : ℤ) → up x + down y < up y + down x → T (lt_z x y)
lt_lt_z (pos a) (pos b) h = lt→ltb a b (omega arith)
lt_lt_z (pos a) (negsuc b) h = let k : ⊥ = omega arith in absurd k
lt_lt_z (negsuc a) (pos b) h = tt
lt_lt_z (negsuc a) (negsuc b) h = lt→ltb b a (omega arith)

pub ≤ℤ-parts : (x y : ℤ) → x ≤ℤ y → up x + down y ≤ up y + down x
≤ℤ-parts x y h = le_le x y h.le

pub parts-≤ℤ : (x y : ℤ) → up x + down y ≤ up y + down x → x ≤ℤ y
parts-≤ℤ x y h = record { le = le_le_z x y h }

pub <ℤ-parts : (x y : ℤ) → x <ℤ y → up x + down y < up y + down x
<ℤ-parts x y h = lt_lt x y h.lt

pub parts-<ℤ : (x y : ℤ) → up x + down y < up y + down x → x <ℤ y
parts-<ℤ x y h = record { lt = lt_lt_z x y h }

pub ≡-parts : (x y : ℤ) → x ≡ y → up x + down y ≡ up y + down x
≡-parts x y e = subst (λ (z : ℤ). up x + down z ≡ up z + down x) e refl

pub parts-≡ : (x y : ℤ) → up x + down y ≡ up y + down x → x ≡ y
parts-≡ (pos a) (pos b) e = ap pos (omega arith)
parts-≡ (pos a) (negsuc b) e = let k : ⊥ = omega arith in absurd k
parts-≡ (negsuc a) (pos b) e = let k : ⊥ = omega arith in absurd k
parts-≡ (negsuc a) (negsuc b) e = ap negsuc (omega arith)

-- what `omega` reads and proves on ℤ: the order and equality
pub ruleset order = (≤ℤ-parts, parts-≤ℤ, <ℤ-parts, parts-<ℤ, ≡-parts, parts-≡)

-- a difference form of z: z is hi − lo. Listed to `omega`, it says what z is in the parts of its variables
pub record Difference (z : ℤ) : Type 0 where
  pub hi : ℕ
  pub lo : ℕ
  pub is : up z + lo ≡ hi + down z

abbrev pub var : (z : ℤ) → Difference z
var z = record { hi = up z; lo = down z; is = refl }

-- a natural n, as `pos n`
abbrev pub lit : (n : ℕ) → Difference (pos n)
lit n = record { hi = n; lo = 0; is = omega arith }

abbrev pub negated : {x : ℤ} → Difference x → Difference (neg_ℤ x)
negated {x} d = record { hi = d.lo; lo = d.hi; is = omega (arith, neg_up x, neg_down x, d.is) }

infixl 6 ◌⊕◌
abbrev pub ◌⊕◌ : {x y : ℤ} → Difference x → Difference y → Difference (x +ℤ y)
◌⊕◌ {x} {y} d e = record { hi = d.hi + e.hi; lo = d.lo + e.lo; is = omega (arith, add_parts x y, d.is, e.is) }

infixl 6 ◌⊖◌
abbrev pub ◌⊖◌ : {x y : ℤ} → Difference x → Difference y → Difference (x -ℤ y)
d ⊖ e = d ⊕ negated e

-- the product of a − a' = p − q and b − b' = r − s
pub mul_is : (a a' b b' p q r s : ℕ) → a + q ≡ p + a' → b + s ≡ r + b'
    → a * b + a' * b' + (p * s + q * r) ≡ p * r + q * s + (a * b' + a' * b)
mul_is a a' b b' p q r s h k =
    omega (arith, ap (λ n. n * b) h, ap (λ n. n * b') h, ap (λ n. p * n) k, ap (λ n. q * n) k)

infixl 7 ◌⊗◌
abbrev pub ◌⊗◌ : {x y : ℤ} → Difference x → Difference y → Difference (x *ℤ y)
◌⊗◌ {x} {y} d e =
    let product = mul_is (up x) (down x) (up y) (down y) d.hi d.lo e.hi e.lo d.is e.is in
    record {
      hi = d.hi * e.hi + d.lo * e.lo;
      lo = d.hi * e.lo + d.lo * e.hi;
      is = omega (arith, mul_parts x y, product);
    }
