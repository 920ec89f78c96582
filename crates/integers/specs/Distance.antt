-- |x − y| ≤ k, of two integers and a natural.
use Rattle.std.specs.Prelude.{◌≡◌, refl, ℕ, suc, ◌+◌, ◌*◌, ◌≤◌, max, ℤ, pos, negsuc, nat_abs, ◌+ℤ◌, ◌-ℤ◌, ◌*ℤ◌}
use Rattle.std.proofs.Common.{mul-le-mul, arith}
use Rattle.integers.specs.Difference.{up, down, Difference, var, lit, negated, ◌⊕◌, ◌⊖◌}

-- The two bounds are on the parts, so `omega` reads and proves them with nothing listed; `near_abs` and `abs_near` say that they are
-- |x − y| ≤ k.
pub record Near (k : ℕ) (x y : ℤ) : Type 0 where
  pub above : up x + down y ≤ up y + down x + k
  pub below : up y + down x ≤ up x + down y + k

-- the absolute value on the parts: what a bound on it says
pub size : (z : ℤ) → nat_abs z ≡ up z + down z
size (pos n) = omega arith
size (negsuc n) = omega arith

one_part : (z : ℤ) → max (up z + up z) (down z + down z) ≡ (up z + down z) + (up z + down z)
one_part (pos n) = omega arith
one_part (negsuc n) = omega arith

-- the absolute value from any difference form, |hi − lo|: what proves a bound on it
pub abs_is : {z : ℤ} (d : Difference z) → nat_abs z + (d.hi + d.lo) ≡ max (d.hi + d.hi) (d.lo + d.lo)
abs_is {z} d = omega (arith, size z, one_part z, d.is)

pub near_abs : (k : ℕ) (x y : ℤ) → Near k x y → nat_abs (x -ℤ y) ≤ k
near_abs k x y h = omega (arith, abs_is (var x ⊖ var y))

pub abs_near : (k : ℕ) (x y : ℤ) → nat_abs (x -ℤ y) ≤ k → Near k x y
abs_near k x y h = omega (arith, abs_is (var x ⊖ var y))

pub near_sym : {k : ℕ} {x y : ℤ} → Near k x y → Near k y x
near_sym h = omega arith

pub near_trans : {j k : ℕ} {x y z : ℤ} → Near j x y → Near k y z → Near (j + k) x z
near_trans h k = omega arith

pub near_mono : {j k : ℕ} {x y : ℤ} → j ≤ k → Near j x y → Near k x y
near_mono l h = omega arith

-- ---- the absolute value

pub abs_add : (x y : ℤ) → nat_abs (x +ℤ y) ≤ nat_abs x + nat_abs y
abs_add x y = omega (arith, abs_is (var x ⊕ var y), abs_is (var x), abs_is (var y))

pub abs_mul : (x y : ℤ) → nat_abs (x *ℤ y) ≡ nat_abs x * nat_abs y
abs_mul (pos a) (pos b) = refl
abs_mul (pos a) (negsuc b) = omega (arith, abs_is (negated (lit (a * suc b))))
abs_mul (negsuc a) (pos b) = omega (arith, abs_is (negated (lit (suc a * b))))
abs_mul (negsuc a) (negsuc b) = refl

pub abs-mul-≤ : {A B : ℕ} (x y : ℤ) → nat_abs x ≤ A → nat_abs y ≤ B → nat_abs (x *ℤ y) ≤ A * B
abs-mul-≤ x y h k = rw (abs_mul x y) (mul-le-mul h k)
