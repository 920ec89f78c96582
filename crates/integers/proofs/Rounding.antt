-- Division of an integer by a natural above zero, rounded down, and the exact quotient plus one half, rounded down.
use Rattle.std.specs.Prelude.{◌≡◌, ℕ, ◌+◌, ◌*◌, ◌≤◌, ◌<◌, ℤ, pos, negsuc, nat_abs, ◌+ℤ◌, ◌*ℤ◌}
use Rattle.std.proofs.Math.Nat.{mul-div-le, lt-mul-div-succ, lt_of_mul-lt-mul_left, mul-lt-mul_of_pos_left}
use Rattle.std.proofs.Common.{mul-pos, mul-le-mul_left, arith}
use Rattle.integers.specs.Difference.{up, down, order, var, lit, ◌⊕◌, ◌⊗◌}
use Rattle.integers.specs.Distance.{Near, abs_is}
use Rattle.integers.specs.Rounding.{Floor, Round, floor_div, round_half_up}

pub floor_of : (z : ℤ) (d : ℕ) → 0 < d → Floor d z (floor_div z d)
floor_of (pos a) d h = omega (arith, mul-div-le a d, lt-mul-div-succ a h)
floor_of (negsuc a) d h = omega (arith, mul-div-le a d, lt-mul-div-succ a h)

-- z' is at most d·m above z, so its quotient is at most m above
pub floor_step : {d : ℕ} {z z' q q' : ℤ} (m : ℕ) → Floor d z q → Floor d z' q'
    → up z' + down z ≤ up z + down z' + d * m → up q' + down q ≤ up q + down q' + m
floor_step {d} {z} {z'} {q} {q'} m f g h =
    let k : up q' + down q < up q + down q' + m + 1 = lt_of_mul-lt-mul_left d (omega arith) in
    omega arith

floor_near : {d : ℕ} {z z' q q' : ℤ} (m : ℕ) → Floor d z q → Floor d z' q' → Near (d * m) z z' → Near m q q'
floor_near m f g n = omega (arith, floor_step m f g (omega arith), floor_step m g f (omega arith))

pub floor_unique : {d : ℕ} {z q q' : ℤ} → Floor d z q → Floor d z q' → q ≡ q'
floor_unique {d} {z} {q} {q'} f g = omega (arith, order, floor_step 0 f g (omega arith), floor_step 0 g f (omega arith))

pub floor_div_is : {d : ℕ} {z q : ℤ} → 0 < d → Floor d z q → floor_div z d ≡ q
floor_div_is {d} {z} h f = floor_unique (floor_of z d h) f

to_floor : (den : ℕ) (num r : ℤ) → Round den num r → Floor (2 * den) (pos 2 *ℤ num +ℤ pos den) r
to_floor den num r f = omega (arith, lit 2 ⊗ var num ⊕ lit den)

of_floor : (den : ℕ) (num r : ℤ) → Floor (2 * den) (pos 2 *ℤ num +ℤ pos den) r → Round den num r
of_floor den num r f = omega (arith, lit 2 ⊗ var num ⊕ lit den)

pub round_of : (num : ℤ) (den : ℕ) → 0 < den → Round den num (round_half_up num den)
unfolding round_half_up
round_of num den h = of_floor den num _ (floor_of (pos 2 *ℤ num +ℤ pos den) (2 * den) (omega arith))

pub round_is : {num r : ℤ} {den : ℕ} → 0 < den → Round den num r → round_half_up num den ≡ r
unfolding round_half_up
round_is {num} {r} {den} h f = floor_div_is (omega arith) (to_floor den num r f)

pub round_close : (num num' : ℤ) (den m : ℕ) → 0 < den → Near (den * m) num num' → Near m (round_half_up num den) (round_half_up num' den)
round_close num num' den m h n =
    let f = round_of num den h in
    let g = round_of num' den h in
    floor_near m (to_floor den num _ f) (to_floor den num' _ g) (omega (arith, lit 2 ⊗ var num ⊕ lit den, lit 2 ⊗ var num' ⊕ lit den))

-- A quotient is rounded the same after both its numbers are multiplied.
pub round_times : (num : ℤ) (den k : ℕ) → 0 < den → 0 < k → round_half_up (num *ℤ pos k) (k * den) ≡ round_half_up num den
round_times num den k d l =
    let r = round_of num den d in
    let f = var num ⊗ lit k in
    let low = mul-le-mul_left k r.low in
    let high = mul-lt-mul_of_pos_left r.high l in
    round_is (mul-pos l d) (omega arith)

pub round_zero : (den : ℕ) → 0 < den → round_half_up (pos 0) den ≡ pos 0
round_zero den h = round_is h (omega arith)

pub round_bound : (num : ℤ) (den M : ℕ) → 0 < den → nat_abs num ≤ den * M → nat_abs (round_half_up num den) ≤ M
round_bound num den M h k =
    let n : Near M (round_half_up num den) (round_half_up (pos 0) den) = round_close num (pos 0) den M h (omega (arith, abs_is (var num))) in
    omega (arith, abs_is (var (round_half_up num den)), rw (round_zero den h) at n)
