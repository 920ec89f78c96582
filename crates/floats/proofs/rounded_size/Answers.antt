-- `floats::rounded_size` meets its contract. All fits: with over at most 10^9 the lower part is at most 2 × (2^32 − 1) × 10^9, below 2^63,
-- and the upper part at most 2 × 2^21 × 10^9; each division makes its number no larger.
use mathlib.Core.Bool.{cond}
use mathlib.Core.Path.{◌≡◌, ◌∙◌}
use Prim.Native.Nat.{◌+◌, ◌-◌, ◌*◌, ◌/◌, ◌%◌, ◌^◌, ◌≤◌, ◌<◌, min}
use native.Mathlib.Nat.{mod-lt, mul-le-mul, div-lt_iff_lt-mul, div-le_self, le_of_lt}
use native.Mathlib.Omega.{arith}
use lib.Pow.{pow_mono}
use Rattle.floats.specs.Sizes.{rounded_size, floored_size}
use Rattle.floats.proofs.Dividing.{less_one, in_steps, floored_least}
use Rattle.floats.proofs.rounded_size.Goals as goal
use Rattle.floats.proofs.rounded_size.Goals.{After-floored_size-low, After-floored_size-t, After-from, After-power_of_two-part}

-- the mantissa is cut at 2^32 at most
part_most : (c : After-power_of_two-part) → c.power_of_two-part.result ≤ 4294967296
part_most c = rw c.power_of_two-part.ensures.is (pow_mono {i = c.args.cut} {j = 32} c.requires.0)

lower : (c : After-power_of_two-part) → let a = c.args in a.m % c.power_of_two-part.result * a.scale.over ≤ 4294967295 * 1000000000
lower c =
    let below = mod-lt c.args.m c.power_of_two-part.ensures.least in
    mul-le-mul {n₂ = 4294967295} {m₂ = 1000000000} (omega (arith, below, part_most c)) c.requires.2

upper : (c : After-power_of_two-part) → let a = c.args in a.m / c.power_of_two-part.result * a.scale.over ≤ 2097152 * 1000000000
upper c =
    let one = c.power_of_two-part in
    let small : c.args.m < 2097152 * one.result = omega (arith, c.requires.1, one.ensures.is) in
    let below = (div-lt_iff_lt-mul {k = one.result} {y = 2097152} one.ensures.least).1 small in
    mul-le-mul {n₂ = 2097152} {m₂ = 1000000000} (le_of_lt below) c.requires.2

pub floored_size-low-requires : goal.floored_size-low-requires
floored_size-low-requires c =
    let p = (goal.at.floored_size-low-requires c).After-power_of_two-part in
    omega (arith, lower p, part_most p, c.power_of_two-part.ensures)

sum : (c : After-floored_size-low) → let a = c.args in
    2 * (a.m / c.power_of_two-part.result * a.scale.over) + c.floored_size-low.result ≤ 9200000000000000000
sum c =
    let p = c.power_of_two-part in
    let a = c.args in
    let n = 2 * (a.m % p.result * a.scale.over) in
    let l : c.floored_size-low.result ≤ n = rw c.floored_size-low.ensures (floored_least a.minus n p.result p.ensures.least) in
    omega (
      arith,
      upper (goal.at.After-floored_size-low c).After-power_of_two-part,
      lower
          (goal.at.After-floored_size-low c).After-power_of_two-part,
    )

least : (c : After-floored_size-t) → c.floored_size-t.result ≤ 9200000000000000000
least c =
    let a = c.args in
    let d = c.power_of_two in
    let n = 2 * (a.m / c.power_of_two-part.result * a.scale.over) + c.floored_size-low.result in
    let l : c.floored_size-t.result ≤ n = rw c.floored_size-t.ensures (floored_least a.minus n d.result d.ensures.least) in
    omega (arith, sum (goal.at.After-floored_size-t c).After-floored_size-low)

-- the divisor is 2 ^ min shift 63
steps : (c : After-floored_size-t) → let a = c.args in
    c.floored_size-t.result
    ≡ floored_size a.minus (2 * (a.m / c.power_of_two-part.result * a.scale.over) + c.floored_size-low.result) (2 ^ min a.shift 63)
steps c = c.floored_size-t.ensures ∙ rw (c.power_of_two.ensures.is, c.min.ensures)

size : (c : After-floored_size-t) → let a = c.args in
    (c.floored_size-t.result + cond a.minus (a.scale.under - 1) a.scale.under) / (2 * a.scale.under)
    ≡ rounded_size a.minus (a.m * a.scale.over) (2 ^ (a.cut + a.shift) * a.scale.under)
size c =
    let a = c.args in
    let p = c.power_of_two-part in
    in_steps a.minus a.m a.scale.over a.scale.under a.cut a.shift 63 p.result c.floored_size-low.result c.floored_size-t.result
    c.requires.3 p.ensures.is c.floored_size-low.ensures (omega (arith, sum (goal.at.After-floored_size-t c).After-floored_size-low))
    (steps c)

-- the half that is added before the last division
half : (c : After-from) → let a = c.args in
    a.scale.under - c.from.result ≡ cond a.minus (a.scale.under - 1) a.scale.under
half c = let a = c.args in rw c.from.ensures (less_one a.minus a.scale.under)

pub returns : goal.returns
returns c =
    let u = c.args.scale.under in
    let t = c.floored_size-t.result in
    let down = div-le_self (t + (u - c.from.result)) (2 * u) in (
      rw (half (goal.at.returns c).After-from) (size (goal.at.returns c).After-floored_size-t),
      omega
          (arith, least (goal.at.returns c).After-floored_size-t, down, c.requires),
    )

pub overflow_mul-m-2 : goal.overflow_mul-m-2
overflow_mul-m-2 c = omega (arith, lower (goal.at.overflow_mul-m-2 c).After-power_of_two-part)

pub overflow_add-n : goal.overflow_add-n
overflow_add-n c = omega (arith, sum (goal.at.overflow_add-n c).After-floored_size-low)

pub floored_size-t-requires : goal.floored_size-t-requires
floored_size-t-requires c = omega (arith, sum (goal.at.floored_size-t-requires c).After-floored_size-low, c.power_of_two.ensures)

pub overflow_add-result : goal.overflow_add-result
overflow_add-result c = omega (arith, least (goal.at.overflow_add-result c).After-floored_size-t, c.requires)
