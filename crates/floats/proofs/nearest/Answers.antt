-- `floats::nearest` meets its contract: the law over every width, at the width, the scale and the shift that the code has.
use mathlib.Core.Bool.{true}
use mathlib.Core.Path.{◌≡◌, sym, ap, ◌∙◌}
use Prim.Native.Nat.{ℕ, ◌+◌, ◌-◌, ◌*◌, ◌^◌, ◌<◌}
use native.Mathlib.Omega.{arith}
use lib.Pow.{pow-add}
use borrow.Author.Tests.{lt-ltb, le-ltb}
use Rattle.rules.specs.declared.FloatFormat.{FloatFormat}
use Rattle.rules.specs.Floats.{exponent_of, finite, power, bias, mantissa, signed, value_of, nearest}
use Rattle.floats.specs.Sizes.{Known}
use Rattle.floats.specs.Nearest.{nearest_within}
use Rattle.floats.proofs.Widths.{mantissa_most, nearest_is, nearest_beyond}
use Rattle.floats.proofs.nearest.Goals as goal
use Rattle.floats.proofs.nearest.Goals.{After-max-power, Else-power_of_two-exponent, After-rounded_size-size}

pub returns-then-power_of_two-exponent : goal.returns-then-power_of_two-exponent
unfolding nearest_within
returns-then-power_of_two-exponent g c =
    let f = g.F.Float.FORMAT in
    let e = rw c.FORMAT-f.ensures at c.power_of_two.ensures.is in
    rw (le-ltb (exponent_of f c.args.bits + 1) (2 ^ f.exponent) (omega (arith, e)))

is_finite : (g : _) (c : Else-power_of_two-exponent g) → finite g.F.Float.FORMAT c.args.bits ≡ true
is_finite g c =
    let f = g.F.Float.FORMAT in
    let e = rw c.FORMAT-f.ensures at c.power_of_two.ensures.is in
    lt-ltb (exponent_of f c.args.bits + 1) (2 ^ f.exponent) (omega (arith, e))

-- the code's power is the definition's, and its most is the bias and 20
power_is : (g : _) (c : After-max-power g) → c.max-power.result ≡ power g.F.Float.FORMAT c.args.bits
power_is g c = omega arith

pub returns-then-most-power : goal.returns-then-most-power
unfolding nearest_within
returns-then-most-power g c =
    let f = g.F.Float.FORMAT in
    let u = c.requires in
    let e = rw c.FORMAT-f.ensures at c.power_of_two-most.ensures.is in
    let p = power_is g (goal.at.returns-then-most-power g c).After-max-power in
    let h : bias f + 20 < power f c.args.bits = omega (arith, e, p) in
    rw (is_finite g (goal.at.returns-then-most-power g c).Else-power_of_two-exponent, nearest_beyond f c.args.scale c.args.bits u.under_least c.args.limit u.limit_most h)

-- the mantissa is below 2^21 parts
small : (f : FloatFormat) (bits : ℕ) → Known f → mantissa f bits < 2097152 * 2 ^ (f.fraction - 20)
small f bits k =
    let cut : 20 + (f.fraction - 20) ≡ f.fraction = omega (arith, k.fraction_least) in
    let w : 2 ^ f.fraction ≡ 1048576 * 2 ^ (f.fraction - 20) = ap (λ (n : ℕ). 2 ^ n) (sym cut) ∙ pow-add 2 20 (f.fraction - 20) in
    omega (arith, mantissa_most f bits, w)

pub rounded_size-size-requires : goal.rounded_size-size-requires
rounded_size-size-requires g c =
    let f = g.F.Float.FORMAT in
    let k = g.F.Float.known in
    let u = c.requires in
    (rw c.FORMAT-f.ensures (omega (arith, k)), rw (c.mantissa_of-m.ensures, c.FORMAT-f.ensures) (small f c.args.bits k), u.over_most, u.under_least, u.under_most)

found : (g : _) (c : After-rounded_size-size g) →
    nearest c.args.scale (value_of g.F.Float.FORMAT c.args.bits) ≡ signed c.is_negative-minus.result c.rounded_size-size.result
found g c =
    let f = g.F.Float.FORMAT in
    let known = g.F.Float.known in
    let p = power_is g (goal.at.After-rounded_size-size g c).After-max-power in
    let e = rw c.FORMAT-f.ensures at c.power_of_two-most.ensures.is in
    let h = f.fraction - 20 + (c.power_of_two-most.result + 19 - c.max-power.result) in
    let k : power f c.args.bits + h ≡ bias f + f.fraction = omega (arith, known.fraction_least, e, p) in
    nearest_is f c.args.scale c.args.bits c.requires.under_least h k
    ∙ sym (rw (c.rounded_size-size.ensures.0, c.is_negative-minus.ensures, c.mantissa_of-m.ensures, c.FORMAT-f.ensures))

pub returns : goal.returns
unfolding nearest_within
returns g c =
    c.whole_within.ensures ∙ sym (rw (is_finite g (goal.at.returns g c).Else-power_of_two-exponent, found g (goal.at.returns g c).After-rounded_size-size))
