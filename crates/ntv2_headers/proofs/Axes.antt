-- An axis as the code reads it: number by number, then between the two bounds.
use mathlib.Core.Bool.{Bool, true, false, cond, ◌&&◌}
use mathlib.Core.Path.{◌≡◌, refl, ap, ◌∙◌}
use Prim.Native.Nat.{ℕ}
use lib.Dec.{ltb}
use Rattle.integers.specs.Booleans.{and_false}
use Rattle.std.specs.Prelude.{None}
use Rattle.std.specs.Bool.{then_some}
use Rattle.rules.specs.declared.Axis.{Axis}
use Rattle.rules.specs.Floats.{binary64, finite, value_of}
use Rattle.rules.specs.Ntv2.{arcseconds, spacing_of, axis_of, whole}
use Rattle.ntv2_headers.specs.Reading.{extent_of, all_finite, angle_within, angle_fits, extent_fits, axis_read, axis_between}

-- Two tests of each of three numbers may be put number by number.
one : (f w t : Bool) → (f && (w && t)) ≡ ((f && w) && t)
one true w t = refl
one false w t = refl

two : (f g w v t : Bool) → ((f && g) && ((w && v) && t)) ≡ (((f && w) && (g && v)) && t)
two true g true v t = one g v t
two true g false v t = and_false g
two false g w v t = refl

three : (f g h w v u t : Bool) → ((f && (g && h)) && ((w && (v && u)) && t)) ≡ (((f && w) && ((g && v) && (h && u))) && t)
three true g h true v u t = two g h v u t
three true g h false v u t = and_false (g && h)
three false g h w v u t = refl

next : (a t : Bool) (x : Axis) → then_some (a && t) x ≡ cond a (then_some t x) None
next true t x = refl
next false t x = refl

pub axis_read_lem : (s e p : ℕ) → let x = extent_of s e p in
    axis_read (all_finite s e p) x
    ≡ cond (angle_fits s && (angle_fits e && angle_fits p))
    (axis_between (arcseconds x.start) (arcseconds x.end) (spacing_of x)) None
unfolding angle_fits extent_fits
axis_read_lem s e p =
    let x = extent_of s e p in
    let t = ltb 0 (spacing_of x) && whole x in
    let f : ℕ → Bool = finite binary64 in
    let w : ℕ → Bool = λ bits. angle_within (value_of binary64 bits) in
    ap (λ (c : Bool). then_some c (axis_of x)) (three (f s) (f e) (f p) (w s) (w e) (w p) t)
    ∙ next ((f s && w s) && ((f e && w e) && (f p && w p))) t (axis_of x)
