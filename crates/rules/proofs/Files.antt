-- Laws of both grid files: what a value that is kept tells, and what a geometry that passes questions 3 to 5 is.
use Rattle.std.specs.Prelude.{Some, None, is_some}
use Rattle.std.specs.Bool.{then_some}
use Rattle.std.proofs.Common.{ap, sym}
use Rattle.std.proofs.lemmas.Bool.{false≢true}
use Rattle.std.proofs.lemmas.Option.{same_Some}
use mathlib.Core.Bool.{Bool, true, false, ◌&&◌}
use mathlib.Core.Path.{◌≡◌, refl}
use Prim.Native.Nat.{ℕ, ◌≤◌}
use native.Mathlib.Omega.{arith}
use lib.IntN.{ℤ, pos, negsuc, nat_abs}
use Rattle.integers.specs.Booleans.{all_three}
use Rattle.rules.specs.declared.Axis.{Axis}
use Rattle.rules.specs.declared.Geometry.{Geometry}
use Rattle.rules.specs.declared.FileGrids.{FileGrids}
use Rattle.rules.specs.Questions.{question3, question4, question5, questions_3_to_5}
use Rattle.rules.specs.Answers.{Outcome, values, number}
use Rattle.rules.specs.Units.{latitude_limit, longitude_limit}
use Rattle.rules.specs.Limits.{AxisPasses, GeometryPasses, HandedBack, SmallAxis, SmallGeometry, BothHandedBack}
use Rattle.rules.specs.Files.{natural}
use Rattle.rules.specs.Ntv2.{no_axis, no_geometry}
use Rattle.rules.proofs.Opening.{geometry_passes}

-- A value that is kept where a test is true tells of both.
pub kept : {A : Type 0} (t : Bool) (a c : A) → then_some t a ≡ Some c → (t ≡ true) × (a ≡ c)
kept true a c e = (refl, same_Some a c e)
kept false a c e = absurd (false≢true (ap is_some e))

pub not_kept : {A : Type 0} (t : Bool) (a : A) → then_some t a ≡ None → t ≡ false
not_kept true a e = absurd (false≢true (sym (ap is_some e)))
not_kept false a e = refl

-- A number above zero is the number itself.
pub natural_most : (z : ℤ) (limit : ℕ) → 1 ≤ natural z → natural z ≤ limit → nat_abs z ≤ limit
natural_most (pos n) limit h k = k
natural_most (negsuc n) limit h k = absurd (omega arith)

pub questions_establish : (g : Geometry) → questions_3_to_5 g ≡ true → GeometryPasses g
unfolding questions_3_to_5
questions_establish g h = let a = all_three (question3 g) (question4 g) (question5 g) h in geometry_passes g a.0 a.1 a.2

-- An answer with a geometry has one that passes.
pub handed_back : (o : Outcome Geometry) → ((g : Geometry) → o ≡ values g → GeometryPasses g) → HandedBack o
handed_back (values g) h = h g refl
handed_back (number n) h = tt

-- Geometries that are handed back together have small numbers: one that passes, and the one of no grid.
small_axis : (limit : ℕ) (a : Axis) → limit ≤ longitude_limit → AxisPasses limit a → SmallAxis a
small_axis limit a l p =
    record {
      start_within = omega (arith, p.start_within);
      spacing_most_lem = p.sized.spacing_most_lem;
      count_most = p.sized.count_most;
    }

pub passes_small : (g : Geometry) → GeometryPasses g → SmallGeometry g
passes_small g p =
    record {
      latitude = small_axis latitude_limit g.latitude (omega arith) p.latitude;
      longitude = small_axis longitude_limit g.longitude (omega arith) p.longitude;
    }

none_axis : SmallAxis no_axis
none_axis = record { start_within = omega arith; spacing_most_lem = omega arith; count_most = omega arith }

pub none_small : SmallGeometry no_geometry
none_small = record { latitude = none_axis; longitude = none_axis }

pub both_handed_back : (o : Outcome FileGrids) → ((g : FileGrids) → o ≡ values g → SmallGeometry g.coarse × SmallGeometry g.dense)
    → BothHandedBack o
both_handed_back (values g) h = h g refl
both_handed_back (number n) h = tt

-- Tests of both axes may be put otherwise where the questions after them decide. Tests before one that fails do not count.
none : (a c : Bool) → (a && (c && false)) ≡ false
none true true = refl
none true false = refl
none false c = refl

pub both_axes : (l a a' c c' q n : Bool) → (q ≡ true → (a ≡ a') × (c ≡ c'))
    → (l && (a && (c && (q && n)))) ≡ (l && (a' && (c' && (q && n))))
both_axes l a a' c c' true n h = rw ((h refl).0, (h refl).1)
both_axes l a a' c c' false n h = rw (none a c, none a' c')
