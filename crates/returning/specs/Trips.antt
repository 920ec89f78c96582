-- Out and back, and back and out, over any source whose corrections and heights are limited and change slowly: the angles' half
-- (Angles.antt), and the heights' half, which asks for a height only at the Bessel points of a trip.
use Rattle.std.specs.Prelude.{Bool, Some, true, List, ◌≡◌, ℕ}
use Rattle.std.proofs.Math.IntN.{ℤ}
use Rattle.rules.specs.declared.Point.{Point}
use Rattle.rules.specs.declared.Correction.{Correction}
use Rattle.rules.specs.declared.Way.{Way}
use Rattle.rules.specs.Units.{quasi_geoid_limit}
use Rattle.rules.specs.Answers.{values}
use Rattle.rules.specs.Limits.{PointWithin}
use Rattle.rules.specs.Ways.{Source, Accepted, convert_over, convert, way_back}
use Rattle.rules.specs.Promise.{AnglesWithin, point_of}
use Rattle.returning.specs.Points.{Close, Room, SteadyValue}
use Rattle.returning.specs.Interpolation.{hundredth}
use Rattle.returning.specs.Angles.{StopRule, SteadyAngles}

-- What the heights' half asks of a source: in the heights' bounds, `heightInside`, a height is answered, and it is a steady value, within
-- question 9's limit and with a change of at most one in a hundred, rounded up.
pub record SteadyHeights (s : Source) (heightInside : Point → Bool) (quasiGeoid : Point → ℤ) : Type 0 where
  pub answered : (q : Point) → heightInside q ≡ true → s.height q ≡ values (Some (quasiGeoid q))
  pub value : SteadyValue heightInside hundredth quasi_geoid_limit quasiGeoid

-- Both halves. The bounds of the corrections are the source's own.
pub record SteadySource (s : Source) (at : Point → Correction) (rule : StopRule) (heightInside : Point → Bool) (quasiGeoid : Point → ℤ)
    : Type 0 where
  pub angles : SteadyAngles s at rule
  pub heights : SteadyHeights s heightInside quasiGeoid

-- Room in both bounds, and within question 7's limits.
pub record Rooms (s : Source) (heightInside : Point → Bool) (d : ℕ) (p : Point) : Type 0 where
  pub corrections : Room s.inside d p
  pub heights : Room heightInside d p
  pub limits : (q : Point) → Close d q p → PointWithin q

-- ---- the trips of an image whose conversions are the source's
abbrev pub Converts : List ℕ → Source → Type 0
Converts b s = (w : Way) (p : Point) (h : ℤ) → convert w b p h ≡ convert_over w s p h

-- Every Bessel point that goes back to within 1 nd of p lies within 3 nd of q.
abbrev pub OthersNear : List ℕ → (p q : Point) → Type 0
OthersNear b p q =
    (q' : Point) (H : ℤ) (r : Accepted) → way_back b q' H ≡ values r → AnglesWithin 1 (point_of r.position) p → AnglesWithin 3 q' q
