-- An image of kind 2 that passes the check: at every point its corrections are answered and steady, zero outside their bounds; and on the
-- height grid a height is answered, off it that there is none.
use Rattle.std.specs.Prelude.{Bool, None, List, ◌≡◌, ℕ}
use Rattle.std.proofs.Math.Bool.{true, false}
use Rattle.std.proofs.Math.Path.{refl}
use Rattle.integers.specs.Booleans.{and_left, and_right}
use Rattle.rules.specs.declared.Layout.{Layout}
use Rattle.rules.specs.declared.Point.{Point}
use Rattle.rules.specs.Answers.{values}
use Rattle.rules.specs.Image.{Grid, grid_of}
use Rattle.rules.specs.Limits.{GeometryPasses, Open}
use Rattle.rules.specs.Lookup.{inside, heights_pass, corrections_or_zero, height_or_none, quasi_geoid_at}
use Rattle.rules.specs.Ways.{unbounded_source}
use Rattle.rules.specs.Check.{border_zero, question22}
use Rattle.returning.specs.Angles.{SteadyAngles}
use Rattle.returning.proofs.Angles.{stop_at_one}
use Rattle.returning.specs.Trips.{SteadyHeights}
use Rattle.returning.specs.Passing.{Passes}
use Rattle.returning.proofs.Passing.{grid_answered, heights_pass_lem, height_value}
use Rattle.returning.proofs.Edge.{steady_everywhere}
use Rattle.returning.specs.Unbounded.{zero_outside}

module _ {size : ℕ} (b : List ℕ) (l : Layout) (o : Open size l) (c : Passes (grid_of b l)) where
  abbrev grid : Grid
  grid = grid_of b l

  geometry : GeometryPasses grid.corrections
  geometry = o.latitude.geometry

  corrections_anywhere : (q : Point) → (unbounded_source grid).corrections q ≡ values (zero_outside grid q)
  unfolding corrections_or_zero
  corrections_anywhere q = by (inside grid.corrections q) refl
    where
      by : (t : Bool) → inside grid.corrections q ≡ t → (unbounded_source grid).corrections q ≡ values (zero_outside grid q)
      by true e = rw e (grid_answered geometry c.corrections q)
      by false e = rw e

  pub unbounded_heights : SteadyHeights (unbounded_source grid) (inside grid.heights) (quasi_geoid_at grid)
  unfolding height_or_none heights_pass
  unbounded_heights = record { answered = λ q i. rw (i, heights_pass_lem b l o c q); value = height_value b l o c }

  pub no_height : (q : Point) → inside grid.heights q ≡ false → (unbounded_source grid).height q ≡ values None
  unfolding height_or_none
  no_height q i = rw i

  module _ (unbounded : l.unbounded ≡ true) where
    -- Question 22 of each correction.
    pub latitudes_zero : border_zero grid.corrections grid.latitude ≡ true
    unfolding question22
    latitudes_zero = and_left _ _ (c.zero_border unbounded)

    pub longitudes_zero : border_zero grid.corrections grid.longitude ≡ true
    unfolding question22
    longitudes_zero = and_right (border_zero grid.corrections grid.latitude) _ (c.zero_border unbounded)

    pub unbounded_angles : SteadyAngles (unbounded_source grid) (zero_outside grid) stop_at_one
    unbounded_angles =
        record {
          stop_is = refl;
          corrections = record {
            answered = λ q i. corrections_anywhere q;
            latitude = steady_everywhere geometry grid.latitude latitudes_zero c.corrections.latitude;
            longitude = steady_everywhere geometry grid.longitude longitudes_zero c.corrections.longitude;
          };
        }
