-- A grid that passes the check is a steady source: its nodes are all within question 9's limits, so every lookup in the bounds is answered,
-- and its steps are within question 12's, so every value changes slowly. The corrections with a dense grid are in Nested.antt, the answers
-- at any point in Unbounded.antt.
use Rattle.std.specs.Prelude.{Bool, Some, List, ◌≡◌, ℕ, ◌+◌, ◌-◌, ◌≤◌, ◌<◌, ℤ, ◌-ℤ◌}
use Rattle.std.proofs.Math.Bool.{true, false}
use Rattle.std.proofs.Math.Path.{refl}
use Rattle.std.proofs.Common.{subst, le_trans, arith, leb-true}
use Rattle.std.proofs.Math.IntN.{nat_abs}
use Rattle.integers.specs.Distance.{Near, near_sym, abs_near}
use Rattle.integers.specs.Booleans.{and_left, and_right, and_both, all_three}
use Rattle.rules.specs.declared.Geometry.{Geometry}
use Rattle.rules.specs.declared.Layout.{Layout}
use Rattle.rules.specs.declared.Point.{Point}
use Rattle.rules.specs.declared.Findings.{Findings}
use Rattle.rules.specs.Units.{correction_limit, quasi_geoid_limit}
use Rattle.rules.specs.Answers.{values}
use Rattle.rules.specs.Image.{Grid, grid_of, rows, columns}
use Rattle.rules.specs.Limits.{GeometryPasses, Open}
use Rattle.rules.specs.Bilinear.{corners_for, value_at}
use Rattle.rules.specs.Lookup.{inside, square_passes, question9, corrections_pass, heights_pass, corrections_at, quasi_geoid_at}
use Rattle.rules.specs.Lookup.{correction_lookup, height_lookup, correction_grid_lookup, height_grid_lookup}
use Rattle.rules.specs.Ways.{bounded_source}
use Rattle.rules.specs.Check.{largest, all_within, all_pass, step_north, step_east, steps_of, slope_passes, question12, findings_of}
use Rattle.rules.specs.Check.{dense_passes, dense_slopes_pass, question21, question22, where_nested, where_unbounded, check}
use Rattle.rules.specs.Promise.{Margin}
use Rattle.rules.proofs.Answers.{asked}
use Rattle.rules.proofs.Corners.{cell_within, square_passes_lem}
use Rattle.rules.proofs.Largest.{largest_at}
use Rattle.rules.proofs.Slopes.{all_within_lem}
use Rattle.returning.specs.Points.{Room, SteadyValue}
use Rattle.returning.specs.Interpolation.{hundredth}
use Rattle.returning.proofs.Interpolation.{value_limit, value_change}
use Rattle.returning.specs.Angles.{SteadyAngles}
use Rattle.returning.proofs.Angles.{stop_at_one}
use Rattle.returning.specs.Trips.{SteadyHeights}
use Rattle.returning.specs.Passing.{BothPass, NodesPass, Passes}
use Rattle.returning.proofs.Margins.{axis_room}

-- The largest over rows and columns bounds each.
largest_of : (m n : ℕ) (f : ℕ → ℕ → ℕ) (i j : ℕ) → i < m → j < n → f i j ≤ largest m (λ i. largest n (λ j. f i j))
largest_of m n f i j k l = le_trans (largest_at n (λ j. f i j) j l) (largest_at m (λ i. largest n (λ j. f i j)) i k)

value_passes : (g : Geometry) (M : ℕ) (f : ℕ → ℕ → ℤ) → all_within M g f ≡ true → slope_passes g (steps_of g f) ≡ true → NodesPass g M f
value_passes g M f h s = record { limit = all_within_lem M g f h; slope = s }

module _ {g : Geometry} (o : GeometryPasses g) {M : ℕ} (f : ℕ → ℕ → ℤ) (n : NodesPass g M f) where
  northward : (row column : ℕ) → row + 1 < rows g → column < columns g → Near (step_north g f) (f row column) (f (row + 1) column)
  unfolding step_north
  northward row column k l =
      let step = largest_of (rows g - 1) (columns g) (λ row column. nat_abs (f (row + 1) column -ℤ f row column)) row column in
      near_sym (abs_near _ _ _ (step (omega arith) l))

  eastward : (row column : ℕ) → row < rows g → column + 1 < columns g → Near (step_east g f) (f row column) (f row (column + 1))
  unfolding step_east
  eastward row column k l =
      let step = largest_of (rows g) (columns g - 1) (λ row column. nat_abs (f row (column + 1) -ℤ f row column)) row column in
      near_sym (abs_near _ _ _ (step k (omega arith)))

  pub steady_value : SteadyValue (inside g) hundredth M (value_at g f)
  unfolding slope_passes steps_of
  steady_value =
      record {
        limit = value_limit o f M n.limit;
        change = value_change o f (step_north g f) (step_east g f) northward eastward (leb-true _ _ n.slope);
      }

pub passes : (g : Grid) (f : Findings) → check g ≡ values f → Passes g
unfolding check all_pass question12 findings_of dense_passes dense_slopes_pass question21 question22
passes g f h =
    let c = g.corrections in
    let e = g.heights in
    let d = g.dense in
    let nodes = asked (all_pass g) 9 _ f h in
    let dense-nodes = asked (where_nested g (dense_passes g)) 9 _ f nodes.1 in
    let zero_border = asked (where_unbounded g (question22 g)) 22 _ f dense-nodes.1 in
    let slopes = asked (question12 g (findings_of g)) 12 _ f zero_border.1 in
    let dense-slopes = asked (where_nested g (dense_slopes_pass g)) 12 _ f slopes.1 in
    let border = asked (where_nested g (question21 g)) 21 _ f dense-slopes.1 in
    let n =
    all_three (all_within correction_limit c g.latitude) (all_within correction_limit c g.longitude)
    (all_within quasi_geoid_limit e g.height) nodes.0 in
    let s =
    all_three (slope_passes c (steps_of c g.latitude)) (slope_passes c (steps_of c g.longitude))
    (slope_passes e (steps_of e g.height)) slopes.0 in
    record {
      corrections = record {
        latitude = value_passes c _ g.latitude n.0 s.0;
        longitude = value_passes c _ g.longitude n.1 s.1;
      };
      height = value_passes e _ g.height n.2 s.2;
      dense = λ k.
          let m = rw k at dense-nodes.0 in
          let t = rw k at dense-slopes.0 in
          let first = all_within correction_limit d g.dense_latitude in
          let slope = slope_passes d (steps_of d g.dense_latitude) in
          record {
            latitude = value_passes d _ g.dense_latitude (and_left first _ m) (and_left slope _ t);
            longitude = value_passes d _ g.dense_longitude (and_right first _ m) (and_right slope _ t);
          };
      border = λ k. rw k at border.0;
      zero_border = λ k. rw k at zero_border.0;
    }

-- Question 9 has the answer yes in every cell of a grid's corrections, so their lookup is answered.
module _ {g : Grid} (o : GeometryPasses g.corrections) (n : BothPass g) (q : Point) where
  latitudes_pass : square_passes correction_limit (corners_for g.corrections g.latitude q) ≡ true
  latitudes_pass = square_passes_lem _ _ (cell_within g.latitude o n.latitude.limit q)

  longitudes_pass : square_passes correction_limit (corners_for g.corrections g.longitude q) ≡ true
  longitudes_pass = square_passes_lem _ _ (cell_within g.longitude o n.longitude.limit q)

  pub grid_answered : correction_grid_lookup g q ≡ values (corrections_at g q)
  unfolding correction_grid_lookup corrections_pass
  grid_answered = rw (and_both latitudes_pass longitudes_pass)

-- ---- the grid of an opened image
module _ {size : ℕ} (b : List ℕ) (l : Layout) (o : Open size l) (c : Passes (grid_of b l)) where
  abbrev grid : Grid
  grid = grid_of b l

  geometry : GeometryPasses grid.corrections
  geometry = o.latitude.geometry

  -- Question 9 of heights that stand at the corrections' nodes or on a separate grid.
  pub heights_pass_lem : (q : Point) → square_passes quasi_geoid_limit (corners_for grid.heights grid.height q) ≡ true
  heights_pass_lem q = square_passes_lem _ _ (cell_within grid.height o.height.geometry c.height.limit q)

  -- In edition 1 both geometries are one, so the corrections' cell of a point is its heights' cell.
  nodes_pass : l.separate ≡ false → (q : Point) → question9 grid q ≡ true
  unfolding question9
  nodes_pass nodes q =
      let at : Geometry → Type 0 = λ g. square_passes quasi_geoid_limit (corners_for g grid.height q) ≡ true in
      and_both (latitudes_pass geometry c.corrections q)
      (and_both (longitudes_pass geometry c.corrections q) (subst at (o.height_geometry nodes) (heights_pass_lem q)))

  height_answered : (q : Point) → inside grid.heights q ≡ true → (bounded_source grid).height q ≡ values (Some (quasi_geoid_at grid q))
  unfolding height_lookup height_grid_lookup heights_pass
  height_answered q i = by l.separate refl
    where
      by : (separate : Bool) → l.separate ≡ separate → (bounded_source grid).height q ≡ values (Some (quasi_geoid_at grid q))
      by false nodes = rw (nodes_pass nodes q, nodes)
      by true apart = rw (i, heights_pass_lem q, apart)

  pub height_value : SteadyValue (inside grid.heights) hundredth quasi_geoid_limit (quasi_geoid_at grid)
  height_value = steady_value o.height.geometry grid.height c.height

  pub heights : SteadyHeights (bounded_source grid) (inside grid.heights) (quasi_geoid_at grid)
  heights = record { answered = height_answered; value = height_value }

  -- Without a dense grid: the lookup of each edition.
  corrections_answered : l.nested ≡ false → (q : Point) → (bounded_source grid).corrections q ≡ values (corrections_at grid q)
  unfolding correction_lookup correction_grid_lookup corrections_pass
  corrections_answered none q = by l.separate refl
    where
      by : (separate : Bool) → l.separate ≡ separate → (bounded_source grid).corrections q ≡ values (corrections_at grid q)
      by false nodes = rw (nodes_pass nodes q, nodes)
      by true apart = rw (apart, none) (grid_answered geometry c.corrections q)

  pub angles : l.nested ≡ false → SteadyAngles (bounded_source grid) (corrections_at grid) stop_at_one
  angles none =
      record {
        stop_is = rw none;
        corrections = record {
          answered = λ q i. corrections_answered none q;
          latitude = steady_value geometry grid.latitude c.corrections.latitude;
          longitude = steady_value geometry grid.longitude c.corrections.longitude;
        };
      }

-- ---- every point within d of one that is at least d inside is in the bounds

pub room : (g : Geometry) (d : ℕ) (p : Point) → Margin d g p → Room (inside g) d p
unfolding inside
room g d p n q h =
    and_both
    (axis_room g.latitude d p.latitude q.latitude n.from_south n.to_north h.latitude)
    (axis_room g.longitude d p.longitude q.longitude n.from_west n.to_east h.longitude)
