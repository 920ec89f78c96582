-- The corrections of an image with a dense grid that passes the check: they are answered everywhere in the coarse bounds, by the dense grid
-- in its own, and are steady across its border.
use Rattle.std.specs.Prelude.{Bool, List, ◌≡◌, ℕ, ℤ}
use Rattle.std.proofs.Math.Bool.{true, false}
use Rattle.std.proofs.Math.Path.{refl}
use Rattle.std.proofs.Common.{arith}
use Rattle.integers.specs.Booleans.{and_left, and_right}
use Rattle.rules.specs.declared.Layout.{Layout}
use Rattle.rules.specs.declared.Point.{Point}
use Rattle.rules.specs.Units.{correction_limit}
use Rattle.rules.specs.Answers.{values}
use Rattle.rules.specs.Image.{Grid, grid_of}
use Rattle.rules.specs.Limits.{GeometryPasses, Open}
use Rattle.rules.specs.Lookup.{inside, corrections_pass, correction_grid_lookup}
use Rattle.rules.specs.Ways.{bounded_source}
use Rattle.rules.specs.Check.{border_agrees, question21}
use Rattle.rules.proofs.Nesting.{inside_coarse}
use Rattle.returning.specs.Points.{SteadyValue}
use Rattle.returning.specs.Angles.{SteadyAngles}
use Rattle.returning.proofs.Border.{border_near}
use Rattle.returning.specs.Crossing.{crossing}
use Rattle.returning.proofs.Crossing.{steady_across, stop_at_three}
use Rattle.returning.specs.Passing.{NodesPass, Passes}
use Rattle.returning.proofs.Passing.{steady_value, grid_answered}
use Rattle.returning.specs.Nested.{nested_corrections, nested_value}

module _ {size : ℕ} (b : List ℕ) (l : Layout) (o : Open size l) (c : Passes (grid_of b l)) (nested : l.nested ≡ true) where
  abbrev grid : Grid
  grid = grid_of b l

  geometry : GeometryPasses grid.corrections
  geometry = o.latitude.geometry

  dense_geometry_lem : GeometryPasses grid.dense
  dense_geometry_lem = o.dense.geometry

  nested_answered : (q : Point) → (bounded_source grid).corrections q ≡ values (nested_corrections grid q)
  unfolding correction_grid_lookup corrections_pass
  nested_answered q = by (inside grid.dense q) refl
    where
      by : (t : Bool) → inside grid.dense q ≡ t → (bounded_source grid).corrections q ≡ values (nested_corrections grid q)
      by true e = rw ((o.nests nested).separate, nested, e) (grid_answered dense_geometry_lem (c.dense nested) q)
      by false e = rw ((o.nests nested).separate, nested, e) (grid_answered geometry c.corrections q)

  steady_nested : (e f : ℕ → ℕ → ℤ) → NodesPass grid.corrections correction_limit e → NodesPass grid.dense correction_limit f
      → border_agrees grid.corrections grid.dense e f ≡ true
      → SteadyValue (inside grid.corrections) crossing correction_limit (nested_value grid e f)
  steady_nested e f m n t =
      let aligned = (o.nests nested).aligned in
      steady_across grid.dense (steady_value geometry e m) (steady_value dense_geometry_lem f n)
      (inside_coarse _ _ aligned) (border_near geometry dense_geometry_lem aligned e f t) (λ d. omega arith)

  pub nested_angles : SteadyAngles (bounded_source grid) (nested_corrections grid) stop_at_three
  unfolding question21
  nested_angles =
      let t = c.border nested in
      let first = border_agrees grid.corrections grid.dense grid.latitude grid.dense_latitude in
      record {
        stop_is = rw nested;
        corrections = record {
          answered = λ q i. nested_answered q;
          latitude = steady_nested grid.latitude grid.dense_latitude c.corrections.latitude (c.dense nested).latitude
              (and_left first _ t);
          longitude = steady_nested grid.longitude grid.dense_longitude c.corrections.longitude (c.dense nested).longitude
              (and_right first _ t);
        };
      }
