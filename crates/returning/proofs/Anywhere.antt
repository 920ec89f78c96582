-- Kind 2's trips from anywhere: every fix within question 7's limits goes out and back, without a margin. Its answer stays within these
-- limits, because on a bound at 90 or 180 degrees, and past it, the correction is zero.
use Rattle.std.specs.Prelude.{Bool, Some, None, true, false, List, ◌≡◌, refl, ℕ, ◌≤◌, pos, nat_abs, ◌+ℤ◌, ◌-ℤ◌}
use Rattle.std.proofs.Common.{inl, inr, ap, ◌∙◌, arith}
use Rattle.std.proofs.Math.IntN.{ℤ, -ℤ-+ℤ_cancel}
use Rattle.rules.specs.declared.Layout.{Layout}
use Rattle.rules.specs.declared.Point.{Point}
use Rattle.rules.specs.declared.Way.TheVariants as way
use Rattle.rules.specs.Units.{out_height_limit, back_height_limit, stop_distance, most_evaluations, no_height_number}
use Rattle.rules.specs.Answers.{values}
use Rattle.rules.specs.Image.{Grid, grid_of}
use Rattle.rules.specs.Limits.{PointWithin, Open}
use Rattle.rules.specs.Lookup.{Height, inside, quasi_geoid_at}
use Rattle.rules.specs.Ways.{Source, unbounded_source, question7, plus, position, Accepted, answer_at}
use Rattle.rules.specs.Promise.{OutAndBackAnywhere}
use Rattle.rules.proofs.Limits.{fix_within}
use Rattle.returning.proofs.Points.{close_within}
use Rattle.returning.specs.Iteration.{Solution}
use Rattle.returning.proofs.Iteration.{solved}
use Rattle.returning.specs.Angles.{SteadyAngles, Settles}
use Rattle.returning.proofs.Angles.{stop_at_one, goes_out, fix_returns}
use Rattle.returning.specs.Trips.{Converts}
use Rattle.returning.proofs.Trips.{back_values, out_values, height_goes_back}
use Rattle.returning.specs.Passing.{Passes}
use Rattle.returning.proofs.Edge.{zero_at_limit}
use Rattle.returning.specs.Unbounded.{zero_outside}
use Rattle.returning.proofs.Unbounded.{unbounded_angles, unbounded_heights, no_height, latitudes_zero, longitudes_zero}
use Rattle.returning.proofs.Stays.{angle_stays}

-- An answer with the number k.
abbrev accepted : Point → ℤ → (n k : ℕ) → Accepted
accepted p h n k = record { position = position p h n; number = k }

module _ {size : ℕ} (b : List ℕ) (l : Layout) (o : Open size l) (c : Passes (grid_of b l)) (unbounded : l.unbounded ≡ true) where
  abbrev grid : Grid
  grid = grid_of b l

  abbrev source : Source
  source = unbounded_source grid

  angles : SteadyAngles source (zero_outside grid) stop_at_one
  angles = unbounded_angles b l o c unbounded

  point_stays : {p q : Point} → PointWithin p → Solution source stop_distance p q → PointWithin q
  point_stays {p} {q} w v =
      let r = v.from in
      let sum = solved angles.corrections v in
      record {
        latitude = angle_stays _ q.latitude r.latitude p.latitude _ w.latitude v.near.latitude sum.latitude
            (λ k. zero_at_limit o.latitude.geometry grid.latitude (latitudes_zero b l o c unbounded) r (inl k));
        longitude = angle_stays _ q.longitude r.longitude p.longitude _ w.longitude v.near.longitude sum.longitude
            (λ k. zero_at_limit o.latitude.geometry grid.longitude (longitudes_zero b l o c unbounded) r (inr k));
      }

  module _ (same : Converts b source) (p : Point) (h : ℤ) (t : question7 out_height_limit p h ≡ true) where
    -- The way out, the point that it settles at, and the point that this goes back to.
    abbrev way_out : Settles source stop_distance p most_evaluations
    way_out = goes_out angles p (λ q near. refl)

    abbrev bessel : Point
    bessel = way_out.end.point

    abbrev etrs89 : Point
    etrs89 = plus bessel (zero_outside grid bessel)

    -- Where the lookup of the height gives `found`, with it the way out answers the height H, the way back the height r, both the number k.
    trip : (found : Height) (H r : ℤ) (k : ℕ) → source.height bessel ≡ values found
        → answer_at bessel (λ z. h -ℤ z) way_out.end.count found ≡ accepted bessel H way_out.end.count k
        → answer_at etrs89 (λ z. H +ℤ z) 1 found ≡ accepted etrs89 r 1 k
        → nat_abs H ≤ back_height_limit → (k ≡ 0 → r ≡ h) → OutAndBackAnywhere b p h
    trip found H r k e out back m returns =
        let w = fix_within out_height_limit p h t in
        let limits = point_stays w.0 way_out.solution in
        record {
          outward = accepted bessel H way_out.end.count k;
          returned = accepted etrs89 r 1 k;
          answered = same way.Out p h ∙ out_values angles way_out h found refl w.0 e w.1 ∙ ap values out;
          back_again = same way.Back bessel H ∙ back_values angles bessel H found refl limits e m ∙ ap values back;
          returns = record {
            at_least_one = way_out.at_least_one;
            at_most_five = way_out.at_most;
            limits = limits;
            angles = close_within (fix_returns angles way_out.solution);
            numbers = refl;
            height = returns;
          };
        }

    -- On the height grid, and off it.
    pub anywhere : OutAndBackAnywhere b p h
    anywhere = by (inside grid.heights bessel) refl
      where
        by : (s : Bool) → inside grid.heights bessel ≡ s → OutAndBackAnywhere b p h
        by true i =
            let z = quasi_geoid_at grid bessel in
            let heights = unbounded_heights b l o c in
            let m = height_goes_back h z (fix_within out_height_limit p h t).1 (heights.value.limit bessel i) in
            trip (Some z) (h -ℤ z) (h -ℤ z +ℤ z) 0 (heights.answered bessel i) refl refl m (λ e. -ℤ-+ℤ_cancel h z)
        by false i =
            trip None (pos 0) (pos 0) no_height_number (no_height b l o c bessel i) refl refl (omega arith) (λ e. absurd (omega arith))
