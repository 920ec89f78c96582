-- The return promise (demand 3), for every list of bytes that passes the grid check: by the angles' half without a dense grid, with one, or
-- of kind 2, and the heights' half, which is the same for all; and kind 2's trips from anywhere.
use Rattle.std.specs.Prelude.{Bool, true, false, cond, List, ◌≡◌, refl, ℕ, ℤ}
use Rattle.std.proofs.lemmas.Bool.{false≢true}
use Rattle.std.proofs.Common.{sym, ap, ◌∙◌, arith}
use Rattle.rules.specs.declared.Layout.{Layout}
use Rattle.rules.specs.declared.Point.{Point}
use Rattle.rules.specs.declared.Correction.{Correction}
use Rattle.rules.specs.Units.{out_height_limit}
use Rattle.rules.specs.Answers.{values}
use Rattle.rules.specs.Image.{Grid, grid_of}
use Rattle.rules.specs.Limits.{Open}
use Rattle.rules.specs.Questions.{opening}
use Rattle.rules.specs.Lookup.{inside, quasi_geoid_at}
use Rattle.rules.specs.Ways.{Source, bounded_source, unbounded_source, source_of, question7, convert_over, convert}
use Rattle.rules.specs.Check.{grid_check}
use Rattle.rules.specs.Promise.{Margins, OutAndBackAnywhere, ReturnPromise, Promised}
use Rattle.rules.proofs.Opening.{opened}
use Rattle.rules.proofs.Answers.{followed}
use Rattle.rules.proofs.Cells.{point_within}
use Rattle.returning.proofs.Angles.{stop_at_one}
use Rattle.returning.specs.Trips.{SteadySource, Rooms, Converts}
use Rattle.returning.proofs.Trips.{fixes}
use Rattle.returning.proofs.PointTrip.{others}
use Rattle.returning.proofs.PointTrips.{points}
use Rattle.returning.proofs.Crossing.{stop_at_three}
use Rattle.returning.specs.Passing.{Passes}
use Rattle.returning.proofs.Passing.{passes, heights, angles, room}
use Rattle.returning.specs.Nested.{nested_corrections}
use Rattle.returning.proofs.Nested.{nested_angles}
use Rattle.returning.proofs.Unbounded.{unbounded_angles, unbounded_heights}
use Rattle.returning.proofs.Anywhere.{anywhere}

module _ {size : ℕ} (b : List ℕ) (l : Layout) (o : Open size l) (c : Passes (grid_of b l)) (same : Converts b (source_of (grid_of b l))) where
  abbrev grid : Grid
  grid = grid_of b l

  -- The conversions are those of the one source or of the other.
  converts : (unbounded : Bool) → l.unbounded ≡ unbounded → Converts b (cond unbounded (unbounded_source grid) (bounded_source grid))
  converts t e w p h = same w p h ∙ ap (λ (t : Bool). convert_over w (cond t (unbounded_source grid) (bounded_source grid)) p h) e

  -- A point inside both margins has room in both bounds, where those of the corrections are the grid's or wider.
  rooms : {s : Source} → ((q : Point) → inside grid.corrections q ≡ true → s.inside q ≡ true)
      → (d : ℕ) (p : Point) → Margins d l p → Rooms s (inside grid.heights) d p
  rooms wide d p n =
      let around = room grid.corrections d p n.corrections in
      record {
        corrections = λ q h. wide q (around q h);
        heights = room _ d p n.heights;
        limits = λ q h. point_within _ q o.latitude.geometry (around q h);
      }

  -- Without a dense grid, and for kind 2 from anywhere.
  coarse_promise : {s : Source} {at : Point → Correction} → SteadySource s at stop_at_one (inside grid.heights) (quasi_geoid_at grid)
      → Converts b s → ((q : Point) → inside grid.corrections q ≡ true → s.inside q ≡ true) → l.nested ≡ false
      → (l.unbounded ≡ true → (p : Point) (h : ℤ) → question7 out_height_limit p h ≡ true → OutAndBackAnywhere b p h) → ReturnPromise b l
  coarse_promise t same wide none from-anywhere =
      record {
        fixes = λ p h n k. fixes t b same l (rw none (omega arith)) (λ e. others t b same) p h (rooms wide _ p n) k;
        points = λ e q H n k. points t b same q H (rooms wide _ q n) k;
        anywhere = from-anywhere;
      }

  bounded_promise : l.unbounded ≡ false → l.nested ≡ false → ReturnPromise b l
  bounded_promise u none =
      coarse_promise record { angles = angles b l o c none; heights = heights b l o c } (converts false u) (λ q i. i) none
      (λ e. absurd (false≢true (sym u ∙ e)))

  unbounded_promise : l.unbounded ≡ true → ReturnPromise b l
  unbounded_promise u =
      coarse_promise record { angles = unbounded_angles b l o c u; heights = unbounded_heights b l o c } (converts true u) (λ q i. refl)
      (o.not_nested u) (λ e. anywhere b l o c u (converts true u))

  nested_promise : l.unbounded ≡ false → l.nested ≡ true → ReturnPromise b l
  nested_promise u nested =
      let t : SteadySource (bounded_source grid) (nested_corrections grid) stop_at_three (inside grid.heights) (quasi_geoid_at grid) =
      record { angles = nested_angles b l o c nested; heights = heights b l o c } in
      let no : l.nested ≡ false → ⊥ = λ e. false≢true (sym e ∙ nested) in
      record {
        fixes = λ p h n k.
            fixes t b (converts false u) l (rw nested (omega arith)) (λ e. absurd (no e)) p h (rooms (λ q i. i) _ p n) k;
        points = λ e. absurd (no e);
        anywhere = λ e. absurd (false≢true (sym u ∙ e));
      }

  return_promise : (unbounded nested : Bool) → l.unbounded ≡ unbounded → l.nested ≡ nested → ReturnPromise b l
  return_promise true nested u e = unbounded_promise u
  return_promise false false u e = bounded_promise u e
  return_promise false true u e = nested_promise u e

-- The conversions of an image that opens are those of its grid.
over_grid : (b : List ℕ) (l : Layout) → opening b ≡ values l → Converts b (source_of (grid_of b l))
unfolding convert
over_grid b l e w p h = rw e

pub promise : Promised
unfolding grid_check
promise b f c =
    let o = followed (opening b) _ f c in
    let l = o.0 in
    let k = return_promise b l (opened b l o.1) (passes (grid_of b l) f o.2) (over_grid b l o.1) in
    (l, o.1, k l.unbounded l.nested refl refl)
