-- A grid's source where the heights stand at the corrections' nodes and where they stand on a separate grid, with bounds or without, and
-- the limit of the heights that it gives.
use mathlib.Core.Bool.{Bool, true, false, cond, ◌&&◌, ◌||◌}
use mathlib.Core.Path.{◌≡◌, refl, sym, ap, subst, ◌∙◌}
use Prim.Native.Nat.{ℕ, ◌≤◌}
use lib.IntN.{ℤ, nat_abs, ◌+ℤ◌}
use Rattle.std.specs.Prelude.{Some, None}
use Rattle.rules.specs.declared.Geometry.{Geometry}
use Rattle.rules.specs.declared.Point.{Point}
use Rattle.rules.specs.declared.Correction.{Correction}
use Rattle.rules.specs.Units.{correction_limit, quasi_geoid_limit}
use Rattle.rules.specs.Answers.{Outcome, values, number, ask, and_then}
use Rattle.rules.specs.Image.{Grid}
use Rattle.rules.specs.Limits.{GeometryPasses, OpenAround, CorrectionWithin}
use Rattle.rules.specs.Bilinear.{corners_for, value_at}
use Rattle.rules.specs.Lookup.{Height, inside, square_passes, question9, corrections_pass, heights_pass}
use Rattle.rules.specs.Lookup.{correction_lookup, correction_grid_lookup, height_lookup, height_grid_lookup, grid_for, height_or_none}
use Rattle.rules.specs.Ways.{Source, plus, answer_at, back, bounded_source, unbounded_source, source_of}
use Rattle.rules.proofs.Answers.{asked, followed}
use Rattle.rules.proofs.Cells.{point_within}
use Rattle.rules.proofs.Limits.{corners_within}
use Rattle.image.specs.declared.fit.FitImage.{FitImage}
use Rattle.image.specs.Fit.{grid_in}
use Rattle.lookup.specs.declared.HeldCell.{HeldCell}
use Rattle.lookup.specs.declared.PointValues.{PointValues}
use Rattle.lookup.specs.Held.{Bounded, Holds, held_at, height_in, value_in, PointFound, point_found, values_found, node_lookup}
use Rattle.grids.specs.Grids.{correction_cell, correction_cell_for, height_cell, corrections_between, height_between, grids_lookup}
use Rattle.grids.specs.Grids.{height_on}
use Rattle.grids.specs.Grids.{height_on_or_none}
use Rattle.lookup.proofs.Covering.{itself_serves}
use Rattle.lookup.proofs.Found.{between_within, cell_holds, found_within, height_from, height_in_within}
use Rattle.lookup.proofs.Places.{in_cell}
use Rattle.source.specs.Asked.{point_lookup, HeightWithin, FoundWithin}

-- The source by whether there are bounds, and its bounds.
pub of_bounded : (g : Grid) → g.unbounded ≡ false → source_of g ≡ bounded_source g
of_bounded g e = rw e

pub of_unbounded : (g : Grid) → g.unbounded ≡ true → source_of g ≡ unbounded_source g
of_unbounded g e = rw e

pub inside_either : (g : Grid) (p : Point) → (source_of g).inside p ≡ (g.unbounded || inside g.corrections p)
inside_either g p = by g.unbounded refl
  where
    by : (t : Bool) → g.unbounded ≡ t → (source_of g).inside p ≡ (g.unbounded || inside g.corrections p)
    by true e = rw e
    by false e = rw e

-- Where both lookups find values, each does; and the way back is what it makes of both.
module _ (s : Source) (q : Point) where
  pub both_found : (v : PointFound) → point_lookup s q ≡ values v
      → (s.corrections q ≡ values v.correction) × (s.height q ≡ values v.height)
  unfolding point_lookup
  both_found v e =
      let c = followed (s.corrections q) _ v e in
      let z = followed (s.height q) _ v c.2 in
      let correction : c.0 ≡ v.correction = cc z.2 in
      let height : z.0 ≡ v.height = cc z.2 in
      (c.1 ∙ ap values correction, z.1 ∙ ap values height)

  by_both : (c : Outcome Correction) (z : Outcome Height) {A : Type 0} (next : PointFound → Outcome A)
      → and_then c (λ c. and_then z (λ z. next (point_found c z)))
      ≡ and_then (and_then c (λ c. and_then z (λ z. values (point_found c z)))) next
  by_both (values c) (values z) next = refl
  by_both (values c) (number n) next = refl
  by_both (number n) z next = refl

  pub back_by_both : (H : ℤ)
      → back s q H ≡ and_then (point_lookup s q) (λ v. values (answer_at (plus q v.correction) (λ z. H +ℤ z) 1 v.height))
  unfolding point_lookup back
  back_by_both H = by_both (s.corrections q) (s.height q) _

-- At the corrections' nodes question 9 is put once for all values.
both_asked : {A B C : Type 0} (t : Bool) (n : ℕ) (a : A) (b : B) (pair : A → B → C)
    → and_then (ask t n (values a)) (λ x. and_then (ask t n (values b)) (λ y. values (pair x y))) ≡ ask t n (values (pair a b))
both_asked true n a b pair = refl
both_asked false n a b pair = refl

pub nodes_asked : (g : Grid) (q : Point) → g.separate ≡ false → g.heights ≡ g.corrections
    → node_lookup g q ≡ point_lookup (bounded_source g) q
unfolding node_lookup point_lookup correction_lookup height_lookup question9 value_at
nodes_asked g q one same = rw (one, same) (sym (both_asked (question9 g q) 9 _ _ point_found))

-- On separate grids the corners of both are read, with the questions in their order, before the values are weighed.
in_order : {A B C D : Type 0} (s t u : Bool) (a : A) (b : B) (f : A → C) (h : B → D) {E : Type 0} (pair : C → D → E)
    → and_then (ask s 9 (values a)) (λ x. and_then (ask t 15 (ask u 9 (values b))) (λ y. values (pair (f x) (h y))))
    ≡ and_then (ask s 9 (values (f a))) (λ x. and_then (ask t 15 (ask u 9 (values (h b)))) (λ y. values (pair x y)))
in_order true true true a b f h pair = refl
in_order true true false a b f h pair = refl
in_order true false u a b f h pair = refl
in_order false t u a b f h pair = refl

pub grids_asked : (g : Grid) (q : Point) → g.separate ≡ true → grids_lookup g q ≡ point_lookup (bounded_source g) q
unfolding grids_lookup correction_cell_for correction_cell height_cell point_lookup correction_grid_lookup height_grid_lookup
    corrections_pass heights_pass value_at value_in
grids_asked g q two =
    let k = grid_for g q in
    let c = k.corrections in
    let h = g.heights in
    in_order (square_passes correction_limit (corners_for c k.latitude q) && square_passes correction_limit (corners_for c k.longitude q))
    (inside h q) (square_passes quasi_geoid_limit (corners_for h g.height q)) _ _
    corrections_between (λ h. Some (height_between h)) point_found
    ∙ (λ i. and_then (cond (sym two i) (correction_grid_lookup k q) (correction_lookup g q)) (λ c.
    and_then (cond (sym two i) (height_grid_lookup g q) (height_lookup g q)) (λ z. values (point_found c z))))

-- The height's lookup, there and on a separate grid.
pub height_of_one : (g : Grid) (q : Point) → g.separate ≡ false → (bounded_source g).height q ≡ height_lookup g q
height_of_one g q one = rw one

pub height_of_two : (g : Grid) (q : Point) → g.separate ≡ true → (bounded_source g).height q ≡ height_on g.heights g.height q
unfolding height_grid_lookup heights_pass height_on
height_of_two g q two = rw two refl

-- And without bounds.
pub height_anywhere : (g : Grid) (q : Point) → height_or_none g q ≡ height_on_or_none g.heights g.height q
unfolding height_or_none heights_pass height_on
height_anywhere g q = by (inside g.heights q) refl
  where
    by : (t : Bool) → inside g.heights q ≡ t → height_or_none g q ≡ height_on_or_none g.heights g.height q
    by true e = rw e refl
    by false e = rw e refl

-- What opening and question 8 establish, of a point in the bounds of a fit image.
pub around : (i : FitImage) (q : Point) → inside (grid_in i).corrections q ≡ true → OpenAround i.bytes.now i.layout q
around i q o = record { layout = i.fits; point = o }

-- The held cell around a point holds it, and at the corrections' nodes has its height.
module _ (i : FitImage) (q : Point) {h : HeldCell} (o : inside (grid_in i).corrections q ≡ true)
    (e : h ≡ held_at (grid_in i).corrections (grid_in i) q)
  where
    abbrev bounded : Bounded (grid_in i).corrections q
    bounded = record { geometry = i.fits.latitude.geometry; point = o }

    pub around_holds : Holds h (grid_in i).corrections q
    around_holds = cell_holds (grid_in i).corrections (grid_in i) q (itself_serves bounded) bounded h e

    pub height_around : i.layout.separate ≡ false → height_in h (grid_in i).corrections q ≡ height_lookup (grid_in i) q
    height_around one =
        rw e (height_from (grid_in i).corrections (grid_in i) q (itself_serves bounded) one (i.fits.height_geometry one))

-- A height that is found is within question 9's limit.
on_within : (g : Geometry) (f : ℕ → ℕ → ℤ) (q : Point) (z : ℤ) → GeometryPasses g → height_on g f q ≡ values (Some z)
    → nat_abs z ≤ quasi_geoid_limit
unfolding height_on value_at value_in
on_within g f q z o e =
    let inner = asked (inside g q) 15 _ (Some z) e in
    let t = asked (square_passes quasi_geoid_limit (corners_for g f q)) 9 _ (Some z) inner.1 in
    let v : value_at g f q ≡ z = cc t.1 in
    rw v at (between_within (corners_for g f q) (corners_within _ _ t.0) (in_cell (record { geometry = o; point = inner.0 })))

pub height_within : (i : FitImage) (q : Point) (z : ℤ) → inside (grid_in i).corrections q ≡ true
    → (bounded_source (grid_in i)).height q ≡ values (Some z) → nat_abs z ≤ quasi_geoid_limit
height_within i q z o e = by i.layout.separate refl
  where
    g : Grid
    g = grid_in i

    by : (separate : Bool) → i.layout.separate ≡ separate → nat_abs z ≤ quasi_geoid_limit
    by false one =
        height_in_within (held_at g.corrections g q) g.corrections q z (around_holds i q o refl)
        (height_around i q o refl one ∙ sym (height_of_one g q one) ∙ e)
    by true two = on_within g.heights g.height q z i.fits.height.geometry (sym (height_of_two g q two) ∙ e)

within_found : (o : Outcome Height) → ((z : ℤ) → o ≡ values (Some z) → nat_abs z ≤ quasi_geoid_limit) → FoundWithin o
within_found (values (Some z)) h = h z refl
within_found (values None) h = tt
within_found (number n) h = tt

pub bounded_within : (i : FitImage) (q : Point) → inside (grid_in i).corrections q ≡ true
    → FoundWithin ((bounded_source (grid_in i)).height q)
bounded_within i q o = within_found _ (λ z e. height_within i q z o e)

pub anywhere_within : (g : Geometry) (f : ℕ → ℕ → ℤ) (q : Point) → GeometryPasses g → FoundWithin (height_on_or_none g f q)
anywhere_within g f q o = by (inside g q) refl
  where
    by : (t : Bool) → inside g q ≡ t → FoundWithin (height_on_or_none g f q)
    by true e = rw e (within_found _ (λ z h. on_within g f q z o h))
    by false e = rw e tt

pub found_anywhere : (g : Geometry) (f : ℕ → ℕ → ℤ) (q : Point) (found : Height) → GeometryPasses g
    → values found ≡ height_on_or_none g f q → HeightWithin found
found_anywhere g f q found o e = subst FoundWithin (sym e) (anywhere_within g f q o)

-- And so are all values that both lookups find.
pub both_within : (i : FitImage) (q : Point) (v : PointValues) → inside (grid_in i).corrections q ≡ true
    → values (values_found v) ≡ point_lookup (bounded_source (grid_in i)) q
    → CorrectionWithin v.correction × (nat_abs v.height ≤ quasi_geoid_limit)
both_within i q v o e =
    let k = both_found (bounded_source (grid_in i)) q (values_found v) (sym e) in
    (found_within i.bytes.now i.layout q v.correction (around i q o) k.0, height_within i q v.height o k.1)

-- By which the way back over an opened image is proved.
pub ruleset found_back = (point_within, both_within, back_by_both)
