-- Corners that were read with their questions answered yes can be weighed, and the lookups weigh them.
use Rattle.std.specs.Prelude.{Some}
use mathlib.Core.Bool.{Bool, true, false}
use mathlib.Core.Path.{◌≡◌, refl, subst}
use Prim.Native.Nat.{ℕ}
use lib.IntN.{ℤ}
use Rattle.integers.specs.Booleans.{and_left, and_right}
use Rattle.rules.specs.declared.Geometry.{Geometry}
use Rattle.rules.specs.declared.Point.{Point}
use Rattle.rules.specs.Units.{correction_limit, quasi_geoid_limit}
use Rattle.rules.specs.Answers.{values, ask, and_then}
use Rattle.rules.specs.Limits.{GeometryPasses}
use Rattle.rules.specs.Bilinear.{corners_for, value_at}
use Rattle.rules.specs.declared.Square.{Square}
use Rattle.rules.specs.Image.{Grid}
use Rattle.rules.specs.Lookup.{inside, square_passes, corrections_pass, correction_grid_lookup}
use Rattle.rules.proofs.Answers.{asked, asked_then}
use Rattle.rules.proofs.Limits.{corners_within}
use Rattle.lookup.specs.Held.{Bounded, spacings_of, cell_place, value_in}
use Rattle.lookup.proofs.Places.{in_cell}
use Rattle.lookup.specs.declared.Placed.{Placed}
use Rattle.grids.specs.declared.CorrectionSquares.{CorrectionSquares}
use Rattle.grids.specs.Grids.{squares_pass, placed_squares, correction_cell, asked_height, height_cell, CorrectionsWeighed, HeightsWeighed}
use Rattle.grids.specs.Grids.{corrections_between, height_between, height_on}

pub corrections_weighed : {g : Geometry} {p : Point} {c : Placed CorrectionSquares} (f h : ℕ → ℕ → ℤ) → Bounded g p
    → correction_cell g f h p ≡ values c → CorrectionsWeighed c
unfolding correction_cell
corrections_weighed {g} {p} {c} f h b e =
    let cell = placed_squares g f h p in
    let t = asked (squares_pass cell.corners) 9 _ c e in
    let same : cell ≡ c = cc t.1 in
    subst CorrectionsWeighed same
    (record {
      latitude_within = corners_within _ _ (and_left (square_passes correction_limit cell.corners.latitude) _ t.0);
      longitude_within = corners_within _ _ (and_right (square_passes correction_limit cell.corners.latitude) _ t.0);
      place = in_cell b;
    })

pub heights_weighed : {g : Geometry} {h : Placed Square} (f : ℕ → ℕ → ℤ) (q : Point) → Bounded g q → asked_height g f q ≡ values h
    → HeightsWeighed h
heights_weighed {g} {h} f q b e =
    let t = asked (square_passes quasi_geoid_limit (corners_for g f q)) 9 _ h e in
    let same : ◌≡◌ {A = Placed Square} (record { corners = corners_for g f q; spacings = spacings_of g; at = (cell_place g q).at }) h =
    cc t.1 in
    subst HeightsWeighed same (record { height_within = corners_within _ _ t.0; place = in_cell b })

-- On the height grid question 15 was answered yes.
pub heights_asked : {g : Geometry} {h : Placed Square} (f : ℕ → ℕ → ℤ) (q : Point) → GeometryPasses g → height_cell g f q ≡ values h
    → HeightsWeighed h
unfolding height_cell
heights_asked {g} {h} f q o e =
    let i = asked (inside g q) 15 _ h e in
    heights_weighed f q (record { geometry = o; point = i.0 }) i.1

-- Two questions, and then what comes of the values.
then_two : {A B : Type 0} (s t : Bool) (m n : ℕ) (a : A) (f : A → B)
    → and_then (ask s m (ask t n (values a))) (λ x. values (f x)) ≡ ask s m (ask t n (values (f a)))
then_two true true m n a f = refl
then_two true false m n a f = refl
then_two false t m n a f = refl

-- The height's lookup weighs the corners of the point's cell.
pub height_weighed : (g : Geometry) (f : ℕ → ℕ → ℤ) (q : Point)
    → and_then (height_cell g f q) (λ h. values (Some (height_between h))) ≡ height_on g f q
unfolding height_cell height_on value_at value_in
height_weighed g f q = then_two (inside g q) (square_passes quasi_geoid_limit (corners_for g f q)) 15 9 _ (λ h. Some (height_between h))

-- So does the corrections' lookup, and the height's where question 15 is not put.
pub corrections_found : (g : Grid) (p : Point)
    → and_then (correction_cell g.corrections g.latitude g.longitude p) (λ c. values (corrections_between c)) ≡ correction_grid_lookup g p
unfolding correction_cell correction_grid_lookup corrections_pass value_at value_in
corrections_found g p =
    asked_then (squares_pass (placed_squares g.corrections g.latitude g.longitude p).corners) 9 _ (λ c. values (corrections_between c))

pub height_found : (g : Geometry) (f : ℕ → ℕ → ℤ) (q : Point) → inside g q ≡ true
    → and_then (asked_height g f q) (λ h. values (Some (height_between h))) ≡ height_on g f q
unfolding height_on value_at value_in
height_found g f q i =
    rw i (asked_then (square_passes quasi_geoid_limit (corners_for g f q)) 9 _ (λ h. values (Some (height_between h))))
