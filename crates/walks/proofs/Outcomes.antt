-- What the walks find: question 9 of the nodes is that of each plane, and the walk over planes of one geometry and those over the
-- corrections and over the heights find the same.
use mathlib.Core.Bool.{Bool, true, false, ◌&&◌}
use mathlib.Core.List.{List}
use mathlib.Core.Path.{◌≡◌, refl, sym, ap, ◌∙◌}
use Prim.Native.Nat.{ℕ}
use lib.IntN.{ℤ}
use Rattle.rules.specs.declared.Geometry.{Geometry}
use Rattle.rules.specs.declared.Steps.{Steps}
use Rattle.rules.specs.declared.Plane.{Plane}
use Rattle.rules.specs.declared.Layout.{Layout}
use Rattle.rules.specs.declared.Findings.{Findings}
use Rattle.rules.specs.Units.{within, correction_limit, quasi_geoid_limit}
use Rattle.rules.specs.Answers.{Outcome, values, ask, and_then}
use Rattle.rules.specs.Image.{Grid, plane, grid_of, rows, columns}
use Rattle.rules.specs.Check.{every, all_within, all_pass, findings_of}
use Rattle.rules.proofs.Largest.{every_both}
use Rattle.steps.specs.declared.CorrectionSteps.{CorrectionSteps}
use Rattle.steps.specs.Walk.{node_passes, no_findings, with_nodes, walk_over, correction_passes, no_correction_steps, with_corrections}
use Rattle.walks.specs.Rows.{row_passes, over_rows, plane_walk, corrections_walk, grid_walk}
use Rattle.walks.proofs.Rows.{node_at, correction_at}
use Rattle.walks.proofs.Maxima.{corrections_left, found_all}

-- The outcomes of a walk over the heights and of one over the corrections, as one.
abbrev pub in_turn : Outcome Steps → Outcome CorrectionSteps → Outcome Findings
in_turn height corrections =
    and_then height (λ h.
    and_then corrections (λ c. values (record { latitude = c.latitude; longitude = c.longitude; height = h })))

-- A plane's values within a limit, by row and column.
abbrev inside : List ℕ → (limit : ℕ) → Plane → (row column : ℕ) → Bool
inside b limit p row column = within limit (plane b p row column)

-- Question 9 of two such at each node is that of both.
both_inside : (g : Geometry) (s t : ℕ → ℕ → Bool) → every (rows g) (λ row. every (columns g) (λ column. s row column && t row column))
    ≡ (every (rows g) (λ row. every (columns g) (s row)) && every (rows g) (λ row. every (columns g) (t row)))
both_inside g s t = ap (every (rows g)) (λ i row. every_both (columns g) (s row) (t row) i) ∙ every_both (rows g) _ _

-- The walk over the rows of two planes of corrections, and over those of three planes of one geometry.
pub corrections_found : (b : List ℕ) (p q : Plane) (g : Geometry)
    → over_rows (λ _. correction_passes) with_corrections (correction_at b p q) g no_correction_steps
    ≡ corrections_walk g (plane b p) (plane b q)
unfolding walk_over corrections_walk correction_passes all_within
corrections_found b p q g = rw (both_inside g (inside b correction_limit p) (inside b correction_limit q), corrections_left b p q g)

module _ (b : List ℕ) (l : Layout) where
  abbrev g : Geometry
  g = l.latitude.geometry

  all_pass_lem : l.height.geometry ≡ g
      → every (rows g) (row_passes (λ _. node_passes) (node_at b l) (columns g)) ≡ all_pass (grid_of b l)
  unfolding all_pass all_within node_passes
  all_pass_lem one =
      let latitude = inside b correction_limit l.latitude in
      let longitude = inside b correction_limit l.longitude in
      let height = inside b quasi_geoid_limit l.height in
      both_inside g latitude (λ row column. longitude row column && height row column)
      ∙ ap (λ (x : Bool). all_within correction_limit g (plane b l.latitude) && x) (both_inside g longitude height)
      ∙ ap over (sym one)
    where
      over : Geometry → Bool
      over h =
          all_within correction_limit g (plane b l.latitude)
          && (all_within correction_limit g (plane b l.longitude) && all_within quasi_geoid_limit h (plane b l.height))

  pub grid_found : l.height.geometry ≡ g
      → over_rows (λ _. node_passes) with_nodes (node_at b l) g no_findings ≡ grid_walk (grid_of b l)
  unfolding walk_over grid_walk
  grid_found one = rw (all_pass_lem one, found_all b l one)

-- A walk for the heights and one for both corrections: question 9 stops them where it stops one.
in_turn_lem : (s t u : Bool) (x y z : Steps)
    → ask (s && (t && u)) 9 (values (record { latitude = x; longitude = y; height = z }))
    ≡ in_turn (ask u 9 (values z)) (ask (s && t) 9 (values (record { latitude = x; longitude = y })))
in_turn_lem true true true x y z = refl
in_turn_lem true true false x y z = refl
in_turn_lem true false true x y z = refl
in_turn_lem true false false x y z = refl
in_turn_lem false t true x y z = refl
in_turn_lem false t false x y z = refl

pub grids_found : (g : Grid) → grid_walk g
    ≡ in_turn (plane_walk quasi_geoid_limit g.heights g.height) (corrections_walk g.corrections g.latitude g.longitude)
unfolding grid_walk corrections_walk plane_walk all_pass findings_of
grids_found g =
    let corrections : (ℕ → ℕ → ℤ) → Bool = all_within correction_limit g.corrections in
    in_turn_lem (corrections g.latitude) (corrections g.longitude) (all_within quasi_geoid_limit g.heights g.height) _ _ _
