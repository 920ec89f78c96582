-- Figures of our own for kind 2, computed from bytes: points past each bound and far away, on the bounds, off the height grid, question 22,
-- and the order of the questions.
use mathlib.Core.Bool.{cond, ◌&&◌}
use mathlib.Core.List.{List, ◌++◌}
use mathlib.Core.Path.{◌≡◌, refl}
use Prim.Native.Nat.{ℕ}
use lib.Dec.{eqb}
use lib.IntN.{ℤ, pos, neg_ℤ}
use Rattle.integers.specs.Rounding.{round_half_up}
use Rattle.rules.specs.declared.Point.{Point}
use Rattle.rules.specs.Answers.{values, number}
use Rattle.rules.specs.Image.{u64_at, i32_at, i64_at, trailer_of, edition_of, two_grid_trailer_of, plane}
use Rattle.rules.specs.Questions.{question3, question4, bounds_within, question5, back_passes, backs_pass}
use Rattle.rules.specs.Questions.{judge, judge_two, opening_two, opening}
use Rattle.rules.specs.Bilinear.{cell_of, part_of, weighted, bilinear, value_at}
use Rattle.rules.specs.Lookup.{on_axis, inside, square_passes, corrections_pass, heights_pass, correction_grid_lookup, height_grid_lookup}
use Rattle.rules.specs.Lookup.{corrections_or_zero, height_or_none}
use Rattle.rules.specs.Ways.{question7, plus, minus, measured, unmeasured, back, settled, iterate, out, convert_over, convert}
use Rattle.rules.specs.Ways.{way_back, way_out}
use Rattle.rules.specs.Check.{every, largest, all_within, all_pass, step_north, step_east, steps_of, slope_passes, question12, findings_of}
use Rattle.rules.specs.Check.{both_zero, border_zero, question22, check, grid_check}
use Rattle.rules.specs.Figures.{i32_bytes, word, at}
use Rattle.rules.proofs.HeightGrid.{nodes, geometry_bytes, findings}

-- An image of edition 2: corrections at G's nodes, heights of `height` over G's south-west cell.
abbrev image : (kind : ℕ) (latitude longitude : ℕ → ℕ → ℤ) (height : ℤ) → List ℕ
image kind latitude longitude height =
    nodes 3 3 (λ row column. i32_bytes (latitude row column) ++ i32_bytes (longitude row column))
    ++ nodes 2 2 (λ row column. i32_bytes height)
    ++ geometry_bytes 0 1000 3 3 ++ geometry_bytes 0 1000 2 2
    ++ word 168 ++ word 96 ++ word kind ++ word 2

-- Zero but for one node, and one value at every node.
abbrev one_node : (row column : ℕ) → ℤ → ℕ → ℕ → ℤ
one_node i j z row column = cond (eqb row i && eqb column j) z (pos 0)

abbrev level : ℤ → ℕ → ℕ → ℤ
level z row column = z

-- Kind 2, with 5 and −5 at the middle node alone; with another latitude correction at one node; and with 100 at every node.
abbrev raised : List ℕ
raised = image 2 (one_node 1 1 (pos 5)) (one_node 1 1 (neg_ℤ (pos 5))) (pos 430000)

abbrev with : (row column : ℕ) → ℤ → List ℕ
with row column z = image 2 (one_node row column z) (level (pos 0)) (pos 430000)

abbrev hundred : (kind : ℕ) → List ℕ
hundred kind = image kind (level (pos 100)) (level (pos 0)) (pos 430000)

-- A point by its degrees.
abbrev degrees_at : (latitude longitude : ℤ) → Point
degrees_at x y = record { latitude = x; longitude = y }

pub record PastTheEdge : Type 0 where
  -- 1 nd past each bound: the point stays, without a height, though a height is given
  pub south_of_it : way_out raised (at (neg_ℤ (pos 1)) (pos 500)) (pos 7) ≡ values (unmeasured (at (neg_ℤ (pos 1)) (pos 500)) 1)
  pub north_of_it : way_out raised (at (pos 2001) (pos 500)) (pos 7) ≡ values (unmeasured (at (pos 2001) (pos 500)) 1)
  pub west_of_it : way_back raised (at (pos 500) (neg_ℤ (pos 1))) (pos 7) ≡ values (unmeasured (at (pos 500) (neg_ℤ (pos 1))) 1)
  pub east_of_it : way_back raised (at (pos 500) (pos 2001)) (pos 7) ≡ values (unmeasured (at (pos 500) (pos 2001)) 1)
  -- far away, up to question 7's limits; past them a 7
  pub far_away : way_out raised (degrees_at (neg_ℤ (pos 90000000000)) (pos 180000000000)) (pos 7)
      ≡ values (unmeasured (degrees_at (neg_ℤ (pos 90000000000)) (pos 180000000000)) 1)
  pub past_limits : way_out raised (degrees_at (pos 90000000001) (pos 0)) (pos 7) ≡ number 7
  -- on a bound the node's correction counts, 1 nd past it none; a bound of the heights has one
  pub on_the_bound : way_back (hundred 2) (at (pos 0) (pos 500)) (pos 0) ≡ values (measured (at (pos 100) (pos 500)) (pos 430000) 1)
  pub past_the_bound : way_back (hundred 2) (at (neg_ℤ (pos 1)) (pos 500)) (pos 0) ≡ values (unmeasured (at (neg_ℤ (pos 1)) (pos 500)) 1)
  pub on_the_far_bound : way_back (hundred 2) (at (pos 2000) (pos 2000)) (pos 0) ≡ values (unmeasured (at (pos 2100) (pos 2000)) 1)
  pub on_the_heights_bound : way_back raised (at (pos 1000) (pos 1000)) (pos 7) ≡ values (measured (at (pos 1005) (pos 995)) (pos 430007) 1)
  -- off the height grid alone: 1.25 and −1.25 are 1 and −1; and out again
  pub off_the_heights : way_back raised (at (pos 1500) (pos 1500)) (pos 7) ≡ values (unmeasured (at (pos 1501) (pos 1499)) 1)
  pub out_off_the_heights : way_out raised (at (pos 1501) (pos 1499)) (pos 7) ≡ values (unmeasured (at (pos 1500) (pos 1500)) 1)
  pub on_the_heights : way_out raised (at (pos 602) (pos 450)) (pos 430007) ≡ values (measured (at (pos 601) (pos 451)) (pos 7) 1)
  -- a way out that leaves the bounds goes on, here to and fro; kind 0 has a 10, and an 8 past a bound
  pub to_and_fro : way_out (hundred 2) (at (pos 50) (pos 500)) (pos 0) ≡ number 11
  pub kind_0_leaves : way_out (hundred 0) (at (pos 50) (pos 500)) (pos 0) ≡ number 10
  pub kind_0_outside : way_back (hundred 0) (at (neg_ℤ (pos 1)) (pos 500)) (pos 0) ≡ number 8
  -- question 9 asks the cells used, and no others
  pub cell_asked : way_back (with 0 0 (pos 10000001)) (at (pos 10) (pos 10)) (pos 0) ≡ number 9
  pub no_cell_asked : way_back (with 0 0 (pos 10000001)) (at (neg_ℤ (pos 1)) (pos 10)) (pos 0)
      ≡ values (unmeasured (at (neg_ℤ (pos 1)) (pos 10)) 1)
  pub heights_asked : way_back (image 2 (level (pos 0)) (level (pos 0)) (pos 1000001)) (at (pos 10) (pos 10)) (pos 0) ≡ number 9
  pub no_heights_asked : way_back (image 2 (level (pos 0)) (level (pos 0)) (pos 1000001)) (at (pos 1500) (pos 10)) (pos 0)
      ≡ values (unmeasured (at (pos 1500) (pos 10)) 1)

-- Question 22 and its place.
pub record ZeroBorder : Type 0 where
  pub inner_node : grid_check raised ≡ values (findings 5 5 5 5 0 0)
  pub south_side : grid_check (with 0 1 (pos 1)) ≡ number 22
  pub north_side : grid_check (with 2 1 (pos 1)) ≡ number 22
  pub west_side : grid_check (with 1 0 (pos 1)) ≡ number 22
  pub east_side : grid_check (with 1 2 (neg_ℤ (pos 1))) ≡ number 22
  pub corner : grid_check (with 2 2 (pos 1)) ≡ number 22
  pub longitude : grid_check (image 2 (level (pos 0)) (one_node 1 2 (pos 1)) (pos 430000)) ≡ number 22
  pub kind_0_not_asked : grid_check (hundred 0) ≡ values (findings 0 0 0 0 0 0)
  -- after 9, before 12
  pub limits_first : grid_check (with 0 1 (pos 10000001)) ≡ number 9
  pub slopes_last : grid_check (with 0 1 (pos 1000)) ≡ number 22
  pub slopes_asked : grid_check (with 1 1 (pos 6)) ≡ number 12

pub past_the_edge : PastTheEdge × ZeroBorder
unfolding round_half_up u64_at i32_at i64_at trailer_of edition_of two_grid_trailer_of plane question3 question4 bounds_within question5 back_passes
    backs_pass judge judge_two opening_two opening cell_of part_of weighted bilinear value_at on_axis inside square_passes corrections_pass
    heights_pass correction_grid_lookup height_grid_lookup corrections_or_zero height_or_none question7 plus minus back settled iterate out
    convert_over convert every largest all_within all_pass step_north step_east steps_of slope_passes question12 findings_of both_zero border_zero
    question22 check grid_check
past_the_edge = (
  record {
    south_of_it = refl;
    north_of_it = refl;
    west_of_it = refl;
    east_of_it = refl;
    far_away = refl;
    past_limits = refl;
    on_the_bound = refl;
    past_the_bound = refl;
    on_the_far_bound = refl;
    on_the_heights_bound = refl;
    off_the_heights = refl;
    out_off_the_heights = refl;
    on_the_heights = refl;
    to_and_fro = refl;
    kind_0_leaves = refl;
    kind_0_outside = refl;
    cell_asked = refl;
    no_cell_asked = refl;
    heights_asked = refl;
    no_heights_asked = refl;
  },
  record {
    inner_node = refl;
    south_side = refl;
    north_side = refl;
    west_side = refl;
    east_side = refl;
    corner = refl;
    longitude = refl;
    kind_0_not_asked = refl;
    limits_first = refl;
    slopes_last = refl;
    slopes_asked = refl;
  },
)
