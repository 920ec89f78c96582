-- Figures of our own for kind 1, computed from bytes: a dense grid in the north-east cell of a coarse one, its border 1 nd off and just
-- past that, its bounds, its stop distance, and the order of the questions.
use mathlib.Core.Bool.{false}
use mathlib.Core.List.{List, ◌++◌}
use mathlib.Core.Path.{◌≡◌, refl}
use Prim.Native.Nat.{ℕ, zero, suc, ◌+◌, ◌*◌}
use lib.IntN.{ℤ, pos, neg_ℤ}
use lib.ListN.{drop, set}
use Rattle.integers.specs.Rounding.{round_half_up}
use Rattle.rules.specs.declared.Geometry.{Geometry}
use Rattle.rules.specs.Answers.{values, number}
use Rattle.rules.specs.Image.{u64_at, i32_at, i64_at, trailer_of, edition_of, two_grid_trailer_of, dense_trailer_of, plane}
use Rattle.rules.specs.Questions.{question3, question4, bounds_within, question5, back_passes, backs_pass, all_backs_pass}
use Rattle.rules.specs.Questions.{judge, judge_two, judge_nested, opening_nested, opening_two, opening}
use Rattle.rules.specs.Bilinear.{cell_of, part_of, weighted, bilinear, value_at, exact_sum}
use Rattle.rules.specs.Lookup.{on_axis, inside, square_passes, corrections_pass, heights_pass, correction_grid_lookup, height_grid_lookup}
use Rattle.rules.specs.Dense.{on_line, axis_aligned, question20}
use Rattle.rules.specs.Ways.{question7, plus, minus, measured, back, settled, iterate, out, convert_over, convert, way_back, way_out}
use Rattle.rules.specs.Check.{every, largest, all_within, all_pass, step_north, step_east, steps_of, slope_passes, question12, findings_of}
use Rattle.rules.specs.Check.{dense_passes, dense_slopes_pass, agrees, rows_agree, columns_agree, border_agrees, question21}
use Rattle.rules.specs.Check.{check, grid_check}
use Rattle.rules.specs.Figures.{word, i32_bytes, at}
use Rattle.rules.proofs.HeightGrid.{nodes, geometry_bytes, findings}

-- An image of edition 2: G's geometry with latitude corrections of 300, 305 and 310 by row, and heights of 430,000 at its corners.
abbrev coarse : (kind : ℕ) → List ℕ
coarse kind =
    nodes 3 3 (λ row column. i32_bytes (pos (300 + 5 * row)) ++ i32_bytes (neg_ℤ (pos 50)))
    ++ nodes 2 2 (λ row column. word 430000)
    ++ geometry_bytes 0 1000 3 3 ++ geometry_bytes 0 2000 2 2
    ++ word 168 ++ word 96 ++ word kind ++ word 2

-- The same as kind 1, 276 bytes, with a dense grid of 3 rows and columns, every `spacing` nd from (offset, offset).
abbrev nested : (dense : ℕ → ℕ → ℤ) (offset spacing : ℕ) → List ℕ
nested dense offset spacing =
    nodes 3 3 (λ row column. i32_bytes (dense row column) ++ i32_bytes (neg_ℤ (pos 50)))
    ++ geometry_bytes offset spacing 3 3 ++ word 276 ++ coarse 1

-- Dense corrections by row: 306, then 307 with `middle` between them, then 310. The parent has 305, 307.5 and 310 there, so the first row
-- is 1 nd off and the sides of the second half a nd.
abbrev side_or_middle : (side middle : ℕ) → ℕ → ℤ
side_or_middle side middle zero = pos side
side_or_middle side middle (suc zero) = pos middle
side_or_middle side middle (suc (suc column)) = pos side

abbrev rows_of : (south side middle : ℕ) → ℕ → ℕ → ℤ
rows_of south side middle zero column = pos south
rows_of south side middle (suc zero) column = side_or_middle side middle column
rows_of south side middle (suc (suc row)) column = pos 310

abbrev corner : List ℕ
corner = nested (rows_of 306 307 309) 1000 500

-- The same with two bytes changed, by place and value.
abbrev changed : (place value place' value' : ℕ) → List ℕ
changed place value place' value' = set (set corner place value) place' value'

-- A geometry with one axis both ways.
abbrev square : (start : ℤ) (spacing count : ℕ) → Geometry
square start spacing count =
    record {
      latitude = record { start = start; spacing = spacing; count = count };
      longitude = record { start = start; spacing = spacing; count = count };
    }

pub record DenseGrid : Type 0 where
  -- the first row is 1 nd above the parent; with 304 it is 1 nd below, with 307 2 nd above
  pub one_off : grid_check corner ≡ values (findings 5 0 0 0 0 0)
  pub one_below : grid_check (nested (rows_of 304 307 307) 1000 500) ≡ values (findings 5 0 0 0 0 0)
  pub two_off : grid_check (nested (rows_of 307 307 308) 1000 500) ≡ number 21
  -- 309 at the sides is 1 nd from the rounded 308, and 1.5 from the exact 307.5; 306 is 1.5 from it too
  pub against_the_exact_value : grid_check (nested (rows_of 306 309 309) 1000 500) ≡ number 21
  pub half_off_on_both_sides : grid_check (nested (rows_of 306 308 308) 1000 500) ≡ values (findings 5 0 0 0 0 0)
  -- the south-west corner node alone, the north-east one, and a longitude
  pub corner_asked : grid_check (changed 0 52 0 52) ≡ number 21
  pub far_corner_asked : grid_check (changed 64 52 64 52) ≡ number 21
  pub longitude_asked : grid_check (changed 4 204 4 204) ≡ number 21
  -- a node of the dense grid beyond its limit; steps of 4 and 3 in the dense grid: 100 × 7 × 500 is more than 500 × 500
  pub dense_limits : grid_check (changed 3 1 3 1) ≡ number 9
  pub dense_slope : grid_check (nested (rows_of 306 307 310) 1000 500) ≡ number 12
  -- back: the dense node inside, on the dense bounds the dense values, 1 nd outside the parent's
  pub inside_it : way_back corner (at (pos 1500) (pos 1500)) (pos 0) ≡ values (measured (at (pos 1809) (pos 1450)) (pos 430000) 1)
  pub on_south_bound : way_back corner (at (pos 1000) (pos 1500)) (pos 0) ≡ values (measured (at (pos 1306) (pos 1450)) (pos 430000) 1)
  pub south_of_it : way_back corner (at (pos 999) (pos 1500)) (pos 0) ≡ values (measured (at (pos 1304) (pos 1450)) (pos 430000) 1)
  pub on_west_bound : way_back corner (at (pos 1500) (pos 1000)) (pos 0) ≡ values (measured (at (pos 1807) (pos 950)) (pos 430000) 1)
  pub west_of_it : way_back corner (at (pos 1500) (pos 999)) (pos 0) ≡ values (measured (at (pos 1808) (pos 949)) (pos 430000) 1)
  pub far_bounds : way_back corner (at (pos 2000) (pos 2000)) (pos 0) ≡ values (measured (at (pos 2310) (pos 1950)) (pos 430000) 1)
  -- out: from 1500 in the dense grid; across its border, where (1304, 1450) goes by (998, 1500), outside
  pub out_of_it : way_out corner (at (pos 1809) (pos 1450)) (pos 0) ≡ values (measured (at (pos 1500) (pos 1500)) (neg_ℤ (pos 430000)) 2)
  pub across : way_out corner (at (pos 1304) (pos 1450)) (pos 0) ≡ values (measured (at (pos 999) (pos 1500)) (neg_ℤ (pos 430000)) 2)
  pub onto_the_bound : way_out corner (at (pos 1305) (pos 1450)) (pos 0) ≡ values (measured (at (pos 1000) (pos 1500)) (neg_ℤ (pos 430000)) 2)
  -- the second point is 2 nd from the first: the stop rule takes it with a dense grid, without one it takes the third
  pub three_with : way_out corner (at (pos 900) (pos 1450)) (pos 0) ≡ values (measured (at (pos 597) (pos 1500)) (neg_ℤ (pos 430000)) 2)
  pub one_without : way_out (coarse 0) (at (pos 900) (pos 1450)) (pos 0) ≡ values (measured (at (pos 597) (pos 1500)) (neg_ℤ (pos 430000)) 3)

-- Bytes of `corner`: the dense geometry from 72 on (south, west, spacings at 88 and 92, rows at 96, columns at 100) with its back at 104,
-- the trailer from 196 on with the correction back at 260, the kind at 268.
pub record DenseGridOrder : Type 0 where
  -- a correction back that leaves less than 36 bytes before the correction nodes is a 1, before 3
  pub room_before_counts : opening (changed 260 241 96 1) ≡ number 1
  pub kind_known_lem : opening (changed 268 4 96 1) ≡ number 2
  -- each of 3 to 6 of the dense grid comes before the next one of any grid
  pub dense_rows : opening (changed 96 1 215 255) ≡ number 3
  pub dense_columns : opening (changed 100 1 215 255) ≡ number 3
  pub dense_spacings : opening (changed 91 255 203 127) ≡ number 4
  pub dense_bounds : opening (changed 79 127 264 97) ≡ number 5
  pub dense_back : opening (changed 104 21 88 243) ≡ number 6
  pub short_of_nodes : opening (drop 1 corner) ≡ number 6
  -- 20: bounds off the coarse lines, bounds outside the coarse ones, a spacing that does not divide the coarse one
  pub start_off_line : opening (nested (rows_of 306 307 309) 500 250) ≡ number 20
  pub far_off_line : opening (nested (rows_of 306 307 309) 0 250) ≡ number 20
  pub far_outside : opening (nested (rows_of 306 307 309) 1000 1000) ≡ number 20
  pub start_outside : question20 (square (pos 0) 1000 3) (square (neg_ℤ (pos 1000)) 500 5) ≡ false
  pub spacing_divides : question20 (square (pos 0) 1000 3) (square (pos 0) 400 6) ≡ false
  -- in the check 9 of the dense grid comes before 12 of the coarse one, and 12 of the dense one before 21
  pub coarse_slope : grid_check (changed 109 20 109 20) ≡ number 12
  pub dense_limits_before_slopes : grid_check (changed 3 1 109 20) ≡ number 9
  pub slopes_before_border : grid_check (nested (rows_of 300 307 309) 1000 500) ≡ number 12

pub dense_grid_lem : DenseGrid × DenseGridOrder
unfolding round_half_up u64_at i32_at i64_at trailer_of edition_of two_grid_trailer_of dense_trailer_of plane question3 question4 bounds_within question5
    back_passes backs_pass all_backs_pass judge judge_two judge_nested opening_nested opening_two opening cell_of part_of weighted bilinear value_at
    exact_sum on_axis inside square_passes corrections_pass heights_pass correction_grid_lookup height_grid_lookup on_line axis_aligned question20
    question7 plus minus back settled iterate out convert_over convert every largest all_within all_pass step_north step_east steps_of slope_passes
    question12 findings_of dense_passes dense_slopes_pass agrees rows_agree columns_agree border_agrees question21 check grid_check
dense_grid_lem = (
  record {
    one_off = refl;
    one_below = refl;
    two_off = refl;
    against_the_exact_value = refl;
    half_off_on_both_sides = refl;
    corner_asked = refl;
    far_corner_asked = refl;
    longitude_asked = refl;
    dense_limits = refl;
    dense_slope = refl;
    inside_it = refl;
    on_south_bound = refl;
    south_of_it = refl;
    on_west_bound = refl;
    west_of_it = refl;
    far_bounds = refl;
    out_of_it = refl;
    across = refl;
    onto_the_bound = refl;
    three_with = refl;
    one_without = refl;
  },
  record {
    room_before_counts = refl;
    kind_known_lem = refl;
    dense_rows = refl;
    dense_columns = refl;
    dense_spacings = refl;
    dense_bounds = refl;
    dense_back = refl;
    short_of_nodes = refl;
    start_off_line = refl;
    far_off_line = refl;
    far_outside = refl;
    start_outside = refl;
    spacing_divides = refl;
    coarse_slope = refl;
    dense_limits_before_slopes = refl;
    slopes_before_border = refl;
  },
)
