-- Examples of the rules beside the figures, computed on grid G, on damaged bytes of it and on variants: the order of the questions, where
-- of two with the answer no the first one's number is given, and slips in the rules that the figures alone would let pass.
use mathlib.Core.Bool.{true, false}
use mathlib.Core.List.{List, [], ◌∷◌}
use mathlib.Core.Path.{◌≡◌, refl}
use Prim.Native.Nat.{ℕ, ◌+◌, ◌*◌}
use lib.IntN.{ℤ, pos, neg_ℤ, ◌-ℤ◌}
use lib.ListN.{drop, set}
use Rattle.integers.specs.Rounding.{round_half_up}
use Rattle.rules.specs.declared.Steps.{Steps}
use Rattle.rules.specs.declared.Notation.{Notation}
use Rattle.rules.specs.Answers.{values, number}
use Rattle.rules.specs.Image.{u64_at, i32_at, i64_at, trailer_of, edition_of, plane}
use Rattle.rules.specs.Questions.{question3, question4, bounds_within, question5, back_passes, question6, judge, opening}
use Rattle.rules.specs.Bilinear.{cell_of, part_of, weighted, bilinear, value_at}
use Rattle.rules.specs.Lookup.{on_axis, inside, square_passes, question9, correction_lookup, height_lookup}
use Rattle.rules.specs.Ways.{question7, plus, minus, measured, back, settled, iterate, out, convert_over, convert, way_back, way_out}
use Rattle.rules.specs.Check.{every, largest, all_within, all_pass, step_north, step_east, steps_of}
use Rattle.rules.specs.Check.{slope_passes, question12, findings_of, check, grid_check}
use Rattle.rules.specs.Lists.{question14, convert_list, list_out, list_back}
use Rattle.rules.specs.Notation.{total, readable, magnitude_read, read_notation, total_written, split, write_notation}
use Rattle.rules.specs.Figures.{grid_g, variant, at}

-- Bytes changed at G's places: one row, no latitude spacing, a far southern bound, another back, a node beyond its limit.
abbrev one_row : List ℕ → List ℕ
one_row b = set b 132 1

abbrev no_spacing : List ℕ → List ℕ
no_spacing b = set (set b 124 0) 125 0

abbrev far_south : List ℕ → List ℕ
far_south b = set b 115 127

abbrev other_back : List ℕ → List ℕ
other_back b = set b 140 149

abbrev bad_node : List ℕ → List ℕ
bad_node b = set b 51 1

-- one fix, its height beyond question 7's limit
abbrev too_high : List ℤ
too_high = (at (pos 500) (pos 500)).latitude ∷ (at (pos 500) (pos 500)).longitude ∷ pos 110000001 ∷ []

-- Latitude corrections 400, −1600, −3600 by row, with which each step of the way out is twice the one before.
abbrev doubling : List ℕ
doubling = variant (λ row column. pos 400 -ℤ pos (2000 * row)) (λ row column. pos 0)

pub record Order : Type 0 where
  pub length_first : opening (drop 109 grid_g) ≡ number 1
  pub edition_before_counts : opening (one_row (set grid_g 144 3)) ≡ number 2
  pub counts_before_spacings : opening (no_spacing (one_row grid_g)) ≡ number 3
  pub spacings_before_bounds : opening (far_south (no_spacing grid_g)) ≡ number 4
  pub bounds_before_bytes : opening (other_back (far_south grid_g)) ≡ number 5
  pub image_before_fix : way_back (other_back grid_g) (at (pos 500) (pos 500)) (pos 110000001) ≡ number 6
  -- one fix beyond its limits, and room for no answer
  pub image_before_lengths : list_back (other_back grid_g) too_high [] ≡ number 6
  pub lengths_before_fix : list_back grid_g too_high [] ≡ number 14
  pub limits_before_bounds : way_back grid_g (at (pos 2001) (pos 500)) (pos 110000001) ≡ number 7
  pub bounds_before_nodes : way_back (bad_node grid_g) (at (pos 2001) (pos 500)) (pos 0) ≡ number 8
  pub nodes_before_iterate : way_out (bad_node grid_g) (at (pos 50) (pos 500)) (pos 0) ≡ number 9
  -- p1 lies 1 nd south of the bound and of p: the stop rule would take it
  pub iterate_before_stop : way_out (variant (λ row column. pos 1) (λ row column. pos 0)) (at (pos 0) (pos 500)) (pos 0) ≡ number 10
  -- p1 to p4 lie 100, 300, 700 and 1,500 nd north of p, and p5 lies outside the bounds: no 11 before that
  pub iterate_before_settled : way_out doubling (at (pos 250) (pos 500)) (pos 0) ≡ number 10
  -- a node beyond its limit makes steep steps too
  pub nodes_before_slopes : grid_check (bad_node grid_g) ≡ number 9

-- Latitude corrections that rise by the same step from row to row, longitude corrections 0.
abbrev rising : (first step : ℕ) → List ℕ
rising first step = variant (λ row column. pos (first + step * row)) (λ row column. pos 0)

-- Bytes changed at G's places: longitude spacing 500, and another height of the south-west node.
abbrev half_as_wide : List ℕ → List ℕ
half_as_wide b = set (set b 128 244) 129 1

abbrev other_height : List ℕ → List ℕ
other_height b = set b 8 100

-- Findings and notations by their numbers.
abbrev steps : ℕ → ℕ → Steps
steps north east = record { northward = north; eastward = east }

abbrev angle : (degrees minutes fraction letter : ℕ) → Notation
angle d m f l = record { degrees = d; minutes = m; fraction = f; letter = l }

-- Two fixes, the first outside the bounds, and ten numbers where their answers go.
abbrev two_fixes : List ℤ
two_fixes =
    (at (pos 2050) (pos 500)).latitude ∷ (at (pos 2050) (pos 500)).longitude ∷ pos 440003
    ∷ (at (pos 602) (pos 450)).latitude ∷ (at (pos 602) (pos 450)).longitude ∷ pos 440003 ∷ []

abbrev ten_numbers : List ℤ
ten_numbers = pos 9 ∷ pos 9 ∷ pos 9 ∷ pos 9 ∷ pos 9 ∷ pos 9 ∷ pos 9 ∷ pos 9 ∷ pos 9 ∷ pos 9 ∷ []

-- Each shuts out the slip that its comment names.
pub record Examples : Type 0 where
  -- question 7's limits: a height of 100,000,000 passes going out and 100,000,001 does not, 110,000,000 passes going back
  pub out_height_most : way_out grid_g (at (pos 602) (pos 450)) (pos 100000000) ≡ values (measured (at (pos 500) (pos 500)) (pos 99569997) 2)
  pub out_height_beyond : way_out grid_g (at (pos 602) (pos 450)) (pos 100000001) ≡ number 7
  pub back_height_most : way_back grid_g (at (pos 500) (pos 500)) (pos 110000000)
      ≡ values (measured (at (pos 602) (pos 450)) (pos 110430003) 1)
  -- fewer than five evaluations: p0 to p5 lie at 1100, 735, 790, 781, 783, 783
  pub five_evaluations : way_out (rising 200 150) (at (pos 1100) (pos 500)) (pos 0)
      ≡ values (measured (at (pos 783) (pos 500)) (neg_ℤ (pos 430003)) 5)
  -- a sixth evaluation: p5 lies 2 nd from p4, and p6 would lie 1 nd from p5
  pub no_sixth_evaluation : way_out (rising 400 200) (at (pos 1200) (pos 500)) (pos 0) ≡ number 11
  -- a stop distance of 2: p0 to p3 lie at 1000, 950, 952, 952
  pub stop_distance_lem : way_out (rising 0 50) (at (pos 1000) (pos 500)) (pos 0)
      ≡ values (measured (at (pos 952) (pos 500)) (neg_ℤ (pos 430003)) 3)
  -- P and Q swapped in question 12: 100 × 10 × 500 is P × Q, 100 × 10 × 1,000 is more
  pub slope_by_its_spacing : grid_check (half_as_wide (rising 100 10))
      ≡ values (record { latitude = steps 10 0; longitude = steps 0 0; height = steps 0 5 })
  -- question 12 put to the latitude correction alone: the longitude correction steps by 11, the height by 81
  pub longitude_slope : grid_check (variant (λ row column. pos 100) (λ row column. neg_ℤ (pos (50 + 11 * column)))) ≡ number 12
  pub height_slope : grid_check (other_height grid_g) ≡ number 12
  -- a refused fix that ends the list, or whose answer has something else than four zeros and its number
  pub refused_and_accepted : list_out grid_g two_fixes ten_numbers
      ≡ values (
      pos 0 ∷ pos 0 ∷ pos 0 ∷ pos 0 ∷ pos 8
      ∷ (at (pos 500) (pos 500)).latitude ∷ (at (pos 500) (pos 500)).longitude ∷ pos 10000 ∷ pos 2 ∷ pos 0 ∷ [])
  -- question 13's limits in reading: 60 minutes, 60 seconds, a letter of the other axis, more than 90 degrees
  pub minutes_beyond : read_notation false (angle 0 60 0 78) ≡ number 13
  pub fraction_beyond : read_notation false (angle 0 0 6000000 78) ≡ number 13
  pub other_letter : read_notation false (angle 0 0 0 69) ≡ number 13
  pub latitude_most : read_notation false (angle 90 0 0 78) ≡ values (pos 90000000000)
  pub latitude_beyond : read_notation false (angle 90 0 1 78) ≡ number 13
  -- and in writing
  pub written_beyond : write_notation false (pos 90000000001) ≡ number 13
  -- S or W read as N or E
  pub south_read : read_notation false (angle 0 0 9 83) ≡ values (neg_ℤ (pos 25))
  pub west_read : read_notation true (angle 0 0 9 87) ≡ values (neg_ℤ (pos 25))
  -- always N or E written
  pub south_written : write_notation false (neg_ℤ (pos 25)) ≡ values (angle 0 0 9 83)
  pub west_written : write_notation true (neg_ℤ (pos 25)) ≡ values (angle 0 0 9 87)
  -- zero written with S or W, as the sign of −1 would have it (document 02, note 7)
  pub south_zero_written : write_notation false (neg_ℤ (pos 1)) ≡ values (angle 0 0 0 78)
  pub west_zero_written : write_notation true (neg_ℤ (pos 1)) ≡ values (angle 0 0 0 69)
  -- a total of 1, the least above zero, taken as zero
  pub south_least_written : write_notation false (neg_ℤ (pos 2)) ≡ values (angle 0 0 1 83)
  pub west_least_written : write_notation true (neg_ℤ (pos 2)) ≡ values (angle 0 0 1 87)
  -- zero with S or W refused in reading
  pub south_zero_read : read_notation false (angle 0 0 0 83) ≡ values (pos 0)
  pub west_zero_read : read_notation true (angle 0 0 0 87) ≡ values (pos 0)

pub examples : Order × Examples
unfolding grid_g round_half_up u64_at i32_at i64_at trailer_of edition_of plane question3 question4 bounds_within question5 back_passes question6
    judge opening cell_of
    part_of weighted bilinear value_at on_axis inside square_passes question9 correction_lookup height_lookup question7 plus minus back settled
    iterate out convert_over convert every largest all_within all_pass step_north step_east steps_of slope_passes question12 findings_of check
    grid_check question14 convert_list total readable magnitude_read read_notation total_written split write_notation
examples = (
  record {
    length_first = refl;
    edition_before_counts = refl;
    counts_before_spacings = refl;
    spacings_before_bounds = refl;
    bounds_before_bytes = refl;
    image_before_fix = refl;
    image_before_lengths = refl;
    lengths_before_fix = refl;
    limits_before_bounds = refl;
    bounds_before_nodes = refl;
    nodes_before_iterate = refl;
    iterate_before_stop = refl;
    iterate_before_settled = refl;
    nodes_before_slopes = refl;
  },
  record {
    out_height_most = refl;
    out_height_beyond = refl;
    back_height_most = refl;
    five_evaluations = refl;
    no_sixth_evaluation = refl;
    stop_distance_lem = refl;
    slope_by_its_spacing = refl;
    longitude_slope = refl;
    height_slope = refl;
    refused_and_accepted = refl;
    minutes_beyond = refl;
    fraction_beyond = refl;
    other_letter = refl;
    latitude_most = refl;
    latitude_beyond = refl;
    written_beyond = refl;
    south_read = refl;
    west_read = refl;
    south_written = refl;
    west_written = refl;
    south_zero_written = refl;
    west_zero_written = refl;
    south_least_written = refl;
    west_least_written = refl;
    south_zero_read = refl;
    west_zero_read = refl;
  },
)
