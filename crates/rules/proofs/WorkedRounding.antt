-- The worked numbers of docs/ROUNDING.md, computed: one for each of the six cases, from grid G and from 01's variant of it, and four in a
-- cell of an odd area.
use mathlib.Core.List.{List}
use mathlib.Core.Bool.{false}
use mathlib.Core.Path.{◌≡◌, refl}
use Prim.Native.Nat.{ℕ, ◌/◌, ◌%◌}
use lib.IntN.{ℤ, pos, neg_ℤ, nat_abs}
use Rattle.rules.specs.declared.Geometry.{Geometry}
use Rattle.rules.specs.declared.Point.{Point}
use Rattle.rules.specs.Image.{u64_at, i32_at, i64_at, trailer_of, plane, layout_for, grid_of}
use Rattle.rules.specs.Bilinear.{cell_of, part_of, part_for, corners_for, weighted}
use Rattle.rules.specs.SixCases.{Half, below_half, exactly_half, above_half, test_for_half, six_cases, rounded_by_cases}
use Rattle.rules.specs.Figures.{grid_g, slanted, at}

-- What is written down when a sum is rounded by hand.
pub record Sheet : Type 0 where
  pub sum : ℤ
  pub quotient : ℕ
  pub remainder : ℕ
  pub half : Half
  pub value : ℤ

abbrev sheet : (sum : ℤ) → (area : ℕ) → Sheet
sheet sum area =
    let remainder = nat_abs sum % area in
    record {
      sum = sum;
      quotient = nat_abs sum / area;
      remainder = remainder;
      half = test_for_half remainder area;
      value = rounded_by_cases sum area;
    }

-- The sum of corner times weight at a point of an image of edition 1, in cells of 1,000 × 1,000 nd.
abbrev sum_at : Geometry → (ℕ → ℕ → ℤ) → Point → ℤ
sum_at g f p =
    weighted (corners_for g f p)
    (part_for g.latitude p.latitude) (part_for g.longitude p.longitude)
    g.latitude.spacing g.longitude.spacing

abbrev latitude_sheet : List ℕ → Point → Sheet
latitude_sheet b p = let grid = grid_of b (layout_for b false) in sheet (sum_at grid.corrections grid.latitude p) 1000000

abbrev longitude_sheet : List ℕ → Point → Sheet
longitude_sheet b p = let grid = grid_of b (layout_for b false) in sheet (sum_at grid.corrections grid.longitude p) 1000000

pub record Worked : Type 0 where
  -- Not below zero: 100.4 is below half, 100.5 exactly half, 100.8 above half.
  pub case_1 : latitude_sheet grid_g (at (pos 100) (pos 0))
      ≡ record { sum = pos 100400000; quotient = 100; remainder = 400000; half = below_half; value = pos 100 }
  pub case_2 : latitude_sheet grid_g (at (pos 125) (pos 0))
      ≡ record { sum = pos 100500000; quotient = 100; remainder = 500000; half = exactly_half; value = pos 101 }
  pub case_3 : latitude_sheet grid_g (at (pos 200) (pos 0))
      ≡ record { sum = pos 100800000; quotient = 100; remainder = 800000; half = above_half; value = pos 101 }
  -- Below zero: −50 and −100.3 are below half, −100.5 exactly half, −100.7 above half.
  pub case_4 : longitude_sheet grid_g (at (pos 100) (pos 300))
      ≡ record { sum = neg_ℤ (pos 50000000); quotient = 50; remainder = 0; half = below_half; value = neg_ℤ (pos 50) }
  pub case_4_remainder : longitude_sheet slanted (at (pos 0) (pos 300))
      ≡ record { sum = neg_ℤ (pos 100300000); quotient = 100; remainder = 300000; half = below_half; value = neg_ℤ (pos 100) }
  pub case_5 : longitude_sheet slanted (at (pos 0) (pos 500))
      ≡ record { sum = neg_ℤ (pos 100500000); quotient = 100; remainder = 500000; half = exactly_half; value = neg_ℤ (pos 100) }
  pub case_6 : longitude_sheet slanted (at (pos 0) (pos 700))
      ≡ record { sum = neg_ℤ (pos 100700000); quotient = 100; remainder = 700000; half = above_half; value = neg_ℤ (pos 101) }
  -- Half of 3 × 5 is 7.5: a remainder of 7 is below half, one of 8 above.
  pub odd_below : sheet (pos 7) 15 ≡ record { sum = pos 7; quotient = 0; remainder = 7; half = below_half; value = pos 0 }
  pub odd_above : sheet (pos 8) 15 ≡ record { sum = pos 8; quotient = 0; remainder = 8; half = above_half; value = pos 1 }
  pub odd_below_negative : sheet (neg_ℤ (pos 7)) 15
      ≡ record { sum = neg_ℤ (pos 7); quotient = 0; remainder = 7; half = below_half; value = pos 0 }
  pub odd_above_negative : sheet (neg_ℤ (pos 8)) 15
      ≡ record { sum = neg_ℤ (pos 8); quotient = 0; remainder = 8; half = above_half; value = neg_ℤ (pos 1) }

pub worked_numbers : Worked
unfolding grid_g u64_at i32_at i64_at trailer_of plane cell_of part_of weighted test_for_half six_cases
worked_numbers =
    record {
      case_1 = refl;
      case_2 = refl;
      case_3 = refl;
      case_4 = refl;
      case_4_remainder = refl;
      case_5 = refl;
      case_6 = refl;
      odd_below = refl;
      odd_above = refl;
      odd_below_negative = refl;
      odd_above_negative = refl;
    }
