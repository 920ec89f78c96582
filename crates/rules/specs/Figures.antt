-- Document 01, "Grid G and its figures": the figures marked *, as one claim about the rules, computed from the bytes of G and its variants.
use Rattle.std.specs.Prelude.{List, [], ◌∷◌, ◌++◌, false, ◌≡◌, refl, ℕ, ◌+◌, ◌-◌, ◌*◌, ◌/◌, ◌%◌, ℤ, pos, negsuc, neg_ℤ, ◌+ℤ◌}
use Rattle.integers.specs.Rounding.{round_half_up}
use Rattle.rules.specs.declared.Point.{Point}
use Rattle.rules.specs.declared.Correction.{Correction}
use Rattle.rules.specs.declared.Notation.{Notation}
use Rattle.rules.specs.Answers.{Outcome, values, number, and_then}
use Rattle.rules.specs.Image.{u64_at, i32_at, i64_at, trailer_of, edition_of, plane, grid_of}
use Rattle.rules.specs.Questions.{question3, question4, bounds_within, question5, back_passes, question6, judge, opening}
use Rattle.rules.specs.Bilinear.{cell_of, part_of, weighted, bilinear, value_at}
use Rattle.rules.specs.Lookup.{on_axis, inside, square_passes, question9, correction_lookup, height_lookup}
use Rattle.rules.specs.Ways.{question7, plus, minus, measured, back, settled, iterate, out}
use Rattle.rules.specs.Ways.{convert_over, convert, way_back, way_out}
use Rattle.rules.specs.Check.{every, largest, all_within, all_pass, step_north, step_east, steps_of}
use Rattle.rules.specs.Check.{slope_passes, question12, findings_of, check, grid_check}
use Rattle.rules.specs.Notation.{total, readable, magnitude_read, read_notation, total_written, split, write_notation}

-- The trailer of G: south 52,000,000,000, west 5,000,000,000, spacings 1,000, 3 rows, 3 columns, back 148, edition 1.
abbrev pub trailer_g : List ℕ
trailer_g =
    0 ∷ 8 ∷ 113 ∷ 27 ∷ 12 ∷ 0 ∷ 0 ∷ 0 ∷ 0 ∷ 242 ∷ 5 ∷ 42 ∷ 1 ∷ 0 ∷ 0 ∷ 0 ∷
    232 ∷ 3 ∷ 0 ∷ 0 ∷ 232 ∷ 3 ∷ 0 ∷ 0 ∷ 3 ∷ 0 ∷ 0 ∷ 0 ∷ 3 ∷ 0 ∷ 0 ∷ 0 ∷ 148 ∷ 0 ∷ 0 ∷ 0 ∷ 1 ∷ 0 ∷ 0 ∷ 0 ∷ []

-- The 148 bytes of G: latitude correction 100 + 4 × row, longitude correction −50, height 430,000 + 5 × column.
unfoldable pub grid_g : List ℕ
grid_g =
    100 ∷ 0 ∷ 0 ∷ 0 ∷ 206 ∷ 255 ∷ 255 ∷ 255 ∷ 176 ∷ 143 ∷ 6 ∷ 0 ∷
    100 ∷ 0 ∷ 0 ∷ 0 ∷ 206 ∷ 255 ∷ 255 ∷ 255 ∷ 181 ∷ 143 ∷ 6 ∷ 0 ∷
    100 ∷ 0 ∷ 0 ∷ 0 ∷ 206 ∷ 255 ∷ 255 ∷ 255 ∷ 186 ∷ 143 ∷ 6 ∷ 0 ∷
    104 ∷ 0 ∷ 0 ∷ 0 ∷ 206 ∷ 255 ∷ 255 ∷ 255 ∷ 176 ∷ 143 ∷ 6 ∷ 0 ∷
    104 ∷ 0 ∷ 0 ∷ 0 ∷ 206 ∷ 255 ∷ 255 ∷ 255 ∷ 181 ∷ 143 ∷ 6 ∷ 0 ∷
    104 ∷ 0 ∷ 0 ∷ 0 ∷ 206 ∷ 255 ∷ 255 ∷ 255 ∷ 186 ∷ 143 ∷ 6 ∷ 0 ∷
    108 ∷ 0 ∷ 0 ∷ 0 ∷ 206 ∷ 255 ∷ 255 ∷ 255 ∷ 176 ∷ 143 ∷ 6 ∷ 0 ∷
    108 ∷ 0 ∷ 0 ∷ 0 ∷ 206 ∷ 255 ∷ 255 ∷ 255 ∷ 181 ∷ 143 ∷ 6 ∷ 0 ∷
    108 ∷ 0 ∷ 0 ∷ 0 ∷ 206 ∷ 255 ∷ 255 ∷ 255 ∷ 186 ∷ 143 ∷ 6 ∷ 0 ∷ trailer_g

-- The four bytes of a number, and of an i32 in two's complement.
abbrev pub word : ℕ → List ℕ
word n = n % 256 ∷ n / 256 % 256 ∷ n / 65536 % 256 ∷ n / 16777216 ∷ []

abbrev pub i32_bytes : ℤ → List ℕ
i32_bytes (pos n) = word n
i32_bytes (negsuc n) = word (4294967295 - n)

-- The bytes of G with other corrections, by row and column.
abbrev pub variant : (latitude longitude : ℕ → ℕ → ℤ) → List ℕ
variant latitude longitude = row 0 (row 1 (row 2 trailer_g))
  where
    node : ℕ → ℕ → List ℕ → List ℕ
    node i j rest = i32_bytes (latitude i j) ++ i32_bytes (longitude i j) ++ i32_bytes (pos (430000 + 5 * j)) ++ rest

    row : ℕ → List ℕ → List ℕ
    row i rest = node i 0 (node i 1 (node i 2 rest))

-- A point by its offsets from the south-west corner of G.
abbrev pub at : ℤ → ℤ → Point
at x y = record { latitude = pos 52000000000 +ℤ x; longitude = pos 5000000000 +ℤ y }

-- The corrections at a point of an image: questions 1 to 6 first.
abbrev corrections_over : List ℕ → Point → Outcome Correction
corrections_over b p = and_then (opening b) (λ l. correction_lookup (grid_of b l) p)

-- Longitude correction −100 − column.
abbrev pub slanted : List ℕ
slanted = variant (λ row column. pos (100 + 4 * row)) (λ row column. neg_ℤ (pos (100 + column)))

-- Latitude corrections 0, 1000, 2000 by row, longitude corrections 0.
abbrev steep : List ℕ
steep = variant (λ row column. pos (1000 * row)) (λ row column. pos 0)

-- Latitude corrections 100, 110, 120 by row.
abbrev sloping : List ℕ
sloping = variant (λ row column. pos (100 + 10 * row)) (λ row column. neg_ℤ (pos 50))

-- The notation 52° 5' 29.87000'' N.
abbrev worked : Notation
worked = record { degrees = 52; minutes = 5; fraction = 2987000; letter = 78 }

pub record Figures : Type 0 where
  -- Back (500, 500), H 10,000: (602, 450), height 440,003, count 1.
  pub back_middle : way_back grid_g (at (pos 500) (pos 500)) (pos 10000) ≡ values (measured (at (pos 602) (pos 450)) (pos 440003) 1)
  -- Out (602, 450), h 440,003: (500, 500), 10,000, count 2.
  pub out_middle : way_out grid_g (at (pos 602) (pos 450)) (pos 440003) ≡ values (measured (at (pos 500) (pos 500)) (pos 10000) 2)
  -- Back (2000, 2000), H 0: (2108, 1950), 430,010.
  pub back_corner : way_back grid_g (at (pos 2000) (pos 2000)) (pos 0) ≡ values (measured (at (pos 2108) (pos 1950)) (pos 430010) 1)
  -- Back (2001, 2000): 8.
  pub back_outside : way_back grid_g (at (pos 2001) (pos 2000)) (pos 0) ≡ number 8
  -- Back (125, 0): latitude correction 100.5 gives 101.
  pub half_up : corrections_over grid_g (at (pos 125) (pos 0)) ≡ values (record { latitude = pos 101; longitude = neg_ℤ (pos 50) })
  pub back_half : way_back grid_g (at (pos 125) (pos 0)) (pos 0) ≡ values (measured (at (pos 226) (neg_ℤ (pos 50))) (pos 430000) 1)
  -- With longitude correction −100 − column, (0, 500) gives −100 and (0, 700) gives −101.
  pub half_below_zero : corrections_over slanted (at (pos 0) (pos 500)) ≡ values (record { latitude = pos 100; longitude = neg_ℤ (pos 100) })
  pub down_below_zero : corrections_over slanted (at (pos 0) (pos 700)) ≡ values (record { latitude = pos 100; longitude = neg_ℤ (pos 101) })
  -- Out (50, 500): 10.
  pub out_leaves : way_out grid_g (at (pos 50) (pos 500)) (pos 0) ≡ number 10
  -- Latitude corrections 0, 1000, 2000 by row, longitude corrections 0: out (1500, 500) gives 11; the check gives 12.
  pub out_steep : way_out steep (at (pos 1500) (pos 500)) (pos 0) ≡ number 11
  pub check_steep : grid_check steep ≡ number 12
  -- Latitude corrections 100, 110, 120 by row: out (602, 450), h 440,003 gives (497, 500), 10,000, count 2.
  pub out_sloping : way_out sloping (at (pos 602) (pos 450)) (pos 440003) ≡ values (measured (at (pos 497) (pos 500)) (pos 10000) 2)
  -- 52° 5' 29.87000'' N is 52,091,630,556, and is written so again.
  pub read_worked : read_notation false worked ≡ values (pos 52091630556)
  pub written_worked : write_notation false (pos 52091630556) ≡ values worked
  -- 16,666,666 is 0° 1' 0.00000''; 16,666,665 is 0° 0' 59.99999''.
  pub written_minute : write_notation false (pos 16666666) ≡ values (record { degrees = 0; minutes = 1; fraction = 0; letter = 78 })
  pub written_below : write_notation false (pos 16666665) ≡ values (record { degrees = 0; minutes = 0; fraction = 5999999; letter = 78 })

pub figures : Figures
unfolding grid_g round_half_up u64_at i32_at i64_at trailer_of edition_of plane question3 question4 bounds_within question5 back_passes question6
    judge opening cell_of
    part_of weighted bilinear value_at on_axis inside square_passes question9 correction_lookup height_lookup question7 plus minus back settled
    iterate out convert_over convert every largest all_within all_pass step_north step_east steps_of slope_passes question12 findings_of check
    grid_check total readable magnitude_read read_notation total_written split write_notation
figures =
    record {
      back_middle = refl;
      out_middle = refl;
      back_corner = refl;
      back_outside = refl;
      half_up = refl;
      back_half = refl;
      half_below_zero = refl;
      down_below_zero = refl;
      out_leaves = refl;
      out_steep = refl;
      check_steep = refl;
      out_sloping = refl;
      read_worked = refl;
      written_worked = refl;
      written_minute = refl;
      written_below = refl;
    }

-- The bytes of a variant with G's own corrections are G's.
variant_g : variant (λ row column. pos (100 + 4 * row)) (λ row column. neg_ℤ (pos 50)) ≡ grid_g
unfolding grid_g
variant_g = refl
