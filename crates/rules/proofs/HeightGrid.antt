-- Figures of our own for edition 2, computed from bytes: heights on a grid with another spacing, a height grid that leaves out part of the
-- correction grid, and the order of the questions, where of two with the answer no the first one's number is given.
use mathlib.Core.List.{List, [], ◌++◌}
use mathlib.Core.Path.{◌≡◌, refl}
use Prim.Native.Nat.{ℕ, zero, suc, ◌+◌, ◌*◌, ◌/◌, ◌%◌}
use lib.IntN.{ℤ, pos, neg_ℤ}
use lib.ListN.{drop, set}
use Rattle.integers.specs.Rounding.{round_half_up}
use Rattle.rules.specs.declared.Findings.{Findings}
use Rattle.rules.specs.declared.Layout.{Layout}
use Rattle.rules.specs.Answers.{Outcome, values, number}
use Rattle.rules.specs.Image.{u64_at, i32_at, i64_at, trailer_of, edition_of, two_grid_trailer_of, plane}
use Rattle.rules.specs.Questions.{question3, question4, bounds_within, question5, back_passes, backs_pass}
use Rattle.rules.specs.Questions.{judge, judge_two, opening_two, opening}
use Rattle.rules.specs.Bilinear.{cell_of, part_of, weighted, bilinear, value_at}
use Rattle.rules.specs.Lookup.{on_axis, inside, square_passes, corrections_pass, heights_pass, correction_grid_lookup, height_grid_lookup}
use Rattle.rules.specs.Ways.{question7, plus, minus, measured, back, settled, iterate, out, convert_over, convert, way_back, way_out}
use Rattle.rules.specs.Check.{every, largest, all_within, all_pass, step_north, step_east, steps_of}
use Rattle.rules.specs.Check.{slope_passes, question12, findings_of, check, grid_check}
use Rattle.rules.specs.Figures.{word, i32_bytes, at}

-- What f gives for 0, 1, … n − 1 in turn, and by row and column.
abbrev pub in_turn : ℕ → (ℕ → List ℕ) → List ℕ
in_turn zero f = []
in_turn (suc n) f = in_turn n f ++ f n

abbrev pub nodes : (rows columns : ℕ) → (ℕ → ℕ → List ℕ) → List ℕ
nodes rows columns f = in_turn rows (λ row. in_turn columns (f row))

-- A grid with one spacing both ways whose south-west corner lies `offset` nd north and east of G's.
abbrev pub geometry_bytes : (offset spacing rows columns : ℕ) → List ℕ
geometry_bytes offset spacing rows columns =
    long (52000000000 + offset) ++ long (5000000000 + offset) ++ word spacing ++ word spacing ++ word rows ++ word columns
  where
    long : ℕ → List ℕ
    long n = word (n % 4294967296) ++ word (n / 4294967296)

-- An image of edition 2, kind 0: corrections at G's nodes, heights on a grid of n rows and columns.
abbrev two_grids : (latitude : ℕ → ℕ → ℤ) (offset spacing n : ℕ) (height : ℕ → ℕ → ℤ) → List ℕ
two_grids latitude offset spacing n height =
    nodes 3 3 (λ row column. i32_bytes (latitude row column) ++ i32_bytes (neg_ℤ (pos 50)))
    ++ nodes n n (λ row column. i32_bytes (height row column))
    ++ geometry_bytes 0 1000 3 3 ++ geometry_bytes offset spacing n n
    ++ word (152 + 4 * n * n) ++ word (80 + 4 * n * n) ++ word 0 ++ word 2

-- G's latitude corrections, and heights that rise by steps from row to row and from column to column.
abbrev latitude_g : ℕ → ℕ → ℤ
latitude_g row column = pos (100 + 4 * row)

abbrev rising : (north east : ℕ) → ℕ → ℕ → ℤ
rising north east row column = pos (430000 + north * row + east * column)

-- Heights every 500 nd over all of G, 252 bytes; the same that rise by 3 both ways; and heights over the middle of G alone, from (500, 500)
-- to (1500, 1500), 188 bytes.
abbrev half_spacing : List ℕ
half_spacing = two_grids latitude_g 0 500 5 (rising 2 3)

abbrev steeper : List ℕ
steeper = two_grids latitude_g 0 500 5 (rising 3 3)

abbrev middle : List ℕ
middle = two_grids latitude_g 500 500 3 (rising 2 3)

-- The same with latitude corrections 0, 1000, 2000 by row.
abbrev steep_middle : List ℕ
steep_middle = two_grids (λ row column. pos (1000 * row)) 500 500 3 (rising 2 3)

-- Heights over the middle of G that are all beyond their limit.
abbrev bad_heights : List ℕ
bad_heights = two_grids latitude_g 500 500 3 (λ row column. pos 1000001)

-- A byte changed: the south-west correction node beyond its limit; in `half_spacing` the first height of row 1 beyond its own.
abbrev bad_correction : List ℕ → List ℕ
bad_correction b = set b 3 1

abbrev bad_height : List ℕ → List ℕ
bad_height b = set b 95 1

-- The opening of `half_spacing` with two bytes changed, by place and value.
abbrev changed : (place value place' value' : ℕ) → Outcome Layout
changed place value place' value' = opening (set (set half_spacing place value) place' value')

abbrev pub findings : (a b c d e f : ℕ) → Findings
findings a b c d e f =
    record {
      latitude = record { northward = a; eastward = b };
      longitude = record { northward = c; eastward = d };
      height = record { northward = e; eastward = f };
    }

pub record HeightGrid : Type 0 where
  -- heights every 500 nd: at (500, 500) a height node, at (750, 600) 1.5 rows and 1.2 columns into the height grid
  pub back_node : way_back half_spacing (at (pos 500) (pos 500)) (pos 10000) ≡ values (measured (at (pos 602) (pos 450)) (pos 440005) 1)
  pub back_between : way_back half_spacing (at (pos 750) (pos 600)) (pos 0) ≡ values (measured (at (pos 853) (pos 550)) (pos 430007) 1)
  pub out_node : way_out half_spacing (at (pos 602) (pos 450)) (pos 440005) ≡ values (measured (at (pos 500) (pos 500)) (pos 10000) 2)
  pub out_between : way_out half_spacing (at (pos 853) (pos 550)) (pos 430007) ≡ values (measured (at (pos 750) (pos 600)) (pos 0) 2)
  -- the far corner of both grids
  pub back_corner : way_back half_spacing (at (pos 2000) (pos 2000)) (pos 0) ≡ values (measured (at (pos 2108) (pos 1950)) (pos 430020) 1)
  pub back_outside : way_back half_spacing (at (pos 2001) (pos 2000)) (pos 0) ≡ number 8
  -- 100 × (2 + 3) × 500 is 500 × 500; with steps of 3 it is more, though not more than 1000 × 1000
  pub check_passes : grid_check half_spacing ≡ values (findings 4 0 0 0 2 3)
  pub check_by_own_spacing : grid_check steeper ≡ number 12
  -- a height grid that leaves out part of the correction grid: its bounds are on it
  pub back_on_bound : way_back middle (at (pos 500) (pos 500)) (pos 0) ≡ values (measured (at (pos 602) (pos 450)) (pos 430000) 1)
  pub back_on_far_bound : way_back middle (at (pos 1500) (pos 1500)) (pos 0) ≡ values (measured (at (pos 1606) (pos 1450)) (pos 430010) 1)
  pub back_off : way_back middle (at (pos 400) (pos 500)) (pos 0) ≡ number 15
  pub back_off_east : way_back middle (at (pos 500) (pos 1501)) (pos 0) ≡ number 15
  -- the fix lies on the height grid, its Bessel point (400, 550) does not; and the other way round
  pub out_off : way_out middle (at (pos 502) (pos 500)) (pos 0) ≡ number 15
  pub out_on : way_out middle (at (pos 602) (pos 450)) (pos 430000) ≡ values (measured (at (pos 500) (pos 500)) (pos 0) 2)
  -- heights are asked of the Bessel point's height cell alone: the fix (602, 450) lies in another, with a height beyond its limit
  pub heights_of_the_last : way_out (bad_height half_spacing) (at (pos 602) (pos 450)) (pos 440005)
      ≡ values (measured (at (pos 500) (pos 500)) (pos 10000) 2)
  pub heights_asked : way_back (bad_height half_spacing) (at (pos 500) (pos 499)) (pos 0) ≡ number 9

-- The order of the questions.
pub record HeightGridOrder : Type 0 where
  -- 79 bytes of another kind, which stands at byte 244; that kind, and one correction row (196); an edition (248) that is not known
  pub length_before_kind : opening (drop 173 (set half_spacing 244 1)) ≡ number 1
  pub kind_before_counts : changed 244 4 196 1 ≡ number 2
  pub edition_known : changed 248 3 248 3 ≡ number 2
  -- each question is put to both grids before the next one is: rows at 196 and 228, two bytes of the latitude
  -- spacing at 188 and 220, the highest byte of the southern bound at 179 and 211, the backs at 236 and 240
  pub counts : changed 196 1 196 1 ≡ number 3
  pub height_counts_before_spacings : opening (set (set (set half_spacing 188 0) 189 0) 228 1) ≡ number 3
  pub spacings : changed 188 0 189 0 ≡ number 4
  pub height_spacings_before_bounds : opening (set (set (set half_spacing 220 0) 221 0) 179 127) ≡ number 4
  pub bounds : changed 179 127 179 127 ≡ number 5
  pub height_bounds_before_backs : changed 211 127 236 253 ≡ number 5
  pub back_asked : changed 236 253 236 253 ≡ number 6
  pub height_back_asked : changed 240 181 240 181 ≡ number 6
  pub short_of_nodes : opening (drop 1 half_spacing) ≡ number 6
  -- going back 9 for corrections, then 15, then 9 for heights
  pub corrections_before_height_grid : way_back (bad_correction middle) (at (pos 400) (pos 500)) (pos 0) ≡ number 9
  pub height_grid_before_heights : way_back bad_heights (at (pos 400) (pos 500)) (pos 0) ≡ number 15
  pub heights_last : way_back bad_heights (at (pos 500) (pos 500)) (pos 0) ≡ number 9
  -- going out 8, 10 and 11 come before 15
  pub bounds_before_height_grid : way_out middle (at (pos 2050) (pos 500)) (pos 0) ≡ number 8
  pub iterate_before_height_grid : way_out middle (at (pos 50) (pos 500)) (pos 0) ≡ number 10
  pub settled_before_height_grid : way_out steep_middle (at (pos 1500) (pos 400)) (pos 0) ≡ number 11
  -- in the check 9 of heights comes before 12
  pub heights_before_slopes : grid_check (bad_height half_spacing) ≡ number 9

pub height_grid : HeightGrid × HeightGridOrder
unfolding round_half_up u64_at i32_at i64_at trailer_of edition_of two_grid_trailer_of plane question3 question4 bounds_within question5 back_passes
    backs_pass judge judge_two opening_two opening cell_of part_of weighted bilinear value_at on_axis inside square_passes corrections_pass
    heights_pass correction_grid_lookup height_grid_lookup question7 plus minus back settled iterate out convert_over convert every largest
    all_within all_pass step_north step_east steps_of slope_passes question12 findings_of check grid_check
height_grid = (
  record {
    back_node = refl;
    back_between = refl;
    out_node = refl;
    out_between = refl;
    back_corner = refl;
    back_outside = refl;
    check_passes = refl;
    check_by_own_spacing = refl;
    back_on_bound = refl;
    back_on_far_bound = refl;
    back_off = refl;
    back_off_east = refl;
    out_off = refl;
    out_on = refl;
    heights_of_the_last = refl;
    heights_asked = refl;
  },
  record {
    length_before_kind = refl;
    kind_before_counts = refl;
    edition_known = refl;
    counts = refl;
    height_counts_before_spacings = refl;
    spacings = refl;
    height_spacings_before_bounds = refl;
    bounds = refl;
    height_bounds_before_backs = refl;
    back_asked = refl;
    height_back_asked = refl;
    short_of_nodes = refl;
    corrections_before_height_grid = refl;
    height_grid_before_heights = refl;
    heights_last = refl;
    bounds_before_height_grid = refl;
    iterate_before_height_grid = refl;
    settled_before_height_grid = refl;
    heights_before_slopes = refl;
  },
)
