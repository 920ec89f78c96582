-- Figures of our own for kind 3 and both conversions, computed from bytes: the same answers as kind 0's, the bytes there and back, and the
-- order of the refusals.
use mathlib.Core.List.{List, ◌∷◌, ◌++◌}
use mathlib.Core.Path.{◌≡◌, refl}
use Prim.Native.Nat.{ℕ, ◌+◌, ◌*◌}
use lib.IntN.{ℤ, pos, neg_ℤ}
use lib.ListN.{drop, set}
use Rattle.integers.specs.Rounding.{round_half_up}
use Rattle.rules.specs.Answers.{values, number}
use Rattle.rules.specs.Image.{u64_at, i32_at, i64_at, trailer_of, edition_of, two_grid_trailer_of, plane}
use Rattle.rules.specs.Questions.{question3, question4, bounds_within, question5, back_passes, question6, backs_pass}
use Rattle.rules.specs.Questions.{judge, judge_two, opening_two, opening}
use Rattle.rules.specs.Bilinear.{cell_of, part_of, weighted, bilinear, value_at}
use Rattle.rules.specs.Lookup.{on_axis, inside, square_passes, corrections_pass, heights_pass, correction_grid_lookup, height_grid_lookup}
use Rattle.rules.specs.Ways.{question7, plus, minus, measured, back, settled, iterate, out, convert_over, convert, way_back, way_out}
use Rattle.rules.specs.Check.{every, largest, all_within, all_pass, step_north, step_east, steps_of}
use Rattle.rules.specs.Check.{slope_passes, question12, findings_of, check, grid_check}
use Rattle.rules.specs.Files.{in_sequence}
use Rattle.rules.specs.Planes.{is_of_kind, convertible, corrections_in_planes, corrections_in_nodes, rest_with_kind}
use Rattle.rules.specs.Planes.{planes_from_nodes, nodes_from_planes}
use Rattle.rules.specs.Figures.{grid_g, word, i32_bytes, at}
use Rattle.rules.proofs.HeightGrid.{nodes, geometry_bytes, findings}

-- Corrections of 2 rows and 3 columns from G's south-west corner on, and heights of 2 rows and columns, twice as far apart.
abbrev latitude : ℕ → ℕ → ℤ
latitude row column = pos (100 + 4 * row + column)

abbrev longitude : ℕ → ℕ → ℤ
longitude row column = neg_ℤ (pos (50 + 2 * row + column))

-- What follows the corrections, 96 bytes.
abbrev rest : (kind : ℕ) → List ℕ
rest kind =
    nodes 2 2 (λ row column. i32_bytes (pos (430000 + 8 * row + 4 * column)))
    ++ geometry_bytes 0 1000 2 3 ++ geometry_bytes 0 2000 2 2
    ++ word 144 ++ word 96 ++ word kind ++ word 2

-- The image in nodes, and the same in planes, 144 bytes each.
abbrev in_nodes : (kind : ℕ) → List ℕ
in_nodes kind = nodes 2 3 (λ row column. i32_bytes (latitude row column) ++ i32_bytes (longitude row column)) ++ rest kind

abbrev in_planes : (kind : ℕ) → List ℕ
in_planes kind =
    nodes 2 3 (λ row column. i32_bytes (latitude row column)) ++ nodes 2 3 (λ row column. i32_bytes (longitude row column)) ++ rest kind

pub record InPlanes : Type 0 where
  -- at (500, 500) the means of four corners, 102.5 and −51.5, and a quarter of the heights' steps
  pub back_in_planes : way_back (in_planes 3) (at (pos 500) (pos 500)) (pos 10000) ≡ values (measured (at (pos 603) (pos 449)) (pos 440003) 1)
  pub back_in_nodes : way_back (in_nodes 0) (at (pos 500) (pos 500)) (pos 10000) ≡ values (measured (at (pos 603) (pos 449)) (pos 440003) 1)
  -- and out again, within 1 nd
  pub out_in_planes : way_out (in_planes 3) (at (pos 603) (pos 449)) (pos 440003) ≡ values (measured (at (pos 500) (pos 501)) (pos 10000) 2)
  -- at the far corner the node's own values
  pub back_corner : way_back (in_planes 3) (at (pos 1000) (pos 2000)) (pos 0) ≡ values (measured (at (pos 1106) (pos 1946)) (pos 430008) 1)
  pub back_outside : way_back (in_planes 3) (at (pos 1001) (pos 2000)) (pos 0) ≡ number 8
  pub check_in_planes : grid_check (in_planes 3) ≡ values (findings 4 1 2 1 8 4)
  pub check_in_nodes : grid_check (in_nodes 0) ≡ values (findings 4 1 2 1 8 4)
  -- read as the other kind, the same bytes are another grid
  pub planes_read_as_nodes : grid_check (in_planes 0) ≡ number 12
  pub kind_4 : opening (in_planes 4) ≡ number 2

pub record BothConversions : Type 0 where
  pub to_planes : planes_from_nodes (in_nodes 0) 144 ≡ values (in_planes 3)
  pub to_nodes : nodes_from_planes (in_planes 3) 144 ≡ values (in_nodes 0)
  -- what stands before the first node is left out
  pub to_planes_from_later : planes_from_nodes (7 ∷ 8 ∷ in_nodes 0) 144 ≡ values (in_planes 3)
  pub to_nodes_from_later : nodes_from_planes (7 ∷ 8 ∷ in_planes 3) 144 ≡ values (in_nodes 0)
  -- the image's number, then 2 for another kind or edition, then 14 for the buffer: one row at byte 88
  pub image_first : planes_from_nodes (set (in_planes 3) 88 1) 1 ≡ number 3
  pub short_of_nodes : nodes_from_planes (drop 1 (in_nodes 0)) 1 ≡ number 6
  pub planes_again : planes_from_nodes (in_planes 3) 1 ≡ number 2
  pub nodes_again : nodes_from_planes (in_nodes 0) 1 ≡ number 2
  pub kind_2 : planes_from_nodes (in_nodes 2) 144 ≡ number 2
  pub edition_1 : nodes_from_planes grid_g 148 ≡ number 2
  pub buffer_short : planes_from_nodes (in_nodes 0) 143 ≡ number 14
  pub buffer_long : nodes_from_planes (in_planes 3) 145 ≡ number 14
  -- as long as the image, with what stands before the first node
  pub buffer_of_all : planes_from_nodes (7 ∷ 8 ∷ in_nodes 0) 146 ≡ number 14

pub in_planes_lem : InPlanes × BothConversions
unfolding round_half_up u64_at i32_at i64_at trailer_of edition_of two_grid_trailer_of plane question3 question4 bounds_within question5 back_passes
    question6 backs_pass judge judge_two opening_two opening cell_of part_of weighted bilinear value_at on_axis inside square_passes corrections_pass
    heights_pass correction_grid_lookup height_grid_lookup question7 plus minus back settled iterate out convert_over convert every largest
    all_within all_pass step_north step_east steps_of slope_passes question12 findings_of check grid_check in_sequence is_of_kind convertible
    corrections_in_planes corrections_in_nodes rest_with_kind planes_from_nodes nodes_from_planes grid_g
in_planes_lem = (
  record {
    back_in_planes = refl;
    back_in_nodes = refl;
    out_in_planes = refl;
    back_corner = refl;
    back_outside = refl;
    check_in_planes = refl;
    check_in_nodes = refl;
    planes_read_as_nodes = refl;
    kind_4 = refl;
  },
  record {
    to_planes = refl;
    to_nodes = refl;
    to_planes_from_later = refl;
    to_nodes_from_later = refl;
    image_first = refl;
    short_of_nodes = refl;
    planes_again = refl;
    nodes_again = refl;
    kind_2 = refl;
    edition_1 = refl;
    buffer_short = refl;
    buffer_long = refl;
    buffer_of_all = refl;
  },
)
