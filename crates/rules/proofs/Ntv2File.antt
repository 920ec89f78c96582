-- Examples of notes 4 and 5 of document 02 that the checker computes: a file of 2 × 3 nodes, one with a subgrid of 2 × 2 after them, the
-- values that are not read, and damaged bytes.
use mathlib.Core.List.{List, [], ◌∷◌, ◌++◌}
use mathlib.Core.Path.{◌≡◌, refl}
use Prim.Native.Nat.{ℕ, zero, suc, ◌+◌, ◌/◌, ◌%◌}
use lib.IntN.{ℤ, pos, neg_ℤ}
use lib.ListN.{length, take, drop, get_or}
use Rattle.integers.specs.Rounding.{round_half_up}
use Rattle.rules.specs.declared.Geometry.{Geometry}
use Rattle.rules.specs.Answers.{values, number}
use Rattle.rules.specs.Image.{u64_at, i32_at, plane}
use Rattle.rules.specs.Questions.{question3, question4, bounds_within, question5, questions_3_to_5}
use Rattle.rules.specs.Check.{every}
use Rattle.rules.specs.Floats.{value_of, nearest}
use Rattle.rules.specs.Vdatum.{big_u64_at}
use Rattle.rules.specs.Files.{in_sequence, geometries_after}
use Rattle.rules.specs.Ntv2.{spelled, labels, end_label, seconds_text, none_text, labelled, overview_passes, arcseconds, header_passes}
use Rattle.rules.specs.Ntv2.{grid_passes, closed, first_grid, subgrid_passes, rest_passes, question18, no_geometry, latitude_from}
use Rattle.rules.specs.Ntv2.{longitude_from, shifts_fit, all_shifts_fit, question19, file_node, correction_node, correction_row}
use Rattle.rules.specs.Ntv2.{correction_nodes, corrections_from, corrections_after, dense_corrections_after}
use Rattle.rules.proofs.VdatumFile.{big}

-- The lowest n bytes of a number, the lowest first.
abbrev little : ℕ → ℕ → List ℕ
little zero x = []
little (suc n) x = (x % 256) ∷ little n (x / 256)

-- A count, and a value that is not read: `rest` is all that is not, the other texts and the four bytes after a count.
abbrev count : (rest n : ℕ) → List ℕ
count rest n = little 4 n ++ little 4 (rest / 4294967296)

abbrev unread : (rest : ℕ) → List ℕ
unread rest = little 8 rest

-- The values of the overview's records.
abbrev overview_values : (rest grids : ℕ) → List (List ℕ)
overview_values rest grids =
    let u = unread rest in
    count rest 11 ∷ count rest 11 ∷ count rest grids ∷ big 8 seconds_text ∷ u ∷ u ∷ u ∷ u ∷ u ∷ u ∷ u ∷ []

-- Those of the first grid's header: 52 degrees, 0.01 degree further north; 18,089.859375'' and 17,999.859375'' east, whose nd are exact
-- halves; 36'' and 45''.
abbrev header_values : (rest : ℕ) → (name : List ℕ) → List (List ℕ)
header_values rest name =
    let u = unread rest in
    name ∷ big 8 none_text ∷ u ∷ u
    ∷ little 8 0x4106DA0000000000 ∷ little 8 0x4106DB2000000000 ∷ little 8 0xC0D1AA7700000000 ∷ little 8 0xC0D193F700000000
    ∷ little 8 0x4042000000000000 ∷ little 8 0x4046800000000000
    ∷ count rest 6 ∷ []

-- Those of the subgrid's: 52 degrees, 0.005 degree further north; 18,022.5'' and 18,000'' east; 18'' and 22.5''.
abbrev dense_header_values : (rest : ℕ) → (parent : List ℕ) → List (List ℕ)
dense_header_values rest parent =
    let u = unread rest in
    u ∷ parent ∷ u ∷ u
    ∷ little 8 0x4106DA0000000000 ∷ little 8 0x4106DA9000000000 ∷ little 8 0xC0D199A000000000 ∷ little 8 0xC0D1940000000000
    ∷ little 8 0x4032000000000000 ∷ little 8 0x4036800000000000
    ∷ count rest 4 ∷ []

-- Eleven records with the labels from place `first` on.
abbrev records : (first : ℕ) → List (List ℕ) → List ℕ
records first each = in_sequence (λ n. big 8 (get_or labels (first + n) 0) ++ get_or each n []) 11

-- A node with its accuracies. From the south-east, westward: the latitude shifts are 0.140625'', which is 39,062.5 nd, its negative, 0; 36'',
-- −36'', −0; the longitude shifts the same in another order.
abbrev node : (rest latitude longitude : ℕ) → List ℕ
node rest latitude longitude = little 4 latitude ++ (little 4 longitude ++ little 8 rest)

abbrev file_nodes : (rest : ℕ) → List ℕ
file_nodes rest =
    node rest 0x3E100000 0x3E100000 ++ (node rest 0xBE100000 0 ++ (node rest 0 0xBE100000
    ++ (node rest 0x42100000 0xC2100000 ++ (node rest 0xC2100000 0x42100000 ++ node rest 0x80000000 0x80000000))))

abbrev closing : (rest : ℕ) → List ℕ
closing rest = big 8 end_label ++ unread rest

abbrev file_with : (rest : ℕ) → List ℕ
file_with rest = records 0 (overview_values rest 1) ++ (records 11 (header_values rest (unread rest)) ++ (file_nodes rest ++ closing rest))

-- The subgrid's nodes, from the south-east, westward: the latitude shifts are 18'', 9'', 4.5'' and −9'', the longitude shifts −4.5'', 18'', 0 and
-- 9''.
abbrev dense_nodes : (rest : ℕ) → List ℕ
dense_nodes rest =
    node rest 0x41900000 0xC0900000 ++ (node rest 0x41100000 0x41900000 ++ (node rest 0x40900000 0 ++ node rest 0xC1100000 0x41100000))

abbrev nested_with : (rest : ℕ) → List ℕ
nested_with rest =
    let name = big 8 (spelled "COARSE 1") in
    records 0 (overview_values rest 2)
    ++ (records 11 (header_values rest name)
    ++ (file_nodes rest
    ++ (records 11 (dense_header_values rest name)
    ++ (dense_nodes rest
    ++ closing rest))))

-- Two files of each kind that differ in all that is not read: these bytes are 0 in the first, and in the second a NaN and −infinity as
-- accuracies.
abbrev other_rest : ℕ
other_rest = 0xFF8000007FC00000

abbrev file : List ℕ
file = file_with 0

abbrev nested : List ℕ
nested = nested_with 0

-- With other bytes from byte `at` on.
abbrev changed_in : (file : List ℕ) → (at : ℕ) → List ℕ → List ℕ
changed_in file at bytes = take at file ++ (bytes ++ drop (at + length bytes) file)

abbrev changed : (at : ℕ) → List ℕ → List ℕ
changed = changed_in file

abbrev changed_nested : (at : ℕ) → List ℕ → List ℕ
changed_nested = changed_in nested

-- With another f64 in the header, f32 in the nodes or i32 as a count.
abbrev f64_put : (at bits : ℕ) → List ℕ
f64_put at bits = changed at (little 8 bits)

abbrev f32_put : (at bits : ℕ) → List ℕ
f32_put at bits = changed at (little 4 bits)

abbrev buffer : List ℕ
buffer = in_sequence (λ n. n ∷ 0 ∷ 0 ∷ 0 ∷ []) 12

abbrev dense_buffer : List ℕ
dense_buffer = in_sequence (λ n. 0 ∷ n ∷ 0 ∷ 0 ∷ []) 8

abbrev geometry : Geometry
geometry =
    record {
      latitude = record { start = pos 52000000000; spacing = 10000000; count = 2 };
      longitude = record { start = pos 4999960938; spacing = 12500000; count = 3 };
    }

abbrev dense_geometry : Geometry
dense_geometry =
    record {
      latitude = record { start = pos 52000000000; spacing = 5000000; count = 2 };
      longitude = record { start = pos 5000000000; spacing = 6250000; count = 2 };
    }

-- The latitude or longitude corrections of such a buffer from the south-west: the southern row from west to east, then the northern one.
abbrev corrections : (first : ℕ) → List ℕ → List ℤ
corrections first b =
    let at = plane b (record { geometry = geometry; first = first; stride = 8 }) in
    at 0 0 ∷ at 0 1 ∷ at 0 2 ∷ at 1 0 ∷ at 1 1 ∷ at 1 2 ∷ []

abbrev dense_corrections : (first : ℕ) → List ℕ → List ℤ
dense_corrections first b =
    let at = plane b (record { geometry = dense_geometry; first = first; stride = 8 }) in
    at 0 0 ∷ at 0 1 ∷ at 1 0 ∷ at 1 1 ∷ []

-- Each shuts out the slip that its comment names.
pub record File : Type 0 where
  -- nodes from the west or rows from the north
  pub southeast_node : file_node 3 0 2 ≡ 0
  pub northwest_node : file_node 3 1 0 ≡ 5
  -- the sign turned after the rounding: the longitude shift 39,062.5 nd becomes −39,062, and −39,062.5 becomes 39,063
  pub half_turned : longitude_from (first_grid file) 0 ≡ neg_ℤ (pos 39062)
  pub half_turned_back : longitude_from (first_grid file) 2 ≡ pos 39063
  pub converted : corrections_from file 48 0 ≡ values (record { coarse = geometry; dense = no_geometry })
  pub handed_back : geometries_after (corrections_from file 48 0) []
      ≡ pos 52000000000 ∷ pos 4999960938 ∷ pos 10000000 ∷ pos 12500000 ∷ pos 2 ∷ pos 3
      ∷ pos 0 ∷ pos 0 ∷ pos 0 ∷ pos 0 ∷ pos 0 ∷ pos 0 ∷ []
  -- latitude and longitude for each other, an accuracy for a shift
  pub latitudes : corrections 0 (corrections_after file buffer [])
      ≡ pos 0 ∷ neg_ℤ (pos 39062) ∷ pos 39063 ∷ pos 0 ∷ neg_ℤ (pos 10000000) ∷ pos 10000000 ∷ []
  pub longitudes : corrections 4 (corrections_after file buffer [])
      ≡ pos 39063 ∷ pos 0 ∷ neg_ℤ (pos 39062) ∷ pos 0 ∷ neg_ℤ (pos 10000000) ∷ pos 10000000 ∷ []
  -- a value that is read though no refusal names it
  pub others_not_read : corrections_from (file_with other_rest) 48 0 ≡ values (record { coarse = geometry; dense = no_geometry })
  pub other_bytes_not_written : corrections_after (file_with other_rest) buffer [] ≡ corrections_after file buffer []
  -- refusal 18: a label's last byte, of the first and the last label of overview and header, and of END; the type; the counts
  pub first_label : corrections_from (changed 7 (0 ∷ [])) 48 0 ≡ number 18
  pub last_overview_label : corrections_from (changed 167 (0 ∷ [])) 48 0 ≡ number 18
  pub first_header_label : corrections_from (changed 183 (0 ∷ [])) 48 0 ≡ number 18
  pub last_label : corrections_from (changed 343 (0 ∷ [])) 48 0 ≡ number 18
  pub end_label_lem : corrections_from (changed 455 (0 ∷ [])) 48 0 ≡ number 18
  pub minutes : corrections_from (changed 56 (big 8 (spelled "MINUTES "))) 48 0 ≡ number 18
  pub ten_overview_records : corrections_from (changed 8 (10 ∷ [])) 48 0 ≡ number 18
  pub ten_header_records : corrections_from (changed 24 (10 ∷ [])) 48 0 ≡ number 18
  pub no_grid : corrections_from (changed 40 (0 ∷ [])) 48 0 ≡ number 18
  pub two_grids_lem : corrections_from (changed 40 (2 ∷ [])) 48 0 ≡ number 18
  pub three_grids : corrections_from (changed 40 (3 ∷ [])) 48 0 ≡ number 18
  -- a first grid that has a parent, and a second buffer that no grid needs
  pub other_parent : corrections_from (changed 207 (0 ∷ [])) 48 0 ≡ number 18
  pub second_buffer : corrections_from file 48 1 ≡ number 18
  pub other_count : corrections_from (changed 344 (7 ∷ [])) 48 0 ≡ number 18
  -- a byte more or less in file or buffer, and no header
  pub no_header : corrections_from (take 367 file) 48 0 ≡ number 18
  pub shorter_file : corrections_from (take 463 file) 48 0 ≡ number 18
  pub longer_file : corrections_from (file ++ 0 ∷ []) 48 0 ≡ number 18
  pub smaller_buffer : corrections_from file 47 0 ≡ number 18
  pub larger_buffer : corrections_from file 49 0 ≡ number 18
  -- a bound or a spacing that is not finite; a difference of bounds that is not whole, by half a row and by 1 nd; a southern bound for the
  -- northern one; a spacing below zero; bounds past 90 degrees
  pub infinite_south : corrections_from (f64_put 248 0xFFF0000000000000) 48 0 ≡ number 18
  pub spacing_not_a_number : corrections_from (f64_put 328 0x7FF8000000000000) 48 0 ≡ number 18
  pub half_a_row_more : corrections_from (f64_put 264 0x4106DBB000000000) 48 0 ≡ number 18
  pub one_nd_more : corrections_from (f64_put 280 0xC0D1AA770016A635) 48 0 ≡ number 18
  pub south_for_north : corrections_from (f64_put 264 0x4106DA0000000000) 48 0 ≡ number 18
  pub negative_spacing : corrections_from (f64_put 312 0xC042000000000000) 48 0 ≡ number 18
  pub far_north : let north = big 8 (spelled "N_LAT   ") ++ little 8 0x4113C71000000000 in
      corrections_from (changed 248 (little 8 0x4113C68000000000 ++ north)) 48 0 ≡ number 18
  -- refusal 19: a shift of either kind that is infinite, not a number, or just past the limit, in the first node and in the last
  pub infinite_shift : corrections_from (f32_put 352 0x7F800000) 48 0 ≡ number 19
  pub shift_not_a_number : corrections_from (f32_put 436 0xFFC00000) 48 0 ≡ number 19
  pub latitude_beyond : corrections_from (f32_put 432 0x42100001) 48 0 ≡ number 19
  pub longitude_beyond : corrections_from (f32_put 356 0xC2100001) 48 0 ≡ number 19
  -- 18 before 19, and a buffer and a geometry that a refusal changes
  pub file_before_nodes : corrections_from (f32_put 352 0x7F800000) 49 0 ≡ number 18
  pub buffer_unchanged : corrections_after (f32_put 352 0x7F800000) buffer [] ≡ buffer
  pub geometry_unchanged : geometries_after (corrections_from (f32_put 352 0x7F800000) 48 0) (pos 1 ∷ []) ≡ pos 1 ∷ []

-- The same of a file with a subgrid, whose header begins at byte 448.
pub record Subgrid : Type 0 where
  pub converted : corrections_from nested 48 32 ≡ values (record { coarse = geometry; dense = dense_geometry })
  pub handed_back : geometries_after (corrections_from nested 48 32) []
      ≡ pos 52000000000 ∷ pos 4999960938 ∷ pos 10000000 ∷ pos 12500000 ∷ pos 2 ∷ pos 3
      ∷ pos 52000000000 ∷ pos 5000000000 ∷ pos 5000000 ∷ pos 6250000 ∷ pos 2 ∷ pos 2 ∷ []
  -- the nodes of the one grid for those of the other
  pub coarse_nodes : corrections_after nested buffer dense_buffer ≡ corrections_after file buffer []
  pub dense_latitudes : dense_corrections 0 (dense_corrections_after nested buffer dense_buffer)
      ≡ pos 2500000 ∷ pos 5000000 ∷ neg_ℤ (pos 2500000) ∷ pos 1250000 ∷ []
  pub dense_longitudes : dense_corrections 4 (dense_corrections_after nested buffer dense_buffer)
      ≡ neg_ℤ (pos 5000000) ∷ pos 1250000 ∷ neg_ℤ (pos 2500000) ∷ pos 0 ∷ []
  pub others_not_read : corrections_from (nested_with other_rest) 48 32 ≡ values (record { coarse = geometry; dense = dense_geometry })
  -- refusal 18: the numbers of grids, the parents, the first grid's name, a label and the count in the subgrid's header
  pub one_grid : corrections_from (changed_nested 40 (1 ∷ [])) 48 32 ≡ number 18
  pub one_grid_alone : corrections_from (changed_nested 40 (1 ∷ [])) 48 0 ≡ number 18
  pub first_its_own_parent : corrections_from (changed_nested 200 (big 8 (spelled "COARSE 1"))) 48 32 ≡ number 18
  pub no_parent : corrections_from (changed_nested 472 (big 8 none_text)) 48 32 ≡ number 18
  pub other_parent : corrections_from (changed_nested 479 (50 ∷ [])) 48 32 ≡ number 18
  pub other_name : corrections_from (changed_nested 191 (50 ∷ [])) 48 32 ≡ number 18
  pub first_dense_label : corrections_from (changed_nested 455 (0 ∷ [])) 48 32 ≡ number 18
  pub last_dense_label : corrections_from (changed_nested 615 (0 ∷ [])) 48 32 ≡ number 18
  pub other_dense_count : corrections_from (changed_nested 616 (5 ∷ [])) 48 32 ≡ number 18
  pub end_label_lem : corrections_from (changed_nested 695 (0 ∷ [])) 48 32 ≡ number 18
  -- a byte more or less in the file or in a buffer, and no room for the subgrid
  pub shorter_file : corrections_from (take 703 nested) 48 32 ≡ number 18
  pub longer_file : corrections_from (nested ++ 0 ∷ []) 48 32 ≡ number 18
  pub no_subgrid : corrections_from (take 448 nested) 48 32 ≡ number 18
  pub smaller_dense_buffer : corrections_from nested 48 31 ≡ number 18
  pub larger_dense_buffer : corrections_from nested 48 33 ≡ number 18
  pub no_dense_buffer : corrections_from nested 48 0 ≡ number 18
  pub larger_buffer : corrections_from nested 49 32 ≡ number 18
  -- refusal 19 in the subgrid's last node, 18 before it, and buffers that a refusal changes
  pub infinite_shift : corrections_from (changed_nested 676 (little 4 0x7F800000)) 48 32 ≡ number 19
  pub file_before_nodes : corrections_from (changed_nested 676 (little 4 0x7F800000)) 48 33 ≡ number 18
  pub buffer_unchanged : corrections_after (changed_nested 676 (little 4 0x7F800000)) buffer dense_buffer ≡ buffer
  pub dense_buffer_unchanged : dense_corrections_after (changed_nested 352 (little 4 0x7F800000)) buffer dense_buffer ≡ dense_buffer

pub ntv2_file : File
unfolding round_half_up value_of nearest u64_at i32_at plane every question3 question4 bounds_within question5 questions_3_to_5 big_u64_at in_sequence
    labelled overview_passes arcseconds header_passes grid_passes closed subgrid_passes rest_passes question18 latitude_from longitude_from
    shifts_fit all_shifts_fit question19 correction_node correction_row correction_nodes corrections_from
ntv2_file =
    record {
      southeast_node = refl;
      northwest_node = refl;
      half_turned = refl;
      half_turned_back = refl;
      converted = refl;
      handed_back = refl;
      latitudes = refl;
      longitudes = refl;
      others_not_read = refl;
      other_bytes_not_written = refl;
      first_label = refl;
      last_overview_label = refl;
      first_header_label = refl;
      last_label = refl;
      end_label_lem = refl;
      minutes = refl;
      ten_overview_records = refl;
      ten_header_records = refl;
      no_grid = refl;
      two_grids_lem = refl;
      three_grids = refl;
      other_parent = refl;
      second_buffer = refl;
      other_count = refl;
      no_header = refl;
      shorter_file = refl;
      longer_file = refl;
      smaller_buffer = refl;
      larger_buffer = refl;
      infinite_south = refl;
      spacing_not_a_number = refl;
      half_a_row_more = refl;
      one_nd_more = refl;
      south_for_north = refl;
      negative_spacing = refl;
      far_north = refl;
      infinite_shift = refl;
      shift_not_a_number = refl;
      latitude_beyond = refl;
      longitude_beyond = refl;
      file_before_nodes = refl;
      buffer_unchanged = refl;
      geometry_unchanged = refl;
    }

pub ntv2_subgrid : Subgrid
unfolding round_half_up value_of nearest u64_at i32_at plane every question3 question4 bounds_within question5 questions_3_to_5 big_u64_at in_sequence
    labelled overview_passes arcseconds header_passes grid_passes closed subgrid_passes rest_passes question18 latitude_from longitude_from
    shifts_fit all_shifts_fit question19 correction_node correction_row correction_nodes corrections_from
ntv2_subgrid =
    record {
      converted = refl;
      handed_back = refl;
      coarse_nodes = refl;
      dense_latitudes = refl;
      dense_longitudes = refl;
      others_not_read = refl;
      one_grid = refl;
      one_grid_alone = refl;
      first_its_own_parent = refl;
      no_parent = refl;
      other_parent = refl;
      other_name = refl;
      first_dense_label = refl;
      last_dense_label = refl;
      other_dense_count = refl;
      end_label_lem = refl;
      shorter_file = refl;
      longer_file = refl;
      no_subgrid = refl;
      smaller_dense_buffer = refl;
      larger_dense_buffer = refl;
      no_dense_buffer = refl;
      larger_buffer = refl;
      infinite_shift = refl;
      file_before_nodes = refl;
      buffer_unchanged = refl;
      dense_buffer_unchanged = refl;
    }
