-- Document 02, notes 4 and 5: an NTv2.gsb file with one grid, or with one subgrid after its parent; its records and labels, the values
-- that are read, refusals 18 and 19, and what its conversion hands back and leaves in the two lent buffers.
use Rattle.std.specs.Prelude.{Bool, cond, ◌&&◌, List, [], ◌∷◌, ◌++◌, ℕ, ◌+◌, ◌-◌, ◌*◌, ◌/◌, ◌%◌, leb, eqb, ℤ, pos, neg_ℤ, ◌-ℤ◌, length, drop, get_or}
use Prim.Native.Char.{code}
use Prim.Native.String.{String}
use Prim.Native.String as text
use Rattle.rules.specs.declared.Axis.{Axis}
use Rattle.rules.specs.declared.Geometry.{Geometry}
use Rattle.rules.specs.declared.FileGrids.{FileGrids}
use Rattle.rules.specs.declared.Scale.{Scale}
use Rattle.rules.specs.Units.{within, correction_limit}
use Rattle.rules.specs.Answers.{Outcome, values, ask, and_then, after}
use Rattle.rules.specs.Image.{u32_at, u64_at, i32_at, rows, columns, node_count}
use Rattle.rules.specs.Questions.{questions_3_to_5}
use Rattle.rules.specs.Check.{every}
use Rattle.rules.specs.Floats.{binary32, binary64, finite, Fraction, value_of, nearest}
use Rattle.rules.specs.Vdatum.{big_u64_at}
use Rattle.rules.specs.Files.{natural, bytes_of, in_sequence}

-- The file is the overview of eleven records, then of each grid its header of eleven and its nodes, and last the record END, of 16 bytes
-- each. A record is a label and a value of 8 bytes each. Numbers are little-endian; a count is an i32 and four bytes that are not read.
abbrev pub count_at : List ℕ → (at : ℕ) → ℕ
count_at b at = natural (i32_at b at)

-- A text is 8 bytes of ASCII, filled with spaces: here one number, whose highest byte is the first letter.
abbrev pub text_at : List ℕ → (at : ℕ) → ℕ
text_at = big_u64_at

-- So is a text that is spelled out, after letters that make n.
abbrev pub spelled_after : (n : ℕ) → String → ℕ
spelled_after n text.[] = n
spelled_after n (text.◌∷◌ letter rest) = spelled_after (256 * n + code letter) rest

abbrev pub spelled : String → ℕ
spelled = spelled_after 0

-- The labels of the overview, then those of a grid's header.
abbrev pub labels : List ℕ
labels =
    spelled "NUM_OREC" ∷ spelled "NUM_SREC" ∷ spelled "NUM_FILE"
    ∷ spelled "GS_TYPE " ∷ spelled "VERSION " ∷ spelled "SYSTEM_F" ∷ spelled "SYSTEM_T"
    ∷ spelled "MAJOR_F " ∷ spelled "MINOR_F " ∷ spelled "MAJOR_T " ∷ spelled "MINOR_T "
    ∷ spelled "SUB_NAME" ∷ spelled "PARENT  " ∷ spelled "CREATED " ∷ spelled "UPDATED "
    ∷ spelled "S_LAT   " ∷ spelled "N_LAT   " ∷ spelled "E_LONG  " ∷ spelled "W_LONG  "
    ∷ spelled "LAT_INC " ∷ spelled "LONG_INC" ∷ spelled "GS_COUNT"
    ∷ []

abbrev pub end_label : ℕ
end_label = spelled "END     "

abbrev pub seconds_text : ℕ
seconds_text = spelled "SECONDS "

abbrev pub none_text : ℕ
none_text = spelled "NONE    "

-- Have the first eleven records the labels from place `first` on?
unfoldable pub labelled : List ℕ → (first : ℕ) → Bool
labelled b first = every 11 (λ n. eqb (text_at b (16 * n)) (get_or labels (first + n) 0))

-- The overview, from byte 0: its labels, eleven records here and in a header (NUM_OREC, NUM_SREC), values in arcseconds (GS_TYPE), and one
-- grid or two (NUM_FILE).
abbrev pub grid_count : List ℕ → ℕ
grid_count b = count_at b 40

unfoldable pub overview_passes : List ℕ → Bool
overview_passes b =
    leb 176 (length b)
    && (labelled b 0
    && (eqb (count_at b 8) 11
    && (eqb (count_at b 24) 11
    && (eqb (text_at b 56) seconds_text
    && (leb 1 (grid_count b) && leb (grid_count b) 2)))))

-- nd from arcseconds: 10^9 / 3,600. And the nearest nd to a value in arcseconds.
abbrev pub from_arcseconds : Scale
from_arcseconds = record { over = 2500000; under = 9 }

unfoldable pub arcseconds : Fraction → ℤ
arcseconds v = nearest from_arcseconds v

-- The file's longitudes are positive to the west, ours to the east. The sign of the exact value is turned, and then it is rounded.
abbrev pub turned : Fraction → Fraction
turned v = record { top = neg_ℤ v.top; bottom = v.bottom }

-- What the header says of an axis, exact, in arcseconds: its southern or western bound, its northern or eastern one, its spacing.
pub record Extent : Type 0 where
  pub start : Fraction
  pub end : Fraction
  pub spacing : Fraction

-- A grid is given as `g`, the file's bytes from its header on. In it stand the values of SUB_NAME at 8, PARENT at 24, S_LAT at 72, N_LAT
-- at 88, E_LONG at 104, W_LONG at 120, LAT_INC at 136 and LONG_INC at 152, the last six f64, of GS_COUNT at 168, and the nodes from 176 on.
abbrev pub name_of : List ℕ → ℕ
name_of g = text_at g 8

abbrev pub parent_of : List ℕ → ℕ
parent_of g = text_at g 24

abbrev pub f64_at : List ℕ → (at : ℕ) → Fraction
f64_at b at = value_of binary64 (u64_at b at)

abbrev pub latitude_extent : List ℕ → Extent
latitude_extent g = record { start = f64_at g 72; end = f64_at g 88; spacing = f64_at g 136 }

abbrev pub longitude_extent : List ℕ → Extent
longitude_extent g = record { start = turned (f64_at g 120); end = turned (f64_at g 104); spacing = f64_at g 152 }

-- The axis: all three are rounded, and the difference of the rounded bounds gives the count.
abbrev pub spacing_of : Extent → ℕ
spacing_of e = natural (arcseconds e.spacing)

abbrev pub difference_of : Extent → ℕ
difference_of e = natural (arcseconds e.end -ℤ arcseconds e.start)

abbrev pub axis_of : Extent → Axis
axis_of e = record { start = arcseconds e.start; spacing = spacing_of e; count = difference_of e / spacing_of e + 1 }

abbrev pub grid_header_of : List ℕ → Geometry
grid_header_of g = record { latitude = axis_of (latitude_extent g); longitude = axis_of (longitude_extent g) }

-- Is the difference a whole number of spacings? And are the three numbers of an axis, each at its byte, finite too?
abbrev pub whole : Extent → Bool
whole e = eqb (difference_of e % spacing_of e) 0

abbrev pub three_finite : List ℕ → (start end spacing : ℕ) → Bool
three_finite b start end spacing =
    finite binary64 (u64_at b start) && (finite binary64 (u64_at b end) && finite binary64 (u64_at b spacing))

-- The header: its labels, and a geometry that is finite, whole, within questions 3 to 5 and of GS_COUNT nodes.
unfoldable pub header_passes : List ℕ → Bool
header_passes g =
    let geometry = grid_header_of g in
    labelled g 11
    && ((three_finite g 72 88 136 && whole (latitude_extent g))
    && ((three_finite g 120 104 152 && whole (longitude_extent g))
    && (questions_3_to_5 geometry && eqb (count_at g 168) (node_count geometry))))

-- A grid: its PARENT, its header, and a buffer of `room` bytes that is of the exact length for its nodes.
unfoldable pub grid_passes : List ℕ → (parent room : ℕ) → Bool
grid_passes g parent room =
    leb 176 (length g) && (eqb (parent_of g) parent && (header_passes g && eqb room (8 * node_count (grid_header_of g))))

-- After so many nodes of it, does END stand at the end of the file?
unfoldable pub closed : List ℕ → (nodes : ℕ) → Bool
closed g nodes = eqb (length g) (192 + 16 * nodes) && eqb (text_at g (176 + 16 * nodes)) end_label

-- The first grid follows the overview, and a subgrid the first grid's nodes, of which there are so many.
abbrev pub first_grid : List ℕ → List ℕ
first_grid b = drop 176 b

abbrev pub subgrid_after : List ℕ → (nodes : ℕ) → List ℕ
subgrid_after b nodes = drop (352 + 16 * nodes) b

-- What follows those nodes: a subgrid, whose PARENT is the first grid's SUB_NAME, and END; or END alone, and a second buffer of no bytes.
abbrev pub has_subgrid : List ℕ → Bool
has_subgrid b = eqb (grid_count b) 2

unfoldable pub subgrid_passes : List ℕ → (nodes room : ℕ) → Bool
subgrid_passes b nodes room =
    let dense = subgrid_after b nodes in
    grid_passes dense (name_of (first_grid b)) room && closed dense (node_count (grid_header_of dense))

unfoldable pub rest_passes : List ℕ → (nodes room : ℕ) → Bool
rest_passes b nodes room = cond (has_subgrid b) (subgrid_passes b nodes room) (eqb room 0 && closed (first_grid b) nodes)

-- 18. With buffers of so many bytes: has the file an overview that passes, a first grid that does and has no parent, and what must follow?
unfoldable pub question18 : List ℕ → (room denseRoom : ℕ) → Bool
question18 b room denseRoom =
    let coarse = first_grid b in
    overview_passes b && (grid_passes coarse none_text room && rest_passes b (node_count (grid_header_of coarse)) denseRoom)

-- The geometries: that of the first grid, and that of the subgrid, or zeros where there is none.
abbrev pub no_axis : Axis
no_axis = record { start = pos 0; spacing = 0; count = 0 }

abbrev pub no_geometry : Geometry
no_geometry = record { latitude = no_axis; longitude = no_axis }

abbrev pub subgrid_header_of : List ℕ → (nodes : ℕ) → Geometry
subgrid_header_of b nodes = cond (has_subgrid b) (grid_header_of (subgrid_after b nodes)) no_geometry

abbrev pub grids_of : List ℕ → FileGrids
grids_of b =
    let coarse = grid_header_of (first_grid b) in
    record { coarse = coarse; dense = subgrid_header_of b (node_count coarse) }

-- A node is four f32 in arcseconds: latitude shift, longitude shift, and two accuracies that are not read. The bits of the shifts of the
-- grid's node n, and the corrections that they become.
abbrev pub latitude_shift : List ℕ → (n : ℕ) → ℕ
latitude_shift g n = u32_at g (176 + 16 * n)

abbrev pub longitude_shift : List ℕ → (n : ℕ) → ℕ
longitude_shift g n = u32_at g (180 + 16 * n)

unfoldable pub latitude_from : List ℕ → (n : ℕ) → ℤ
latitude_from g n = arcseconds (value_of binary32 (latitude_shift g n))

unfoldable pub longitude_from : List ℕ → (n : ℕ) → ℤ
longitude_from g n = arcseconds (turned (value_of binary32 (longitude_shift g n)))

-- 19. Are the shifts of every node finite and its corrections within their limit? In both grids?
unfoldable pub shifts_fit : List ℕ → (n : ℕ) → Bool
shifts_fit g n =
    (finite binary32 (latitude_shift g n) && within correction_limit (latitude_from g n))
    && (finite binary32 (longitude_shift g n) && within correction_limit (longitude_from g n))

unfoldable pub all_shifts_fit : List ℕ → (nodes : ℕ) → Bool
all_shifts_fit g nodes = every nodes (shifts_fit g)

unfoldable pub question19 : List ℕ → (nodes dense_nodes : ℕ) → Bool
question19 b nodes dense_nodes = all_shifts_fit (first_grid b) nodes && all_shifts_fit (subgrid_after b nodes) dense_nodes

-- A grid's nodes run from the south-east, westward first; ours from the south-west, eastward first. So this is its node for our row and
-- column.
abbrev pub file_node : (columns row column : ℕ) → ℕ
file_node columns row column = row * columns + (columns - 1 - column)

-- The correction nodes of edition 2: what the grid's node n becomes, a row of them, and all rows.
unfoldable pub correction_node : List ℕ → (n : ℕ) → List ℕ
correction_node g n = bytes_of (latitude_from g n) ++ bytes_of (longitude_from g n)

unfoldable pub correction_row : List ℕ → (columns row : ℕ) → List ℕ
correction_row g columns row = in_sequence (λ column. correction_node g (file_node columns row column)) columns

unfoldable pub correction_nodes : List ℕ → Geometry → List ℕ
correction_nodes g geometry = in_sequence (correction_row g (columns geometry)) (rows geometry)

-- The conversion of a file into buffers of `room` and `denseRoom` bytes: the geometries, or a number.
unfoldable pub corrections_from : List ℕ → (room denseRoom : ℕ) → Outcome FileGrids
corrections_from b room denseRoom =
    let grids = grids_of b in
    ask (question18 b room denseRoom) 18
    (ask (question19 b (node_count grids.coarse) (node_count grids.dense)) 19 (values grids))

-- What the buffers hold after it: the nodes of the first grid and those of the subgrid, or with a number what was there before.
abbrev pub corrections_after : List ℕ → (buffer dense_buffer : List ℕ) → List ℕ
corrections_after b buffer dense_buffer =
    after
    (and_then (corrections_from b (length buffer) (length dense_buffer)) (λ grids. values (correction_nodes (first_grid b) grids.coarse)))
    buffer

abbrev pub dense_corrections_after : List ℕ → (buffer dense_buffer : List ℕ) → List ℕ
dense_corrections_after b buffer dense_buffer =
    after
    (and_then (corrections_from b (length buffer) (length dense_buffer))
    (λ grids. values (correction_nodes (subgrid_after b (node_count grids.coarse)) grids.dense)))
    dense_buffer
