-- Document 02, note 2: a VDatum .gtx file, its layout, refusals 16 and 17, and what its conversion hands back and leaves in the lent
-- buffer.
use Rattle.std.specs.Prelude.{Bool, ◌&&◌, List, ℕ, ◌+◌, ◌*◌, leb, eqb, ℤ, length, get_or}
use Rattle.rules.specs.declared.Axis.{Axis}
use Rattle.rules.specs.declared.Geometry.{Geometry}
use Rattle.rules.specs.declared.Scale.{Scale}
use Rattle.rules.specs.Units.{within, quasi_geoid_limit}
use Rattle.rules.specs.Answers.{Outcome, values, ask, and_then, after}
use Rattle.rules.specs.Image.{twos_complement, rows, columns}
use Rattle.rules.specs.Questions.{questions_3_to_5}
use Rattle.rules.specs.Check.{every}
use Rattle.rules.specs.Floats.{binary32, binary64, finite, value_of, nearest}
use Rattle.rules.specs.Files.{natural, bytes_of, in_sequence}

-- The file's numbers are big-endian: the unsigned ones of four and of eight bytes, the highest byte first, that begin at byte `at`, and
-- the signed one of four.
abbrev pub big_u32_at : List ℕ → (at : ℕ) → ℕ
big_u32_at b at = get_or b (at + 3) 0 + 256 * get_or b (at + 2) 0 + 65536 * get_or b (at + 1) 0 + 16777216 * get_or b at 0

unfoldable pub big_u64_at : List ℕ → (at : ℕ) → ℕ
big_u64_at b at = big_u32_at b (at + 4) + 4294967296 * big_u32_at b at

unfoldable pub big_i32_at : List ℕ → (at : ℕ) → ℤ
big_i32_at b at = twos_complement 2147483648 (big_u32_at b at)

-- nd from degrees, units from metres.
abbrev pub from_degrees : Scale
from_degrees = record { over = 1000000000; under = 1 }

abbrev pub from_metres : Scale
from_metres = record { over = 10000; under = 1 }

-- The f64 in degrees at a byte of the header, to the nearest nd.
unfoldable pub degrees_at : List ℕ → (at : ℕ) → ℤ
degrees_at b at = nearest from_degrees (value_of binary64 (big_u64_at b at))

-- The header's 40 bytes: southern latitude at 0, western longitude at 8, latitude spacing at 16, longitude spacing at 24, all f64 in
-- degrees; rows at 32, columns at 36, i32. An axis has its number of each.
abbrev pub header_axis : List ℕ → (start spacing count : ℕ) → Axis
header_axis b start spacing count =
    record { start = degrees_at b start; spacing = natural (degrees_at b spacing); count = natural (big_i32_at b count) }

abbrev pub header_of : List ℕ → Geometry
header_of b = record { latitude = header_axis b 0 16 32; longitude = header_axis b 8 24 36 }

-- Are an axis's two floats finite?
abbrev pub axis_finite : List ℕ → (start spacing : ℕ) → Bool
axis_finite b start spacing = finite binary64 (big_u64_at b start) && finite binary64 (big_u64_at b spacing)

-- The bytes of so many heights: in the file f32, in the buffer the nodes that edition 2 has.
abbrev pub height_bytes : Geometry → ℕ
height_bytes g = 4 * rows g * columns g

-- 16. Has the file a header, all of whose numbers are finite and, rounded, pass questions 3 to 5; and are file and buffer, of `room` bytes,
-- of the exact length?
unfoldable pub question16 : List ℕ → (room : ℕ) → Bool
question16 b room =
    let g = header_of b in
    leb 40 (length b)
    && (axis_finite b 0 16
    && (axis_finite b 8 24
    && (questions_3_to_5 g
    && (eqb (length b) (40 + height_bytes g) && eqb room (height_bytes g)))))

-- After the header stand the nodes, f32 in metres, from the south-west, west to east. The bits of node n, and its height in units.
abbrev pub height_bits : List ℕ → (n : ℕ) → ℕ
height_bits b n = big_u32_at b (40 + 4 * n)

unfoldable pub height_of : List ℕ → (n : ℕ) → ℤ
height_of b n = nearest from_metres (value_of binary32 (height_bits b n))

-- 17. Is every node finite and, rounded, within the limit of heights?
unfoldable pub height_fits : List ℕ → (n : ℕ) → Bool
height_fits b n = finite binary32 (height_bits b n) && within quasi_geoid_limit (height_of b n)

unfoldable pub question17 : List ℕ → (nodes : ℕ) → Bool
question17 b nodes = every nodes (height_fits b)

-- The height nodes of edition 2, in the same order: the first so many.
unfoldable pub height_nodes : List ℕ → (nodes : ℕ) → List ℕ
height_nodes b = in_sequence (λ n. bytes_of (height_of b n))

-- The conversion of a file into a buffer of `room` bytes: the geometry, or a number.
unfoldable pub heights_from : List ℕ → (room : ℕ) → Outcome Geometry
heights_from b room =
    let g = header_of b in
    ask (question16 b room) 16 (ask (question17 b (rows g * columns g)) 17 (values g))

-- What the buffer holds after it: the nodes, or with a number what was there before.
abbrev pub heights_after : List ℕ → (buffer : List ℕ) → List ℕ
heights_after b buffer =
    after (and_then (heights_from b (length buffer)) (λ g. values (height_nodes b (rows g * columns g)))) buffer
