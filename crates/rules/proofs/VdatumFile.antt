-- Examples of note 2 of document 02 that the checker computes: floats of both widths, a file of 2 × 3 nodes, and damaged bytes of it.
use mathlib.Core.Bool.{true, false}
use mathlib.Core.List.{List, [], ◌∷◌, ◌++◌}
use mathlib.Core.Path.{◌≡◌, refl}
use Prim.Native.Nat.{ℕ, zero, suc, ◌-◌, ◌*◌, ◌/◌, ◌%◌, ◌^◌}
use lib.IntN.{ℤ, pos, neg_ℤ}
use lib.ListN.{take, drop}
use Rattle.integers.specs.Rounding.{round_half_up}
use Rattle.rules.specs.declared.Geometry.{Geometry}
use Rattle.rules.specs.declared.Scale.{Scale}
use Rattle.rules.specs.Answers.{values, number}
use Rattle.rules.specs.Image.{i32_at, plane}
use Rattle.rules.specs.Questions.{question3, question4, bounds_within, question5, questions_3_to_5}
use Rattle.rules.specs.Check.{every}
use Rattle.rules.specs.Floats.{binary32, binary64, finite, value_of, nearest}
use Rattle.rules.specs.Vdatum.{big_u64_at, big_i32_at, from_degrees, from_metres, degrees_at, question16, height_of, height_fits, question17}
use Rattle.rules.specs.Vdatum.{height_nodes, heights_from, heights_after}
use Rattle.rules.specs.Files.{in_sequence, geometry_after}
use Rattle.rules.specs.Ntv2.{from_arcseconds}

-- ---- floats

-- The number itself, and the number of halves of the smallest f32, 2^-149.
abbrev plain : Scale
plain = record { over = 1; under = 1 }

abbrev tiny : Scale
tiny = record { over = 2 ^ 150; under = 1 }

abbrev f32 : Scale → ℕ → ℤ
f32 s bits = nearest s (value_of binary32 bits)

abbrev f64 : Scale → ℕ → ℤ
f64 s bits = nearest s (value_of binary64 bits)

-- Each shuts out the slip that its comment names.
pub record Floats : Type 0 where
  -- halves away from zero, toward it or to even: ± 0.5, ± 1.5, ± 1/32 m, ± 1/1024 degree
  pub half : f32 plain 0x3F000000 ≡ pos 1
  pub half_below : f32 plain 0xBF000000 ≡ pos 0
  pub one_and_half : f64 plain 0x3FF8000000000000 ≡ pos 2
  pub one_and_half_below : f64 plain 0xBFF8000000000000 ≡ neg_ℤ (pos 1)
  pub half_unit : f32 from_metres 0x3D000000 ≡ pos 313
  pub half_unit_below : f32 from_metres 0xBD000000 ≡ neg_ℤ (pos 312)
  pub half_nd : f64 from_degrees 0x3F50000000000000 ≡ pos 976563
  pub half_nd_below : f64 from_degrees 0xBF50000000000000 ≡ neg_ℤ (pos 976562)
  -- −0 as something else than 0
  pub minus_zero : f32 plain 0x80000000 ≡ pos 0
  pub minus_zero_f64 : f64 plain 0x8000000000000000 ≡ pos 0
  -- a subnormal with a leading one, or with the power of exponent 0
  pub smallest : f32 tiny 0x00000001 ≡ pos 2
  pub largest_subnormal : f32 tiny 0x007FFFFF ≡ pos 16777214
  pub smallest_normal : f32 tiny 0x00800000 ≡ pos 16777216
  pub smallest_f64 : f64 from_degrees 0x0000000000000001 ≡ pos 0
  pub smallest_below_f64 : f64 from_degrees 0x8000000000000001 ≡ pos 0
  -- the largest finite numbers, (2^24 − 1) × 2^104 and (2^53 − 1) × 2^971
  pub largest : f32 plain 0x7F7FFFFF ≡ pos ((2 ^ 24 - 1) * 2 ^ 104)
  pub largest_below_f64 : f64 plain 0xFFEFFFFFFFFFFFFF ≡ neg_ℤ (pos ((2 ^ 53 - 1) * 2 ^ 971))
  pub largest_is_finite : finite binary32 0x7F7FFFFF ≡ true
  pub largest_is_finite_f64 : finite binary64 0xFFEFFFFFFFFFFFFF ≡ true
  -- an infinity or a NaN as a number
  pub infinity : finite binary32 0x7F800000 ≡ false
  pub minus_infinity : finite binary32 0xFF800000 ≡ false
  pub not_a_number : finite binary32 0x7FC00000 ≡ false
  pub infinity_f64 : finite binary64 0x7FF0000000000000 ≡ false
  pub minus_infinity_f64 : finite binary64 0xFFF0000000000000 ≡ false
  pub not_a_number_f64 : finite binary64 0x7FF0000000000001 ≡ false
  -- the decimal number that the float stands for, and not its exact value: 100.00005 m is 100.000053… as f32
  pub exact_value : f32 from_metres 0x42C80007 ≡ pos 1000001
  -- 0.0125 degree and 45 arcseconds
  pub in_degrees : f64 from_degrees 0x3F8999999999999A ≡ pos 12500000
  pub in_arcseconds : f64 from_arcseconds 0x4046800000000000 ≡ pos 12500000

-- ---- a file

-- The lowest n bytes of a number, the highest first.
abbrev pub big : ℕ → ℕ → List ℕ
big zero x = []
big (suc n) x = (x / 256 ^ n % 256) ∷ big n x

-- A header, and the file with the nodes 43, 43.1234, 1/32; −1/32, −0 and −100.0000457… m.
abbrev header : (south west latitudeSpacing longitudeSpacing rows columns : ℕ) → List ℕ
header s w p q r c = big 8 s ++ big 8 w ++ big 8 p ++ big 8 q ++ big 4 r ++ big 4 c

abbrev nodes : List ℕ
nodes = big 4 0x422C0000 ++ big 4 0x422C7E5D ++ big 4 0x3D000000 ++ big 4 0xBD000000 ++ big 4 0x80000000 ++ big 4 0xC2C80006

-- 52 degrees, 5 degrees, 0.01 and 0.0125 degree.
abbrev fine : List ℕ
fine = header 0x404A000000000000 0x4014000000000000 0x3F847AE147AE147B 0x3F8999999999999A 2 3

abbrev file : List ℕ
file = fine ++ nodes

-- With another node at the end.
abbrev last_node : ℕ → List ℕ
last_node bits = take 60 file ++ big 4 bits

abbrev buffer : List ℕ
buffer = 1 ∷ 2 ∷ 3 ∷ 4 ∷ 5 ∷ 6 ∷ 7 ∷ 8 ∷ 9 ∷ 10 ∷ 11 ∷ 12 ∷ 13 ∷ 14 ∷ 15 ∷ 16 ∷ 17 ∷ 18 ∷ 19 ∷ 20 ∷ 21 ∷ 22 ∷ 23 ∷ 24 ∷ []

abbrev geometry : Geometry
geometry =
    record {
      latitude = record { start = pos 52000000000; spacing = 10000000; count = 2 };
      longitude = record { start = pos 5000000000; spacing = 12500000; count = 3 };
    }

-- The height nodes as an image has them, at byte 0 of the buffer.
abbrev burned : ℕ → ℕ → ℤ
burned = plane (heights_after file buffer) (record { geometry = geometry; first = 0; stride = 4 })

pub record File : Type 0 where
  pub converted : heights_from file 24 ≡ values geometry
  pub handed_back : geometry_after (heights_from file 24) []
      ≡ pos 52000000000 ∷ pos 5000000000 ∷ pos 10000000 ∷ pos 12500000 ∷ pos 2 ∷ pos 3 ∷ []
  -- 430,000 is 00 06 8F B0, −312 is FF FF FE C8
  pub first_bytes : take 4 (heights_after file buffer) ≡ 0xB0 ∷ 0x8F ∷ 0x06 ∷ 0x00 ∷ []
  pub fourth_bytes : take 4 (drop 12 (heights_after file buffer)) ≡ 0xC8 ∷ 0xFE ∷ 0xFF ∷ 0xFF ∷ []
  pub southwest : burned 0 0 ≡ pos 430000
  pub south : burned 0 1 ≡ pos 431234
  pub southeast : burned 0 2 ≡ pos 313
  pub northwest : burned 1 0 ≡ neg_ℤ (pos 312)
  pub north : burned 1 1 ≡ pos 0
  pub northeast : burned 1 2 ≡ neg_ℤ (pos 1000000)
  -- refusal 16: no header, a byte more or less in file or buffer
  pub no_header : heights_from (take 39 file) 24 ≡ number 16
  pub shorter_file : heights_from (take 63 file) 24 ≡ number 16
  pub longer_file : heights_from (file ++ 0 ∷ []) 24 ≡ number 16
  pub smaller_buffer : heights_from file 23 ≡ number 16
  pub larger_buffer : heights_from file 25 ≡ number 16
  -- a header number that is not finite, a negative spacing, one that rounds to 0, a negative count, bounds past 90 degrees
  pub infinite_south : heights_from (header 0x7FF0000000000000 0 0x3F847AE147AE147B 0x3F847AE147AE147B 2 3 ++ nodes) 24 ≡ number 16
  pub spacing_not_a_number : heights_from (header 0 0 0x3F847AE147AE147B 0x7FF8000000000000 2 3 ++ nodes) 24 ≡ number 16
  pub negative_spacing : heights_from (header 0 0 0xBF847AE147AE147B 0x3F847AE147AE147B 2 3 ++ nodes) 24 ≡ number 16
  pub no_spacing_lem : heights_from (header 0 0 0x3F847AE147AE147B 0x3DDB7CDFD9D7BDBB 2 3 ++ nodes) 24 ≡ number 16
  pub negative_rows : heights_from (header 0 0 0x3F847AE147AE147B 0x3F847AE147AE147B 0xFFFFFFFE 3 ++ nodes) 24 ≡ number 16
  pub far_north : heights_from (header 0x4056800000000000 0 0x3F847AE147AE147B 0x3F847AE147AE147B 2 3 ++ nodes) 24 ≡ number 16
  -- refusal 17: a node that is infinite, not a number, or past the limit by its rounded height; the one below it passes
  pub infinite_node : heights_from (last_node 0xFF800000) 24 ≡ number 17
  pub node_not_a_number : heights_from (last_node 0x7FC00000) 24 ≡ number 17
  pub node_beyond : heights_from (last_node 0x42C80007) 24 ≡ number 17
  pub node_beyond_below : heights_from (last_node 0xC2C80007) 24 ≡ number 17
  pub node_most : heights_from (last_node 0x42C80006) 24 ≡ values geometry
  -- 16 before 17, and a buffer and a geometry that a refusal changes
  pub file_before_nodes : heights_from (last_node 0xFF800000) 25 ≡ number 16
  pub buffer_unchanged : heights_after (last_node 0xFF800000) buffer ≡ buffer
  pub geometry_unchanged : geometry_after (heights_from (last_node 0xFF800000) 24) (pos 1 ∷ []) ≡ pos 1 ∷ []

pub vdatum_file : Floats × File
unfolding round_half_up value_of nearest i32_at plane every question3 question4 bounds_within question5 questions_3_to_5 big_u64_at big_i32_at degrees_at
    question16 height_of height_fits question17 in_sequence height_nodes heights_from
vdatum_file = (
  record {
    half = refl;
    half_below = refl;
    one_and_half = refl;
    one_and_half_below = refl;
    half_unit = refl;
    half_unit_below = refl;
    half_nd = refl;
    half_nd_below = refl;
    minus_zero = refl;
    minus_zero_f64 = refl;
    smallest = refl;
    largest_subnormal = refl;
    smallest_normal = refl;
    smallest_f64 = refl;
    smallest_below_f64 = refl;
    largest = refl;
    largest_below_f64 = refl;
    largest_is_finite = refl;
    largest_is_finite_f64 = refl;
    infinity = refl;
    minus_infinity = refl;
    not_a_number = refl;
    infinity_f64 = refl;
    minus_infinity_f64 = refl;
    not_a_number_f64 = refl;
    exact_value = refl;
    in_degrees = refl;
    in_arcseconds = refl;
  },
  record {
    converted = refl;
    handed_back = refl;
    first_bytes = refl;
    fourth_bytes = refl;
    southwest = refl;
    south = refl;
    southeast = refl;
    northwest = refl;
    north = refl;
    northeast = refl;
    no_header = refl;
    shorter_file = refl;
    longer_file = refl;
    smaller_buffer = refl;
    larger_buffer = refl;
    infinite_south = refl;
    spacing_not_a_number = refl;
    negative_spacing = refl;
    no_spacing_lem = refl;
    negative_rows = refl;
    far_north = refl;
    infinite_node = refl;
    node_not_a_number = refl;
    node_beyond = refl;
    node_beyond_below = refl;
    node_most = refl;
    file_before_nodes = refl;
    buffer_unchanged = refl;
    geometry_unchanged = refl;
  },
)
