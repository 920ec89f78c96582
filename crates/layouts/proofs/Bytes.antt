-- What is read at a place of an image depends on the bytes there alone: where two images have the same bytes, each at its place, they read
-- the same numbers.
use Rattle.std.specs.Prelude.{List, ◌≡◌, ℕ, ◌+◌, ◌-◌, ◌*◌, ◌≤◌, ◌<◌, length, get_or, take, drop}
use Rattle.std.proofs.Common.{sym, ◌∙◌, add_assoc, add-zero, arith, get_or-take, get_or-drop}
use Rattle.std.proofs.Math.Path.{ap}
use Rattle.rules.specs.Image.{u32_at, u64_at, twos_complement, i32_at, i64_at, geometry_at, two_grid_trailer_of}
use Rattle.layouts.specs.Bytes.{SameBytes, SameGrids}

byte_in : (b : List ℕ) (at n i : ℕ) → i < n → get_or (take n (drop at b)) i 0 ≡ get_or b (at + i) 0
byte_in b at n i l = rw (get_or-take, get_or-drop)

pub bytes_from : (n : ℕ) (b : List ℕ) (at : ℕ) (k : List ℕ) (place : ℕ) → take n (drop at b) ≡ take n (drop place k)
    → SameBytes n b at k place
bytes_from n b at k place e =
    record { each = λ i l. sym (byte_in b at n i l) ∙ ap (λ (part : List ℕ). get_or part i 0) e ∙ byte_in k place n i l }

module _ {b k : List ℕ} {at place : ℕ} where
  -- Some of them: m bytes from byte j on, and the first m.
  pub among : {n : ℕ} (j m : ℕ) → j + m ≤ n → SameBytes n b at k place → SameBytes m b (at + j) k (place + j)
  among j m l s = record { each = λ i h. rw (add_assoc at j i, add_assoc place j i) (s.each (j + i) (omega arith)) }

  pub first_of : {n : ℕ} (m : ℕ) → m ≤ n → SameBytes n b at k place → SameBytes m b at k place
  first_of m l s = record { each = λ i h. s.each i (omega arith) }

  -- The numbers,
  pub u32_same : SameBytes 4 b at k place → u32_at b at ≡ u32_at k place
  u32_same s =
      let first = rw (add-zero at, add-zero place) at (s.each 0 (omega arith)) in
      let byte = s.each in
      λ i. first i + 256 * byte 1 (omega arith) i + 65536 * byte 2 (omega arith) i + 16777216 * byte 3 (omega arith) i

  pub i32_same : SameBytes 4 b at k place → i32_at b at ≡ i32_at k place
  unfolding i32_at
  i32_same s = ap (twos_complement 2147483648) (u32_same s)

i64_same : {b k : List ℕ} {at place : ℕ} → SameBytes 8 b at k place → i64_at b at ≡ i64_at k place
unfolding i64_at u64_at
i64_same s =
    let low = u32_same (first_of 4 (omega arith) s) in
    let high = u32_same (among 4 4 (omega arith) s) in
    λ i. twos_complement 9223372036854775808 (low i + 4294967296 * high i)

-- a geometry,
geometry_same : {b k : List ℕ} {at place : ℕ} → SameBytes 32 b at k place → geometry_at b at ≡ geometry_at k place
geometry_same {b} {k} {at} {place} s =
    let number : (j : ℕ) → j + 4 ≤ 32 → u32_at b (at + j) ≡ u32_at k (place + j) = λ j l. u32_same (among j 4 l s) in
    let south = i64_same (first_of 8 (omega arith) s) in
    let west = i64_same (among 8 8 (omega arith) s) in
    λ i. record {
      latitude = record { start = south i; spacing = number 16 (omega arith) i; count = number 24 (omega arith) i };
      longitude = record { start = west i; spacing = number 20 (omega arith) i; count = number 28 (omega arith) i };
    }

pub trailers_same : (b k : List ℕ) → SameBytes 72 b (length b - 80) k (length k - 80) → SameGrids (two_grid_trailer_of b) (two_grid_trailer_of k)
unfolding two_grid_trailer_of
trailers_same b k s =
    let corrections = geometry_same (first_of 32 (omega arith) s) in
    let heights = geometry_same (among 32 32 (omega arith) s) in
    record {
      corrections = λ i. record { geometry = corrections i; back = u32_same (among 64 4 (omega arith) s) i };
      heights = λ i. record { geometry = heights i; back = u32_same (among 68 4 (omega arith) s) i };
    }
