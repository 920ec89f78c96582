-- Two theorems for readers: the bytes that the conversion of a file writes into either buffer are, put anywhere into an image, read back as
-- the corrections of the grid's nodes, each row turned from east to west.
use Rattle.std.specs.Prelude.{true, ◌&&◌, List, ◌++◌, ◌≡◌, ℕ, ◌+◌, ◌*◌, ◌≤◌, ◌<◌, nat_abs, length}
use Rattle.std.proofs.Common.{append_assoc, ◌∙◌, mul-le-mul_right, arith, length-append, leb-true}
use Rattle.std.proofs.Math.Path.{refl}
use Rattle.integers.specs.Booleans.{and_left, and_right}
use Rattle.rules.specs.declared.Geometry.{Geometry}
use Rattle.rules.specs.Units.{correction_limit}
use Rattle.rules.specs.Image.{rows, columns, plane, node_count}
use Rattle.rules.specs.Floats.{binary32, finite}
use Rattle.rules.specs.Files.{bytes_of, in_sequence}
use Rattle.rules.specs.Ntv2.{latitude_shift, longitude_shift, latitude_from}
use Rattle.rules.specs.Ntv2.{longitude_from, shifts_fit, all_shifts_fit, file_node, correction_node, correction_row}
use Rattle.rules.specs.Ntv2.{correction_nodes}
use Rattle.rules.proofs.Largest.{every_at}
use Rattle.rules.proofs.Buffer.{parts_long, part_among, bytes_read}

module _ (b : List ℕ) (wide : ℕ) where
  -- The nodes of a row, by column, of eight bytes each, and the rows.
  abbrev pub nodes : (row : ℕ) → ℕ → List ℕ
  nodes row column = correction_node b (file_node wide row column)

  pub node_long : (row column : ℕ) → length (nodes row column) ≡ 8
  unfolding correction_node
  node_long row column = refl

  pub row_long : (row : ℕ) → length (correction_row b wide row) ≡ 8 * wide
  unfolding correction_row
  row_long row = parts_long 8 (nodes row) (node_long row) wide

  -- What stands before a node.
  abbrev ahead : (row column : ℕ) → List ℕ
  ahead row column = in_sequence (correction_row b wide) row ++ in_sequence (nodes row) column

  ahead_long : (row column : ℕ) → length (ahead row column) ≡ 8 * (row * wide + column)
  ahead_long row column =
      let r = parts_long (8 * wide) (correction_row b wide) row_long row in
      let c = parts_long 8 (nodes row) (node_long row) column in
      length-append (in_sequence (correction_row b wide) row) (in_sequence (nodes row) column) ∙ omega (arith, r, c)

  -- A node stands there among all of them.
  node_among : (count row column : ℕ) → row < count → column < wide
      → (rest : List ℕ) × (in_sequence (correction_row b wide) count ≡ ahead row column ++ (nodes row column ++ rest))
  unfolding correction_row
  node_among count row column i j =
      let r = part_among (8 * wide) (correction_row b wide) count row i in
      let c = part_among 8 (nodes row) wide column j in
      (c.0 ++ r.0, rw (r.1, c.1) (simp append_assoc))

-- The corrections of a node that passes are within their limit.
pub latitude_most : (b : List ℕ) (n : ℕ) → shifts_fit b n ≡ true → nat_abs (latitude_from b n) ≤ correction_limit
unfolding shifts_fit
latitude_most b n h = leb-true _ _ (and_right (finite binary32 (latitude_shift b n)) _ (and_left _ _ h))

pub longitude_most : (b : List ℕ) (n : ℕ) → shifts_fit b n ≡ true → nat_abs (longitude_from b n) ≤ correction_limit
unfolding shifts_fit
longitude_most b n h =
    leb-true _ _ (and_right (finite binary32 (longitude_shift b n)) _ (and_right (finite binary32 (latitude_shift b n) && _) _ h))

-- Where a grid's nodes all pass and were written into an image, anywhere, the image's planes that begin there have at each row and column
-- both corrections of the grid's node for it.
abbrev pub Reads : (image grid : List ℕ) → Geometry → (first row column : ℕ) → Type 0
Reads image grid g first row column =
    let n = file_node (columns g) row column in
    (plane image (record { geometry = g; first = first; stride = 8 }) row column ≡ latitude_from grid n)
    × (plane image (record { geometry = g; first = first + 4; stride = 8 }) row column ≡ longitude_from grid n)

pub nodes_read : (grid before end : List ℕ) (g : Geometry) (row column : ℕ) → all_shifts_fit grid (node_count g) ≡ true → row < rows g
    → column < columns g → Reads (before ++ (correction_nodes grid g ++ end)) grid g (length before) row column
unfolding all_shifts_fit correction_nodes plane correction_node
nodes_read b before end g row column q i j =
    let n = file_node (columns g) row column in
    let below = mul-le-mul_right {m = row + 1} {n = rows g} (columns g) (omega (arith, i)) in
    let fits = every_at (node_count g) (shifts_fit b) q n (omega (arith, below, j)) in
    let r = node_among b (columns g) (rows g) row column i j in
    let latitude = bytes_of (latitude_from b n) in
    let longitude = bytes_of (longitude_from b n) in
    let front = before ++ ahead b (columns g) row column in
    let long : length front ≡ length before + 8 * (row * columns g + column) =
    length-append before (ahead b (columns g) row column) ∙ omega (arith, ahead_long b (columns g) row column) in
    let long-2 : length (front ++ latitude) ≡ length before + 4 + 8 * (row * columns g + column) =
    length-append front latitude ∙ omega (arith, long) in
    let image = before ++ (in_sequence (correction_row b (columns g)) (rows g) ++ end) in
    let parts : front ++ (latitude ++ (longitude ++ (r.0 ++ end))) ≡ image =
    rw r.1 (simp append_assoc) in
    let parts-2 : (front ++ latitude) ++ (longitude ++ (r.0 ++ end)) ≡ image =
    append_assoc front latitude _ ∙ parts in
    let first = bytes_read front (longitude ++ (r.0 ++ end)) (latitude_from b n) (omega (arith, latitude_most b n fits)) in
    let second = bytes_read (front ++ latitude) (r.0 ++ end) (longitude_from b n) (omega (arith, longitude_most b n fits)) in
    (rw (parts, long) at first, rw (parts-2, long-2) at second)
