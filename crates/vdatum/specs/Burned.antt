-- A theorem for readers: the bytes that the conversion of a file writes are, put anywhere into an image, read back as the rounded heights.
use Rattle.std.specs.Prelude.{true, List, ◌++◌, ◌≡◌, refl, ℕ, ◌+◌, ◌*◌, ◌≤◌, ◌<◌, nat_abs, length}
use Rattle.std.proofs.Common.{append_assoc, subst, mul-le-mul_right, arith, length-append, leb-true}
use Rattle.integers.specs.Booleans.{and_right}
use Rattle.rules.specs.declared.Geometry.{Geometry}
use Rattle.rules.specs.Units.{within, quasi_geoid_limit}
use Rattle.rules.specs.Answers.{values}
use Rattle.rules.specs.Image.{rows, columns, plane}
use Rattle.rules.specs.Floats.{binary32, finite}
use Rattle.rules.specs.Vdatum.{header_of, height_bits, height_of, height_fits, question16, question17, height_nodes}
use Rattle.rules.specs.Vdatum.{heights_from, heights_after}
use Rattle.rules.proofs.Answers.{asked}
use Rattle.rules.specs.Files.{bytes_of}
use Rattle.rules.proofs.Largest.{every_at}
use Rattle.rules.proofs.Buffer.{parts_long, part_among, bytes_read}

-- The plane of values that begin where so many nodes were put has their heights.
nodes_read : (before b after : List ℕ) (nodes : ℕ) → question17 b nodes ≡ true → (g : Geometry) (row column : ℕ) →
    let n = row * columns g + column in
    n < nodes
    → let image = before ++ (height_nodes b nodes ++ after) in
    plane image (record { geometry = g; first = length before; stride = 4 }) row column ≡ height_of b n
unfolding plane question17 height_fits height_nodes
nodes_read before b after nodes q g row column l =
    let n = row * columns g + column in
    let z = height_of b n in
    let fits = every_at nodes (height_fits b) q n l in
    let h : nat_abs z ≤ quasi_geoid_limit = leb-true _ _ (and_right (finite binary32 (height_bits b n)) (within quasi_geoid_limit z) fits)
    in
    let bytes : ℕ → List ℕ = λ n. bytes_of (height_of b n) in
    let r = part_among 4 bytes nodes n l in
    let front = before ++ height_nodes b n in
    let long : length front ≡ length before + 4 * n =
    omega (arith, length-append before (height_nodes b n), parts_long 4 bytes (λ n. refl) n) in
    let parts : front ++ (bytes_of z ++ (r.0 ++ after)) ≡ before ++ (height_nodes b nodes ++ after) = rw r.1 (simp append_assoc) in
    rw (parts, long) at (bytes_read front (r.0 ++ after) z (omega (arith, h)))

-- Where a file was converted into a buffer and the buffer burned into an image, anywhere, the image's plane of heights that begins there
-- has at each row and column the height of the file's node, rounded.
pub burned : (b buffer before end : List ℕ) (g : Geometry) → heights_from b (length buffer) ≡ values g → (row column : ℕ) →
    let image = before ++ (heights_after b buffer ++ end) in
    row < rows g → column < columns g
    → plane image (record { geometry = g; first = length before; stride = 4 }) row column ≡ height_of b (row * columns g + column)
unfolding heights_from
burned b buffer before end g e row column i j =
    let nodes = rows (header_of b) * columns (header_of b) in
    let room = asked (question16 b (length buffer)) 16 _ g e in
    let all = asked (question17 b nodes) 17 _ g room.1 in
    let same : header_of b ≡ g = cc in
    let q = subst (λ (g : Geometry). question17 b (rows g * columns g) ≡ true) same all.0 in
    let rows-below = mul-le-mul_right {m = row + 1} {n = rows g} (columns g) (omega (arith, i)) in
    let inside : row * columns g + column < rows g * columns g = omega (arith, rows-below, j) in
    rw e (nodes_read before b end (rows g * columns g) q g row column inside)
