-- A row's values lie in the image, and a reading in the part that begins at a row is one in the image.
use mathlib.Core.Bool.{Bool, true, false}
use mathlib.Core.List.{List}
use mathlib.Core.Path.{◌≡◌, ap, ◌∙◌}
use Prim.Native.Nat.{ℕ, ◌+◌, ◌*◌, ◌≤◌, ◌<◌}
use native.Mathlib.Nat.{add_assoc}
use native.Mathlib.Omega.{arith}
use lib.ListN.{length, drop}
use lib.Seq.{get_or-drop}
use Rattle.rules.specs.declared.Plane.{Plane}
use Rattle.rules.specs.Image.{u32_at, twos_complement, i32_at, plane, rows, columns}
use Rattle.rules.specs.Limits.{InImage}
use Rattle.rules.proofs.Lent.{part_from, part_from_lem}
use Rattle.nodes.specs.Row.{row_start, value_in}
use Rattle.nodes.specs.Either.{either, node_values}

-- A row's values end in the image.
pub row_inside : {size : ℕ} {p : Plane} → InImage size p → (row column : ℕ) → row < rows p.geometry → column < columns p.geometry
    → row_start p row + p.stride * column + 4 ≤ size
row_inside o row column i j = omega (arith, o.bytes row column i j)

-- So does its first one.
pub first_inside : {size : ℕ} {p : Plane} → InImage size p → p.first + 4 ≤ size
first_inside o =
    let sized = o.geometry in
    omega (arith, o.bytes 0 0 (omega (arith, sized.latitude.sized.count_least)) (omega (arith, sized.longitude.sized.count_least)))

-- The part of an image that begins at a row's first value.
abbrev pub row_part : List ℕ → Plane → ℕ → List ℕ
row_part b p row = part_from b (row_start p row)

u32_drop : (n : ℕ) (b : List ℕ) (at : ℕ) → u32_at (drop n b) at ≡ u32_at b (n + at)
u32_drop n b at = simp (get_or-drop, add_assoc)

i32_drop : (n : ℕ) (b : List ℕ) (at : ℕ) → i32_at (drop n b) at ≡ i32_at b (n + at)
unfolding i32_at
i32_drop n b at = ap (twos_complement 2147483648) (u32_drop n b at)

-- The value of a column in a row's part is the plane's value of that row and column.
pub value_in_row : (b : List ℕ) (p : Plane) (row column : ℕ) → value_in (row_part b p row) p.stride column ≡ plane b p row column
unfolding value_in plane
value_in_row b p row column = rw part_from_lem (i32_drop (row_start p row) b (p.stride * column) ∙ ap (i32_at b) (omega arith))

-- The same in the part of lent nodes that begins at a row's first value.
pub value_in_nodes : (nodes : List ℕ) (stride columns row column : ℕ)
    → value_in (drop (stride * (row * columns)) nodes) stride column ≡ node_values nodes stride columns row column
unfolding value_in node_values
value_in_nodes nodes stride columns row column =
    i32_drop (stride * (row * columns)) nodes (stride * column) ∙ ap (i32_at nodes) (omega arith)

-- The nodes that begin at a plane's first value have the plane's values.
pub plane_nodes : (b : List ℕ) (p : Plane) (row column : ℕ)
    → node_values (part_from b p.first) p.stride (columns p.geometry) row column ≡ plane b p row column
unfolding node_values plane
plane_nodes b p row column = rw part_from_lem (i32_drop p.first b _)

-- One of two lists is as short as both.
pub either_most : (t : Bool) (dense coarse : List ℕ) (n : ℕ) → length dense ≤ n → length coarse ≤ n → length (either t dense coarse) ≤ n
either_most true dense coarse n h k = h
either_most false dense coarse n h k = k
