-- Document 01, "Units and the image", and notes 1, 5, 6 and 8 of document 02: little-endian numbers, the trailers of both editions, the
-- geometry and its bounds, where the values lie, the grid.
use Rattle.std.specs.Prelude.{Bool, true, false, cond, List, ℕ, ◌+◌, ◌-◌, ◌*◌, ltb, eqb, ℤ, pos, ◌+ℤ◌, ◌-ℤ◌, length, get_or}
use Rattle.rules.specs.declared.Axis.{Axis}
use Rattle.rules.specs.declared.Geometry.{Geometry}
use Rattle.rules.specs.declared.Trailer.{Trailer}
use Rattle.rules.specs.declared.GridTrailer.{GridTrailer}
use Rattle.rules.specs.declared.TwoGridTrailer.{TwoGridTrailer}
use Rattle.rules.specs.declared.Plane.{Plane}
use Rattle.rules.specs.declared.Layout.{Layout}

-- The unsigned numbers of four and of eight bytes, the lowest byte first, that begin at byte `at`.
abbrev pub u32_at : List ℕ → ℕ → ℕ
u32_at b at = get_or b at 0 + 256 * get_or b (at + 1) 0 + 65536 * get_or b (at + 2) 0 + 16777216 * get_or b (at + 3) 0

unfoldable pub u64_at : List ℕ → ℕ → ℕ
u64_at b at = u32_at b at + 4294967296 * u32_at b (at + 4)

-- n in two's complement: below half the range as it is, else less the whole range.
abbrev pub twos_complement : ℕ → ℕ → ℤ
twos_complement half n = cond (ltb n half) (pos n) (pos n -ℤ pos (half + half))

-- The signed numbers.
unfoldable pub i32_at : List ℕ → ℕ → ℤ
i32_at b at = twos_complement 2147483648 (u32_at b at)

unfoldable pub i64_at : List ℕ → ℕ → ℤ
i64_at b at = twos_complement 9223372036854775808 (u64_at b at)

-- The 32 bytes of a geometry: southern latitude at 0, western longitude at 8, latitude spacing at 16, longitude spacing at 20, rows at 24,
-- columns at 28.
abbrev pub geometry_at : List ℕ → ℕ → Geometry
geometry_at b at =
    record {
      latitude = record { start = i64_at b at; spacing = u32_at b (at + 16); count = u32_at b (at + 24) };
      longitude = record { start = i64_at b (at + 8); spacing = u32_at b (at + 20); count = u32_at b (at + 28) };
    }

-- Edition 1's trailer, the last 40 bytes: the geometry, back at 32, edition at 36.
unfoldable pub trailer_of : List ℕ → Trailer
trailer_of b =
    let at = length b - 40 in
    record { geometry = geometry_at b at; back = u32_at b (at + 32); edition = u32_at b (at + 36) }

-- The edition is the last number in both editions.
unfoldable pub edition_of : List ℕ → ℕ
edition_of b = u32_at b (length b - 4)

-- Edition 2's trailer, the last 80 bytes: the geometry of the corrections at 0 and that of the heights at 32, back to the correction nodes
-- at 64 and to the height nodes at 68, kind at 72, edition at 76.
unfoldable pub two_grid_trailer_of : List ℕ → TwoGridTrailer
two_grid_trailer_of b =
    let at = length b - 80 in
    record {
      corrections = record { geometry = geometry_at b at; back = u32_at b (at + 64) };
      heights = record { geometry = geometry_at b (at + 32); back = u32_at b (at + 68) };
      kind = u32_at b (at + 72);
    }

-- Kind 1 has a dense grid inside that of the corrections.
abbrev pub is_nested : TwoGridTrailer → Bool
is_nested t = eqb t.kind 1

-- Kind 2 is laid out as kind 0, and answers points outside the bounds too.
abbrev pub is_unbounded : TwoGridTrailer → Bool
is_unbounded t = eqb t.kind 2

-- Kind 3 holds all latitude corrections, then all longitude corrections, and answers as kind 0 does.
abbrev pub is_in_planes : TwoGridTrailer → Bool
is_in_planes t = eqb t.kind 3

-- Kind 1's dense geometry and, at 32, back to its nodes stand in the 36 bytes directly before the correction nodes, by the trailer's back to
-- these.
unfoldable pub dense_trailer_of : List ℕ → GridTrailer
dense_trailer_of b =
    let at = length b - (36 + (two_grid_trailer_of b).corrections.back) in
    record { geometry = geometry_at b at; back = u32_at b (at + 32) }

-- The far bound of an axis, the northern or the eastern one: its start plus (count − 1) spacings.
abbrev pub far_bound : Axis → ℤ
far_bound a = a.start +ℤ pos ((a.count - 1) * a.spacing)

abbrev pub south : Geometry → ℤ
south g = g.latitude.start

abbrev pub north : Geometry → ℤ
north g = far_bound g.latitude

abbrev pub west : Geometry → ℤ
west g = g.longitude.start

abbrev pub east : Geometry → ℤ
east g = far_bound g.longitude

abbrev pub rows : Geometry → ℕ
rows g = g.latitude.count

abbrev pub columns : Geometry → ℕ
columns g = g.longitude.count

abbrev pub node_count : Geometry → ℕ
node_count g = rows g * columns g

-- Edition 1: the bytes from the image's end back to the first node: nodes of 12 bytes, then the trailer of 40.
abbrev pub back_of : Geometry → ℕ
back_of g = 12 * rows g * columns g + 40

-- Edition 2: correction nodes of 8 bytes, then height nodes of 4 bytes, then the trailer of 80.
abbrev pub height_back_of : (heights : Geometry) → ℕ
height_back_of h = 4 * rows h * columns h + 80

abbrev pub correction_back_of : (corrections heights : Geometry) → ℕ
correction_back_of c h = 8 * rows c * columns c + height_back_of h

-- Kind 1: dense nodes of 8 bytes, then the 36 bytes, before the correction nodes.
abbrev pub dense_back_of : (dense corrections heights : Geometry) → ℕ
dense_back_of d c h = 8 * rows d * columns d + 36 + correction_back_of c h

-- Edition 1's layout, of an image of `size` bytes: a node is latitude correction, longitude correction and quasi-geoid height, of four
-- bytes each, and the last node ends where the trailer begins.
abbrev pub layout_of : (size : ℕ) → Geometry → Layout
layout_of size g =
    let first = size - back_of g in
    record {
      separate = false;
      nested = false;
      unbounded = false;
      latitude = record { geometry = g; first = first; stride = 12 };
      longitude = record { geometry = g; first = first + 4; stride = 12 };
      height = record { geometry = g; first = first + 8; stride = 12 };
      dense = record { geometry = g; first = first; stride = 12 };
    }

-- Edition 2's: a correction node is latitude correction and longitude correction, a height node the height; correction nodes, height nodes
-- and trailer touch each other. So from one latitude correction to the next it is 8 bytes, and the first longitude correction begins 4
-- bytes after the first latitude correction. In kind 3 it is 4 bytes, and the first longitude correction begins after all latitude
-- corrections.
abbrev pub correction_stride : (in_planes : Bool) → ℕ
correction_stride in_planes = cond in_planes 4 8

abbrev pub to_longitudes : (in_planes : Bool) → Geometry → ℕ
to_longitudes in_planes c = cond in_planes (4 * rows c * columns c) 4

-- Kind 2's is that of kind 0, but unbounded.
abbrev pub two_grid_layout_of : (in_planes unbounded : Bool) → (size : ℕ) → (corrections heights : Geometry) → Layout
two_grid_layout_of in_planes unbounded size c h =
    let first = size - correction_back_of c h in
    let stride = correction_stride in_planes in
    record {
      separate = true;
      nested = false;
      unbounded = unbounded;
      latitude = record { geometry = c; first = first; stride = stride };
      longitude = record { geometry = c; first = first + to_longitudes in_planes c; stride = stride };
      height = record { geometry = h; first = size - height_back_of h; stride = 4 };
      dense = record { geometry = c; first = first; stride = stride };
    }

-- Kind 1's: as kind 0's, with a dense grid whose nodes are correction nodes.
abbrev pub nested_layout_of : (size : ℕ) → (dense corrections heights : Geometry) → Layout
nested_layout_of size d c h =
    let l = two_grid_layout_of false false size c h in
    record {
      separate = true;
      nested = true;
      unbounded = false;
      latitude = l.latitude;
      longitude = l.longitude;
      height = l.height;
      dense = record { geometry = d; first = size - dense_back_of d c h; stride = 8 };
    }

-- The layout that an opened image has by its trailer, where its heights stand on a separate grid and where they do not.
abbrev pub layout_for : List ℕ → (separate : Bool) → Layout
layout_for b true =
    let t = two_grid_trailer_of b in
    let c = t.corrections.geometry in
    let h = t.heights.geometry in
    cond (is_nested t)
    (nested_layout_of (length b) (dense_trailer_of b).geometry c h)
    (two_grid_layout_of (is_in_planes t) (is_unbounded t) (length b) c h)
layout_for b false = layout_of (length b) (trailer_of b).geometry

-- The plane of longitude corrections whose nodes begin with the latitude corrections of a plane.
abbrev pub beside_of : Plane → Plane
beside_of p = record { geometry = p.geometry; first = p.first + 4; stride = p.stride }

-- The values of a plane, by row and column.
unfoldable pub plane : List ℕ → Plane → ℕ → ℕ → ℤ
plane b p row column = i32_at b (p.first + p.stride * (row * columns p.geometry + column))

-- A grid, the content of an image: the geometry of the corrections and that of the quasi-geoid heights, and by row and column the latitude
-- correction, the longitude correction and the height. Row 0 is the southern one, column 0 the western. In edition 1 both geometries are
-- the trailer's one; in edition 2 the heights stand on a separate grid. Whether points outside the bounds are answered too. Where a dense
-- grid is nested in that of the corrections, its geometry and its corrections.
pub record Grid : Type 0 where
  pub separate : Bool
  pub nested : Bool
  pub unbounded : Bool
  pub corrections : Geometry
  pub heights : Geometry
  pub dense : Geometry
  pub latitude : ℕ → ℕ → ℤ
  pub longitude : ℕ → ℕ → ℤ
  pub height : ℕ → ℕ → ℤ
  pub dense_latitude : ℕ → ℕ → ℤ
  pub dense_longitude : ℕ → ℕ → ℤ

-- The grid that an image has in a layout.
abbrev pub grid_of : List ℕ → Layout → Grid
grid_of b l =
    record {
      separate = l.separate;
      nested = l.nested;
      unbounded = l.unbounded;
      corrections = l.latitude.geometry;
      heights = l.height.geometry;
      dense = l.dense.geometry;
      latitude = plane b l.latitude;
      longitude = plane b l.longitude;
      height = plane b l.height;
      dense_latitude = plane b l.dense;
      dense_longitude = plane b (beside_of l.dense);
    }
