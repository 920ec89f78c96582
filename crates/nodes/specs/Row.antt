-- A cell of a grid; a row of a plane: where it begins in an image, and its values in the part of the image that begins there.
use Rattle.std.specs.Prelude.{List, ℕ, ◌+◌, ◌*◌, ◌<◌, ℤ}
use Rattle.rules.specs.declared.Geometry.{Geometry}
use Rattle.rules.specs.declared.Plane.{Plane}
use Rattle.rules.specs.declared.Square.{Square}
use Rattle.rules.specs.Image.{i32_at, rows, columns}
use Rattle.nodes.specs.declared.Pair.{Pair}

-- The cell of a row and a column is one of the grid's.
abbrev pub CellIn : Geometry → (row column : ℕ) → Type 0
CellIn g row column = (row + 1 < rows g) × (column + 1 < columns g)

-- Where a row's first value begins.
abbrev pub row_start : Plane → ℕ → ℕ
row_start p row = p.first + p.stride * (row * columns p.geometry)

-- The value of a column, in a row's part.
unfoldable pub value_in : (row : List ℕ) (stride column : ℕ) → ℤ
value_in row stride column = i32_at row (stride * column)

-- The values of a column and of the next, of values by column.
abbrev pub pair_of : (ℕ → ℤ) → ℕ → Pair
pair_of f column = record { west = f column; east = f (column + 1) }

-- The corners of a cell from those of its south row and of its north row.
abbrev pub square_of : (south north : Pair) → Square
square_of south north =
    record {
      southwest = south.west;
      southeast = south.east;
      northwest = north.west;
      northeast = north.east;
    }
