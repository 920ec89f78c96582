-- The values of nodes whose bytes are lent from their first value on, where the bytes are those of the dense nodes or of the coarse ones.
use Rattle.std.specs.Prelude.{Bool, cond, List, ℕ, ◌+◌, ◌*◌, ◌≤◌, ◌<◌, ℤ}
use Rattle.rules.specs.Units.{count_most}
use Rattle.rules.specs.Image.{i32_at}

-- One of two: the dense one where it is said so, else the coarse one.
abbrev pub either : {A : Type 0} (inDense : Bool) → (dense coarse : A) → A
either t dense coarse = cond t dense coarse

-- The values by row and column.
unfoldable pub node_values : (nodes : List ℕ) (stride columns : ℕ) → ℕ → ℕ → ℤ
node_values nodes stride columns row column = i32_at nodes (stride * (row * columns + column))

-- The corners of the cell of a row and a column lie in so many bytes.
pub record CellInside (size stride columns row column : ℕ) : Type 0 where
  pub row_most : row < count_most
  pub columns_most : columns ≤ count_most
  pub column_most : column < count_most
  pub bytes : stride * ((row + 1) * columns + (column + 1)) + 4 ≤ size
