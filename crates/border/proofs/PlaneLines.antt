-- The lines of a plane: the values by line and node are those of the plane by row and column, or by column and row; and they lie in the
-- image.
use mathlib.Core.List.{List}
use mathlib.Core.Path.{◌≡◌, ap}
use Prim.Native.Nat.{ℕ}
use native.Mathlib.Omega.{arith}
use Rattle.rules.specs.declared.Plane.{Plane}
use Rattle.rules.specs.Units.{longitude_limit}
use Rattle.rules.specs.Image.{i32_at, plane}
use Rattle.rules.specs.Limits.{AxisPasses, InImage}
use Rattle.steps.specs.Walk.{run_value}
use Rattle.border.specs.Lines.{rows_of, columns_of, line_value, LinesInside}

module _ (b : List ℕ) (p : Plane) where
  pub row_value : (row column : ℕ) → line_value b (rows_of p) row column ≡ plane b p row column
  unfolding run_value plane
  row_value row column = ap (i32_at b) (omega arith)

  pub column_value : (column row : ℕ) → line_value b (columns_of p) column row ≡ plane b p row column
  unfolding run_value plane
  column_value column row = ap (i32_at b) (omega arith)

module _ {size : ℕ} {p : Plane} (o : InImage size p) where
  latitude_passes : AxisPasses longitude_limit p.geometry.latitude
  latitude_passes =
      let a = o.geometry.latitude in
      record { sized = a.sized; start_within = omega (arith, a.start_within); far_within = omega (arith, a.far_within) }

  pub rows_inside : LinesInside size (rows_of p)
  rows_inside =
      record {
        across = latitude_passes;
        along = o.geometry.longitude;
        bytes = λ row column h k. omega (arith, o.bytes row column h k);
      }

  pub columns_inside : LinesInside size (columns_of p)
  columns_inside =
      record {
        across = o.geometry.longitude;
        along = latitude_passes;
        bytes = λ column row h k. omega (arith, o.bytes row column k h);
      }
