-- `border::plane_is_zero` meets its contract: the sides by line are those by row and column.
use mathlib.Core.List.{List}
use mathlib.Core.Path.{◌≡◌, ◌∙◌}
use Prim.Native.Nat.{ℕ, ◌-◌}
use Rattle.integers.specs.Booleans.{and_next, and_stop}
use Rattle.rules.specs.declared.Plane.{Plane}
use Rattle.rules.specs.Image.{rows, columns, plane}
use Rattle.rules.specs.Check.{both_zero, border_zero}
use Rattle.border.specs.Lines.{rows_of, columns_of, sides_zero}
use Rattle.border.proofs.PlaneLines.{row_value, column_value, rows_inside, columns_inside}
use Rattle.border.proofs.plane_is_zero.Goals as goal
use Rattle.border.proofs.plane_is_zero.Goals.{After-sides_are_zero}

pub sides_are_zero-requires : goal.sides_are_zero-requires
sides_are_zero-requires c = rw c.rows_of.ensures (rows_inside c.requires)

pub sides_are_zero-requires-then-sides_are_zero : goal.sides_are_zero-requires-then-sides_are_zero
sides_are_zero-requires-then-sides_are_zero c = rw c.columns_of.ensures (columns_inside c.requires)

-- the sides by line are those by row and column
module _ (b : List ℕ) (p : Plane) where
  by_rows : sides_zero b (rows_of p)
      ≡ both_zero (columns p.geometry) (λ column. plane b p 0 column) (λ column. plane b p (rows p.geometry - 1) column)
  by_rows =
      λ i. both_zero (columns p.geometry)
      (λ column. row_value b p 0 column i) (λ column. row_value b p (rows p.geometry - 1) column i)

  by_columns : sides_zero b (columns_of p)
      ≡ both_zero (rows p.geometry) (λ row. plane b p row 0) (λ row. plane b p row (columns p.geometry - 1))
  by_columns =
      λ i. both_zero (rows p.geometry)
      (λ row. column_value b p 0 row i) (λ row. column_value b p (columns p.geometry - 1) row i)

-- the rows' answer
by_first : (c : After-sides_are_zero) → let s = c.args in
    c.sides_are_zero.result ≡ sides_zero s.image.now (rows_of s.p)
by_first c = rw c.rows_of.ensures at c.sides_are_zero.ensures

pub returns-then-sides_are_zero : goal.returns-then-sides_are_zero
unfolding border_zero
returns-then-sides_are_zero c =
    let s = c.args in
    let b = s.image.now in
    and_next (by_first (goal.at.returns-then-sides_are_zero c).After-sides_are_zero ∙ by_rows b s.p) c.if-sides_are_zero.true
    (rw c.columns_of.ensures at c.sides_are_zero-then-sides_are_zero.ensures ∙ by_columns b s.p)

pub returns-else-sides_are_zero : goal.returns-else-sides_are_zero
unfolding border_zero
returns-else-sides_are_zero c =
    let s = c.args in
    c.if-sides_are_zero.false
    ∙ and_stop _ (by_first (goal.at.returns-else-sides_are_zero c).After-sides_are_zero ∙ by_rows s.image.now s.p) c.if-sides_are_zero.false
