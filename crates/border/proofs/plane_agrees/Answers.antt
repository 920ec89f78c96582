-- `border::plane_agrees` meets its contract: the sides by line are those by row and column.
use mathlib.Core.Bool.{true}
use mathlib.Core.List.{List}
use mathlib.Core.Path.{◌≡◌, sym, ◌∙◌}
use Prim.Native.Nat.{ℕ}
use Rattle.integers.specs.Booleans.{and_left, and_right, and_next, and_stop}
use Rattle.rules.specs.declared.Geometry.{Geometry}
use Rattle.rules.specs.declared.Plane.{Plane}
use Rattle.rules.specs.Image.{plane}
use Rattle.rules.specs.Limits.{GeometryPasses}
use Rattle.rules.specs.Dense.{axis_aligned, question20}
use Rattle.rules.specs.Check.{rows_agree, columns_agree, border_agrees}
use Rattle.returning.specs.Sides.{sides_agree}
use Rattle.returning.proofs.Sides.{rows_agree_lem, columns_agree_lem}
use Rattle.border.specs.Lines.{rows_of, columns_of, lines_agree}
use Rattle.border.proofs.PlaneLines.{row_value, column_value, rows_inside, columns_inside}
use Rattle.border.proofs.plane_agrees.Goals as goal
use Rattle.border.proofs.plane_agrees.Goals.{After-sides_agree, After-sides_agree-then-sides_agree}

-- question 20 of each axis
axes : (c d : Geometry) → question20 c d ≡ true
    → (axis_aligned c.latitude d.latitude ≡ true) × (axis_aligned c.longitude d.longitude ≡ true)
unfolding question20
axes c d h = let latitude = axis_aligned c.latitude d.latitude in (and_left latitude _ h, and_right latitude _ h)

pub sides_agree-requires : goal.sides_agree-requires
sides_agree-requires c =
    let p = c.requires in
    let q = axes _ _ p.2 in
    rw (c.rows_of.ensures, c.rows_of-2.ensures) (rows_inside p.0, rows_inside p.1, q.0, q.1)

pub sides_agree-requires-then-sides_agree : goal.sides_agree-requires-then-sides_agree
sides_agree-requires-then-sides_agree c =
    let p = c.requires in
    let q = axes _ _ p.2 in
    rw (c.columns_of.ensures, c.columns_of-then-sides_agree.ensures) (columns_inside p.0, columns_inside p.1, q.1, q.0)

-- the sides by line are those by row and column
module _ (b : List ℕ) (c d : Plane) (o : GeometryPasses c.geometry) (q : question20 c.geometry d.geometry ≡ true) where
  by_rows : lines_agree b (rows_of c) (rows_of d) ≡ rows_agree c.geometry d.geometry (plane b c) (plane b d)
  by_rows =
      let g = c.geometry in
      let h = d.geometry in
      (λ i. sides_agree g.latitude h.latitude g.longitude h.longitude
      (λ row column. row_value b c row column i) (λ row column. row_value b d row column i))
      ∙ sym (rows_agree_lem o h q (plane b c) (plane b d))

  by_columns : lines_agree b (columns_of c) (columns_of d) ≡ columns_agree c.geometry d.geometry (plane b c) (plane b d)
  by_columns =
      let g = c.geometry in
      let h = d.geometry in
      (λ i. sides_agree g.longitude h.longitude g.latitude h.latitude
      (λ column row. column_value b c column row i) (λ column row. column_value b d column row i))
      ∙ sym (columns_agree_lem o h q (plane b c) (plane b d))

-- the rows' answer, and the columns'
rows : (c : After-sides_agree) → let s = c.args in
    let b = s.image.now in
    c.sides_agree.result ≡ rows_agree s.coarse.geometry s.dense.geometry (plane b s.coarse) (plane b s.dense)
rows c =
    rw (c.rows_of.ensures, c.rows_of-2.ensures) at c.sides_agree.ensures
    ∙ by_rows _ c.args.coarse c.args.dense c.requires.0.geometry c.requires.2

columns : (c : After-sides_agree-then-sides_agree) → let s = c.args in
    let b = s.image.now in
    c.sides_agree-then-sides_agree.result ≡ columns_agree s.coarse.geometry s.dense.geometry (plane b s.coarse) (plane b s.dense)
columns c =
    rw (c.columns_of.ensures, c.columns_of-then-sides_agree.ensures) at c.sides_agree-then-sides_agree.ensures
    ∙ by_columns _ c.args.coarse c.args.dense c.requires.0.geometry c.requires.2

pub returns-then-sides_agree : goal.returns-then-sides_agree
unfolding border_agrees
returns-then-sides_agree c = and_next (rows (goal.at.returns-then-sides_agree c).After-sides_agree) c.if-sides_agree.true (columns c)

pub returns-else-sides_agree : goal.returns-else-sides_agree
unfolding border_agrees
returns-else-sides_agree c =
    c.if-sides_agree.false ∙ and_stop _ (rows (goal.at.returns-else-sides_agree c).After-sides_agree) c.if-sides_agree.false
