-- Where an aligned dense grid agrees with its parent on its border (questions 20 and 21), the two values differ by at most 1 there: each
-- side of the border is a grid line of both.
use Rattle.std.specs.Prelude.{true, ◌≡◌, ℕ, ℤ}
use Rattle.std.proofs.Common.{inl, inr}
use Rattle.integers.specs.Distance.{Near}
use Rattle.integers.specs.Booleans.{and_left, and_right}
use Rattle.rules.specs.declared.Axis.{Axis}
use Rattle.rules.specs.declared.Geometry.{Geometry}
use Rattle.rules.specs.declared.Point.{Point}
use Rattle.rules.specs.Image.{far_bound}
use Rattle.rules.specs.Limits.{Sized, GeometryPasses}
use Rattle.rules.specs.Bilinear.{value_at}
use Rattle.rules.specs.Lookup.{on_axis, inside}
use Rattle.rules.specs.Dense.{question20}
use Rattle.rules.specs.Check.{rows_agree, border_agrees}
use Rattle.rules.proofs.Cells.{on_latitude, on_longitude}
use Rattle.rules.proofs.Nesting.{AtNode, at_line, Aligned, latitude_aligned, longitude_aligned}
use Rattle.returning.specs.GridLines.{Along}
use Rattle.returning.proofs.GridLines.{along_row_lem, along_column, value_along}
use Rattle.returning.specs.Sides.{line_of, side_agrees, sides_agree}
use Rattle.returning.proofs.Sides.{rows_agree_lem, columns_agree_lem}
use Rattle.returning.proofs.Refined.{side_values}
use Rattle.returning.specs.Nearest.{Bound, OnBorder}
use Rattle.returning.proofs.Nearest.{bound_node}

-- A side of the border, at the angle z of the axes across it, a and b: a grid line of both, along which the nodes agree.
record Side (a c d : Axis) (h k : ℕ → ℕ → ℤ) (z : ℤ) (node : ℕ) : Type 0 where
  coarse : AtNode a z (line_of a z)
  agrees : side_agrees c d (h (line_of a z)) (k node) ≡ true

side : {a b : Axis} (c d : Axis) (h k : ℕ → ℕ → ℤ) → Sized b → Aligned a b → sides_agree a b c d h k ≡ true
    → (z : ℤ) → Bound b z → (node : ℕ) × AtNode b z node × Side a c d h k z node
side {a} {b} c d h k o l t =
    bound_node o (Side a c d h k)
    record { coarse = at_line a b.start l.start_on; agrees = and_left _ _ t }
    record {
      coarse = at_line a (far_bound b) l.far_on;
      agrees = and_right (side_agrees c d (h (line_of a b.start)) (k 0)) _ t;
    }

-- A point on a line of both.
on_side : {C D : Geometry} {e f : ℕ → ℕ → ℤ} {p : Point} {c d : Axis} {h k : ℕ → ℤ} {z : ℤ} → Sized c → Sized d → Aligned c d
    → side_agrees c d h k ≡ true → on_axis d z ≡ true → Along C e p c h z → Along D f p d k z → Near 1 (value_at D f p) (value_at C e p)
on_side {h} {k} {z} o q a t i x y =
    rw (value_along q.spacing_least y, value_along o.spacing_least x) (side_values o q a h k t z i)

module _ {C D : Geometry} (o : GeometryPasses C) (q : GeometryPasses D) (a : question20 C D ≡ true) where
  -- A point on the first or the last row, and one on the first or the last column.
  pub border_near : (e f : ℕ → ℕ → ℤ) → border_agrees C D e f ≡ true
      → (p : Point) → inside D p ≡ true → OnBorder D p → Near 1 (value_at D f p) (value_at C e p)
  unfolding border_agrees
  border_near e f t p i (inl b) =
      let l = latitude_aligned C D a in
      let rows = rw (rows_agree_lem o D a e f) at (and_left (rows_agree C D e f) _ t) in
      let s = side C.longitude D.longitude e f q.latitude.sized l rows p.latitude b in
      on_side o.longitude.sized q.longitude.sized (longitude_aligned C D a) s.2.agrees (on_longitude D p i)
      (along_row_lem o e p _ s.2.coarse) (along_row_lem q f p _ s.1)
  border_near e f t p i (inr b) =
      let l = longitude_aligned C D a in
      let columns = rw (columns_agree_lem o D a e f) at (and_right (rows_agree C D e f) _ t) in
      let s = side C.latitude D.latitude (λ column row. e row column) (λ column row. f row column)
      q.longitude.sized l columns p.longitude b in
      on_side o.latitude.sized q.latitude.sized (latitude_aligned C D a) s.2.agrees (on_latitude D p i)
      (along_column o e p _ s.2.coarse) (along_column q f p _ s.1)
