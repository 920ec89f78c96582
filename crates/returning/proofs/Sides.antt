-- Question 21 along one axis, as the code of crate border puts it. The border of an aligned dense grid lies on coarse grid lines, where the
-- parent's exact value is that between two nodes: one axis is enough, and 64 bits.
use Rattle.std.specs.Prelude.{true, ◌&&◌, ◌≡◌, ℕ, ◌+◌, ◌-◌, ◌*◌, ◌≤◌, ◌<◌, leb, ℤ, pos, nat_abs, ◌-ℤ◌, ◌*ℤ◌}
use Rattle.std.proofs.Common.{sym, ◌∙◌, mul-le-mul_left, arith, leb-true, le-leb}
use Rattle.std.proofs.Math.Path.{ap}
use Rattle.std.proofs.Math.Decide.{dec_le}
use Rattle.std.proofs.Math.Nat.{mul-lt-mul_of_pos_left}
use Rattle.std.proofs.lemmas.Bool.{lt-leb}
use Rattle.integers.specs.Difference.{order, var, lit, ◌⊖◌, ◌⊗◌}
use Rattle.integers.specs.Distance.{Near, abs_near, abs_mul}
use Rattle.rules.specs.declared.Axis.{Axis}
use Rattle.rules.specs.declared.Geometry.{Geometry}
use Rattle.rules.specs.Image.{rows, columns, far_bound}
use Rattle.rules.specs.Limits.{Sized, GeometryPasses}
use Rattle.rules.specs.Bilinear.{offset}
use Rattle.rules.specs.Dense.{node_angle, node_point, on_line, axis_aligned, question20}
use Rattle.rules.specs.Check.{every, agrees, rows_agree, columns_agree}
use Rattle.rules.proofs.Cells.{offset_most}
use Rattle.rules.proofs.Largest.{every_at, every_both}
use Rattle.rules.proofs.Nesting.{AtNode, at_node, start_node, at_line, node_below, Aligned, aligned, latitude_aligned, longitude_aligned}
use Rattle.rules.proofs.Nesting.{in_coarse, node_from}
use Rattle.returning.specs.Line.{weighted_pair, line}
use Rattle.returning.specs.GridLines.{Along}
use Rattle.returning.proofs.GridLines.{along_row_lem, along_column}
use Rattle.returning.specs.Sides.{line_of, node_agrees, node_close, side_agrees, sides_agree}

-- ---- where the lines and the nodes lie
-- A grid line's number is below the count, and a dense node's offset on the coarse axis is at most (count − 1) spacings.
pub line_below : (a : Axis) (z : ℤ) → Sized a → on_line a z ≡ true → line_of a z < a.count
line_below a z o h = node_below o (at_line a z h)

pub node_most : (c d : Axis) → axis_aligned c d ≡ true → (i : ℕ) → i < d.count
    → offset c d.start + i * d.spacing ≤ (c.count - 1) * c.spacing
node_most c d h i l =
    let a = aligned c d h in
    rw (← node_from a i) (offset_most c (node_angle d i) (in_coarse a (node_angle d i) (at_node d i l).on))

-- Both bounds of the dense axis, as nodes of it, on their lines of the coarse one.
start_line : {c d : Axis} → Aligned c d → AtNode c (node_angle d 0) (line_of c d.start)
start_line {c} {d} a = rw (start_node d) (at_line c d.start a.start_on)

far_line : {c d : Axis} → Aligned c d → AtNode c (far_bound d) (line_of c (far_bound d))
far_line {c} {d} a = at_line c (far_bound d) a.far_on

-- ---- one axis
module _ {c d : Axis} (a : Aligned c d) where
  -- A node's test is that of the line at its angle.
  node_test : (h : ℕ → ℤ) (x : ℤ) (i : ℕ)
      → leb (nat_abs (x *ℤ pos c.spacing -ℤ line c h (node_angle d i))) c.spacing
      ≡ node_agrees c h (offset c d.start + i * d.spacing) x
  unfolding line weighted_pair node_agrees node_close
  node_test h x i = ap (λ (n : ℕ). node_agrees c h n x) (node_from a i)

  -- So the nodes of a side that agrees are at most 1 from the line.
  pub side_near : (h k : ℕ → ℤ) → side_agrees c d h k ≡ true
      → (i : ℕ) → i < d.count → Near c.spacing (k i *ℤ pos c.spacing) (line c h (node_angle d i))
  unfolding side_agrees
  side_near h k t i l =
      let s = every_at d.count (λ i. node_agrees c h (offset c d.start + i * d.spacing) (k i)) t i l in
      abs_near _ _ _ (leb-true _ _ (node_test h (k i) i ∙ s))

-- ---- rows and columns
-- A common factor in a test.
same_test : (S a b : ℕ) → 1 ≤ S → leb (S * a) (S * b) ≡ leb a b
same_test S a b l = by (dec_le a b)
  where
    by : Dec (a ≤ b) → leb (S * a) (S * b) ≡ leb a b
    by (yes h) = le-leb _ _ (mul-le-mul_left S h) ∙ sym (le-leb _ _ h)
    by (no h) = let k : b < a = omega arith in lt-leb _ _ (mul-lt-mul_of_pos_left k l) ∙ sym (lt-leb _ _ k)

reduced : (x y : ℤ) (S k : ℕ) → 1 ≤ S → leb (nat_abs (x *ℤ pos (S * k) -ℤ y *ℤ pos S)) (S * k) ≡ leb (nat_abs (x *ℤ pos k -ℤ y)) k
reduced x y S k l =
    let w = x *ℤ pos k -ℤ y in
    let e : x *ℤ pos (S * k) -ℤ y *ℤ pos S ≡ pos S *ℤ w =
    omega (arith, order, var x ⊗ lit (S * k) ⊖ var y ⊗ lit S, lit S ⊗ (var x ⊗ lit k ⊖ var y)) in
    rw (e, abs_mul (pos S) w) (same_test S (nat_abs w) k l)

-- Question 21 of a node on a coarse grid line: the spacing across is a common factor.
agrees_along : {C : Geometry} {e : ℕ → ℕ → ℤ} {c d : Axis} {h : ℕ → ℤ} (D : Geometry) (f : ℕ → ℕ → ℤ) (row column i : ℕ) → Aligned c d
    → Along C e (node_point D row column) c h (node_angle d i)
    → agrees C D e f row column ≡ node_agrees c h (offset c d.start + i * d.spacing) (f row column)
unfolding agrees
agrees_along {c} {d} {h} D f row column i a s =
    rw (s.sum, s.area_is) (reduced (f row column) (line c h (node_angle d i)) s.across c.spacing s.across_least)
    ∙ node_test a h (f row column) i

module _ {C : Geometry} (o : GeometryPasses C) (D : Geometry) (q : question20 C D ≡ true) (e f : ℕ → ℕ → ℤ) where
  pub rows_agree_lem : rows_agree C D e f ≡ sides_agree C.latitude D.latitude C.longitude D.longitude e f
  unfolding rows_agree side_agrees
  rows_agree_lem =
      let a = latitude_aligned C D q in
      let b = longitude_aligned C D q in
      (λ t. every (columns D) (λ column.
      agrees_along D f 0 column column b (along_row_lem o e (node_point D 0 column) _ (start_line a)) t
      && agrees_along D f (rows D - 1) column column b (along_row_lem o e (node_point D (rows D - 1) column) _ (far_line a)) t))
      ∙ every_both (columns D) _ _

  pub columns_agree_lem : columns_agree C D e f
      ≡ sides_agree C.longitude D.longitude C.latitude D.latitude (λ column row. e row column) (λ column row. f row column)
  unfolding columns_agree side_agrees
  columns_agree_lem =
      let a = longitude_aligned C D q in
      let b = latitude_aligned C D q in
      (λ t. every (rows D) (λ row.
      agrees_along D f row 0 row b (along_column o e (node_point D row 0) _ (start_line a)) t
      && agrees_along D f row (columns D - 1) row b (along_column o e (node_point D row (columns D - 1)) _ (far_line a)) t))
      ∙ every_both (rows D) _ _
