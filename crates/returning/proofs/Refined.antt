-- A dense axis in a coarse one: the line through the coarse nodes, taken at the dense nodes, is the same line. So where the dense nodes of
-- a side agree with the parent, the two values differ by at most 1 all along it.
use Rattle.std.specs.Prelude.{true, ◌≡◌, ℕ, ◌+◌, ◌*◌, ◌-◌, ◌/◌, ◌%◌, ◌<◌, ℤ, pos, ◌+ℤ◌, ◌*ℤ◌}
use Rattle.std.proofs.Common.{sym, ap, mul_comm, mul-pos, div-add-mod', mod-lt, lt_of_mul-lt-mul_right, arith}
use Rattle.integers.specs.Difference.{order, Difference, var, lit, ◌⊕◌, ◌⊗◌}
use Rattle.integers.specs.Distance.{Near, near_mono}
use Rattle.integers.specs.Rounding.{round_half_up}
use Rattle.integers.proofs.Rounding.{round_close, round_times}
use Rattle.rules.specs.declared.Axis.{Axis}
use Rattle.rules.specs.Limits.{Sized}
use Rattle.rules.specs.Bilinear.{offset, cell_for, part_for}
use Rattle.rules.specs.Lookup.{on_axis}
use Rattle.rules.specs.Dense.{node_angle}
use Rattle.rules.proofs.Cells.{from_start}
use Rattle.rules.proofs.Nesting.{at_node, node_offset, at_line, Aligned, in_coarse, coarse_offset}
use Rattle.returning.specs.Line.{weighted_pair, line}
use Rattle.returning.proofs.Line.{line_near, cell_and_part}
use Rattle.returning.proofs.GridLines.{line_at, line_times}
use Rattle.returning.specs.Sides.{line_of, side_agrees}
use Rattle.returning.proofs.Sides.{side_near}

-- A weighted pair as a difference form.
abbrev pair : (a b : ℤ) (s u : ℕ) → Difference (a *ℤ pos s +ℤ b *ℤ pos u)
pair a b s u = var a ⊗ lit s ⊕ var b ⊗ lit u

-- Between two places of a cell that are t + v apart, the line at t and v from them is the weighted pair of its values there.
pair_between : (a b : ℤ) (x y t v : ℕ)
    → weighted_pair (weighted_pair a b (y + (t + v)) (x + 0)) (weighted_pair a b (y + 0) (x + (t + v))) t v
    ≡ weighted_pair a b (y + t) (x + v) *ℤ pos (t + v)
unfolding weighted_pair
pair_between a b x y t v =
    omega (
      arith,
      order,
      pair a b (y + (t + v)) (x + 0) ⊗ lit t ⊕ pair a b (y + 0) (x + (t + v)) ⊗ lit v,
      pair a b (y + t) (x + v) ⊗ lit (t + v),
    )

module _ {c d : Axis} (C : Sized c) (D : Sized d) (a : Aligned c d) where
  -- Where dense cell j lies: x past coarse node i, and y before the next one.
  record Place (j : ℕ) : Type 0 where
    i : ℕ
    x : ℕ
    y : ℕ
    starts : offset c d.start + j * d.spacing ≡ i * c.spacing + x
    ends : y + (d.spacing + x) ≡ c.spacing

  place : (j : ℕ) → Place j
  place j =
      let n = c.spacing / d.spacing in
      let e = j / n in
      let k = j % n in
      let first = line_of c d.start in
      let start : offset c d.start ≡ first * c.spacing =
      omega (arith, ap (offset c) (at_line c d.start a.start_on).angle, node_offset c first) in
      let some : 0 < n = lt_of_mul-lt-mul_right d.spacing (omega (arith, a.spacing_is, C.spacing_least)) in
      let whole : e * n + k ≡ j = div-add-mod' j n in
      let left : n - k - 1 + (1 + k) ≡ n = omega (arith, mod-lt j some) in
      record {
        i = first + e;
        x = k * d.spacing;
        y = (n - k - 1) * d.spacing;
        starts = omega (arith, ap (λ (m : ℕ). m * d.spacing) whole, ap (λ (m : ℕ). e * m) a.spacing_is);
        ends = omega (arith, ap (λ (m : ℕ). m * d.spacing) left, a.spacing_is);
      }

  -- The coarse line at an angle of dense cell j: u past its near side, with t left.
  line_in : (h : ℕ → ℤ) (j t u : ℕ) (z : ℤ) → on_axis d z ≡ true → t + u ≡ d.spacing → offset d z ≡ j * d.spacing + u
      → line c h z ≡ weighted_pair (h (place j).i) (h ((place j).i + 1)) ((place j).y + t) ((place j).x + u)
  line_in h j t u z o e f =
      line_at C h _ _ _ z (in_coarse a z o)
      (omega (arith, (place j).ends)) (omega (arith, coarse_offset a z (from_start d z o), (place j).starts))

  -- The coarse line, taken at the dense nodes, is itself, times the dense spacing.
  refined : (h : ℕ → ℤ) (z : ℤ) → on_axis d z ≡ true → line d (λ j. line c h (node_angle d j)) z ≡ line c h z *ℤ pos d.spacing
  unfolding line
  refined h z o =
      let q = cell_and_part D z o in
      let j = cell_for d z in
      let v = part_for d z in
      let t = d.spacing - v in
      cc (
        line_in h j (t + v) 0 (node_angle d j) (at_node d j (omega arith)).on (omega arith) (omega (arith, node_offset d j)),
        line_in h j 0 (t + v) (node_angle d (j + 1)) (at_node d (j + 1) q.cell_in).on (omega arith)
            (omega (arith, node_offset d (j + 1))),
        line_in h j t v z o q.whole (sym q.offset_is),
        pair_between (h (place j).i) (h ((place j).i + 1)) (place j).x (place j).y t v,
        q.whole,
      )

  -- The values along a side that agrees.
  pub side_values : (h k : ℕ → ℤ) → side_agrees c d h k ≡ true → (z : ℤ) → on_axis d z ≡ true
      → Near 1 (round_half_up (line d k z) d.spacing) (round_half_up (line c h z) c.spacing)
  side_values h k t z o =
      let P = c.spacing in
      let p = d.spacing in
      let n = line_near D (λ j. k j *ℤ pos P) (λ j. line c h (node_angle d j)) P (side_near a h k t) z o in
      let m : Near (p * P * 1) (line d k z *ℤ pos P) (line c h z *ℤ pos p) =
      near_mono (omega arith) (rw (line_times d k P z, refined h z o) at n) in
      let dense = rw (mul_comm P p) at (round_times (line d k z) p P D.spacing_least C.spacing_least) in
      let coarse = round_times (line c h z) P p C.spacing_least D.spacing_least in
      rw (← dense, ← coarse) (round_close _ _ (p * P) 1 (mul-pos D.spacing_least C.spacing_least) m)
