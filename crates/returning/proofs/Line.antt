-- Interpolation along one axis: the spacing times the value at an angle is the weighted sum of the values of its cell's two nodes. From
-- cell to cell, through the nodes that they share, the largest step between neighbours bounds the change along the whole axis.
use Rattle.std.specs.Prelude.{true, ◌≡◌, ℕ, zero, suc, ◌+◌, ◌*◌, ◌-◌, ◌≤◌, ◌<◌, ℤ}
use Rattle.std.proofs.Math.Path.{ap}
use Rattle.std.proofs.Math.Decide.{dec_le}
use Rattle.std.proofs.Common.{mul-le-mul_right, arith}
use Rattle.std.proofs.Math.Nat.{sub-add_cancel, add-sub_of_le}
use Rattle.integers.specs.Difference.{up, down, var, lit, ◌⊕◌, ◌⊖◌, ◌⊗◌}
use Rattle.integers.specs.Distance.{Near, near_sym, near_mono, abs_is}
use Rattle.rules.specs.declared.Axis.{Axis}
use Rattle.rules.specs.Limits.{Sized}
use Rattle.rules.specs.Bilinear.{offset, part_of, cell_for, part_for}
use Rattle.rules.specs.Lookup.{on_axis}
use Rattle.rules.proofs.Cells.{offset_most, cell_nodes, cell_start, cell_order, part_most}
use Rattle.returning.specs.Line.{line, weighted_pair}

-- Its parts, as `omega` reads them.
pub pair_parts : (a b : ℤ) (s u : ℕ)
    → up (weighted_pair a b s u) + down a * s + down b * u ≡ down (weighted_pair a b s u) + up a * s + up b * u
unfolding weighted_pair
pair_parts a b s u = omega (arith, var a ⊗ lit s ⊕ var b ⊗ lit u)

-- A distance, times a factor.
record Scaled (k s : ℕ) (x y : ℤ) : Type 0 where
  above : up x * s + down y * s ≤ up y * s + down x * s + k * s
  below : up y * s + down x * s ≤ up x * s + down y * s + k * s

scaled : {k : ℕ} {x y : ℤ} (s : ℕ) → Near k x y → Scaled k s x y
scaled s h = omega (arith, mul-le-mul_right s h.above, mul-le-mul_right s h.below)

-- Values at most E apart, under weights of P together.
pair_near : {E : ℕ} {a b a' b' : ℤ} (s u P : ℕ) → s + u ≡ P → Near E a a' → Near E b b'
    → Near (P * E) (weighted_pair a b s u) (weighted_pair a' b' s u)
pair_near {a} {b} {a'} {b'} s u P e h k = rw (← e) (omega (arith, pair_parts a b s u, pair_parts a' b' s u, scaled s h, scaled u k))

-- Weight w moved from one value to the other.
pair_moved : {A : ℕ} (a b : ℤ) (s u w : ℕ) → Near A a b → Near (w * A) (weighted_pair a b (s + w) u) (weighted_pair a b s (u + w))
pair_moved a b s u w h = omega (arith, pair_parts a b (s + w) u, pair_parts a b s (u + w), scaled w h)

-- All the weight moved to the second value, which is the first one of the next cell.
pair_passed : {A : ℕ} (a b c : ℤ) (s u P : ℕ) → s + u ≡ P → Near A a b → Near (s * A) (weighted_pair a b s u) (weighted_pair b c P 0)
pair_passed a b c s u P e h = rw (← e) (omega (arith, pair_parts a b s u, pair_parts b c (s + u) 0, scaled s h))

module _ (h : ℕ → ℤ) (count P A : ℕ) (step : (i : ℕ) → i + 1 < count → Near A (h i) (h (i + 1))) where
  -- From cell c, with weights s and u, on to cell d, which lies k cells further, with weights t and v.
  further : (k c d s u t v D : ℕ) → c + k ≡ d → d + 1 < count → s + u ≡ P → t + v ≡ P → u ≤ k * P + v → k * P + v ≤ u + D
      → Near (D * A) (weighted_pair (h c) (h (c + 1)) s u) (weighted_pair (h d) (h (d + 1)) t v)
  further zero c d s u t v D e l f g m n =
      let e' : d ≡ c = omega arith in
      let s' : s ≡ t + (v - u) = omega arith in
      let v' : u + (v - u) ≡ v = omega arith in
      let moved = rw v' at (pair_moved (h c) (h (c + 1)) t u (v - u) (step c (omega arith))) in
      rw (e', s') (near_mono (mul-le-mul_right A (omega arith)) moved)
  further (suc k) c d s u t v D e l f g m n =
      let far : s + (k * P + v) ≤ D = omega arith in
      omega (
        arith,
        pair_passed (h c) (h (c + 1)) (h (c + 1 + 1)) s u P f (step c (omega arith)),
        further k (c + 1) d P 0 t v (k * P + v) (omega arith) l (omega arith) g (omega arith) (omega arith),
        mul-le-mul_right A far,
      )

offset_near : {D : ℕ} (a : Axis) (z w : ℤ) → Near D z w → offset a w ≤ offset a z + D
offset_near a z w n = omega (arith, abs_is (var z ⊖ var a.start), abs_is (var w ⊖ var a.start))

module _ {a : Axis} (o : Sized a) where
  -- Where an angle on the axis lies: its cell and its part of it.
  pub record CellAndPart (z : ℤ) : Type 0 where
    pub cell_in : cell_for a z + 1 < a.count
    pub whole : a.spacing - part_for a z + part_for a z ≡ a.spacing
    pub offset_is : cell_for a z * a.spacing + part_for a z ≡ offset a z

  pub cell_and_part : (z : ℤ) → on_axis a z ≡ true → CellAndPart z
  unfolding part_of
  cell_and_part z i =
      let x = offset a z in
      record {
        cell_in = cell_nodes a x o;
        whole = sub-add_cancel (part_most a x o (offset_most a z i));
        offset_is = omega (arith, cell_start a x);
      }

  -- Two lines whose nodes are at most E apart.
  pub line_near : (h k : ℕ → ℤ) (E : ℕ) → ((i : ℕ) → i < a.count → Near E (h i) (k i))
      → (z : ℤ) → on_axis a z ≡ true → Near (a.spacing * E) (line a h z) (line a k z)
  unfolding line
  line_near h k E near z i =
      let p = cell_and_part z i in
      pair_near _ _ _ p.whole (near (cell_for a z) (omega arith)) (near (cell_for a z + 1) p.cell_in)

  module _ (h : ℕ → ℤ) (A : ℕ) (step : (i : ℕ) → i + 1 < a.count → Near A (h i) (h (i + 1))) (D : ℕ) where
    -- The change along the axis, for an angle w that does not lie before z.
    ahead : (z w : ℤ) → on_axis a z ≡ true → on_axis a w ≡ true → Near D z w → offset a z ≤ offset a w
        → Near (D * A) (line a h z) (line a h w)
    unfolding line
    ahead z w i j n l =
        let c = cell_for a z in
        let d = cell_for a w in
        let p = cell_and_part z i in
        let q = cell_and_part w j in
        let m : c + (d - c) ≡ d = add-sub_of_le (cell_order a (offset a z) (offset a w) o l) in
        let e = ap (λ (n : ℕ). n * a.spacing) m in
        let f = offset_near a z w n in
        further h a.count a.spacing A step (d - c) c d _ _ _ _ D m q.cell_in p.whole q.whole (omega arith) (omega arith)

    -- Steps between neighbours at most A: angles at most D apart have values at most D × A apart.
    pub line_change : (z w : ℤ) → on_axis a z ≡ true → on_axis a w ≡ true → Near D z w → Near (D * A) (line a h z) (line a h w)
    line_change z w i j n = go (dec_le (offset a z) (offset a w))
      where
        go : Dec (offset a z ≤ offset a w) → Near (D * A) (line a h z) (line a h w)
        go (yes l) = ahead z w i j n l
        go (no l) = near_sym (ahead w z j i (near_sym n) (omega arith))
