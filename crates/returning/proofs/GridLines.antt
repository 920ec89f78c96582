-- On a grid line, a row or a column of nodes, the bilinear value is a line along the one axis: the other has all its weight on that line.
use Rattle.std.specs.Prelude.{true, ◌≡◌, refl, ℕ, zero, suc, ◌+◌, ◌*◌, ◌-◌, ◌≤◌, ℤ, ◌*ℤ◌}
use Rattle.std.proofs.Common.{sym, ap, ◌∙◌, add-sub_of_le, arith}
use Rattle.std.proofs.Math.Decide.{dec_le}
use Rattle.std.proofs.Math.Nat.{mul_comm}
use Rattle.std.proofs.Math.IntN.{pos}
use Rattle.integers.specs.Difference.{order, var, lit, ◌⊕◌, ◌⊗◌}
use Rattle.integers.specs.Rounding.{round_half_up}
use Rattle.integers.proofs.Rounding.{round_times}
use Rattle.rules.specs.declared.Axis.{Axis}
use Rattle.rules.specs.declared.Geometry.{Geometry}
use Rattle.rules.specs.declared.Point.{Point}
use Rattle.rules.specs.Limits.{Sized, GeometryPasses}
use Rattle.rules.specs.Bilinear.{offset, value_at}
use Rattle.rules.specs.Lookup.{on_axis}
use Rattle.rules.proofs.Nesting.{AtNode, node_offset}
use Rattle.returning.specs.Line.{weighted_pair, line}
use Rattle.returning.proofs.Line.{pair_parts, cell_and_part}
use Rattle.returning.specs.Interpolation.{surface}
use Rattle.returning.proofs.Interpolation.{sum_is, value_is}
use Rattle.returning.specs.GridLines.{Along}

-- ---- a line at the angles of a cell, its far side included
-- A place u past node i and one v past node c, each at most a spacing, are one place: in one cell, or on the side that two cells share.
module _ (h : ℕ → ℤ) (P : ℕ) (spaced : 1 ≤ P) where
  same_ahead : (k c i s v t u : ℕ) → c + k ≡ i → s + v ≡ P → t + u ≡ P → v ≡ k * P + u
      → weighted_pair (h c) (h (c + 1)) s v ≡ weighted_pair (h i) (h (i + 1)) t u
  same_ahead zero c i s v t u e f g m =
      let e' : i ≡ c = omega arith in
      let s' : s ≡ t = omega arith in
      let v' : v ≡ u = omega arith in
      rw (e', s', v')
  same_ahead (suc zero) c i s v t u e f g m =
      let e' : i ≡ c + 1 = omega arith in
      let s' : s ≡ 0 = omega arith in
      let u' : u ≡ 0 = omega arith in
      let v' : v ≡ t = omega arith in
      rw (e', s', u', v') (omega (arith, order, pair_parts (h c) (h (c + 1)) 0 t, pair_parts (h (c + 1)) (h (c + 1 + 1)) t 0))
  same_ahead (suc (suc k)) c i s v t u e f g m = absurd (omega arith)

  same_place : (c i s v t u : ℕ) → s + v ≡ P → t + u ≡ P → c * P + v ≡ i * P + u
      → weighted_pair (h c) (h (c + 1)) s v ≡ weighted_pair (h i) (h (i + 1)) t u
  same_place c i s v t u f g m = by (dec_le c i)
    where
      by : Dec (c ≤ i) → weighted_pair (h c) (h (c + 1)) s v ≡ weighted_pair (h i) (h (i + 1)) t u
      by (yes l) =
          let e : c + (i - c) ≡ i = add-sub_of_le l in
          same_ahead (i - c) c i s v t u e f g (omega (arith, ap (λ (n : ℕ). n * P) e))
      by (no l) =
          let e : i + (c - i) ≡ c = add-sub_of_le (omega arith) in
          sym (same_ahead (c - i) i c t u s v e g f (omega (arith, ap (λ (n : ℕ). n * P) e)))

module _ {a : Axis} (o : Sized a) (h : ℕ → ℤ) where
  -- The line at an angle that lies u past node i, where t is left to the next node.
  pub line_at : (i t u : ℕ) (z : ℤ) → on_axis a z ≡ true → t + u ≡ a.spacing → offset a z ≡ i * a.spacing + u
      → line a h z ≡ weighted_pair (h i) (h (i + 1)) t u
  unfolding line
  line_at i t u z j l e =
      let p = cell_and_part o z j in
      same_place h a.spacing o.spacing_least _ i _ _ t u p.whole l (p.offset_is ∙ e)

  -- At a node it is the spacing times the node's value.
  line_node : (z : ℤ) (i : ℕ) → AtNode a z i → line a h z ≡ h i *ℤ pos a.spacing
  line_node z i n =
      line_at i a.spacing 0 z n.on (omega arith) (omega (arith, node_offset a i, ap (offset a) n.angle))
      ∙ omega (arith, order, pair_parts (h i) (h (i + 1)) a.spacing 0, var (h i) ⊗ lit a.spacing)

-- The line of values times a factor.
pair_times : (a b : ℤ) (s u k : ℕ) → weighted_pair (a *ℤ pos k) (b *ℤ pos k) s u ≡ weighted_pair a b s u *ℤ pos k
unfolding weighted_pair
pair_times a b s u k = omega (arith, order, var a ⊗ lit k ⊗ lit s ⊕ var b ⊗ lit k ⊗ lit u, (var a ⊗ lit s ⊕ var b ⊗ lit u) ⊗ lit k)

pub line_times : (a : Axis) (h : ℕ → ℤ) (k : ℕ) (z : ℤ) → line a (λ i. h i *ℤ pos k) z ≡ line a h z *ℤ pos k
unfolding line
line_times a h k z = pair_times _ _ _ _ k

module _ {g : Geometry} (o : GeometryPasses g) (f : ℕ → ℕ → ℤ) (p : Point) where
  -- On a row, and on a column.
  pub along_row_lem : (row : ℕ) → AtNode g.latitude p.latitude row → Along g f p g.longitude (f row) p.longitude
  unfolding surface
  along_row_lem row n =
      record {
        across = g.latitude.spacing;
        across_least = o.latitude.sized.spacing_least;
        area_is = refl;
        sum = sum_is g f p ∙ line_node o.latitude.sized (λ row. line g.longitude (f row) p.longitude) p.latitude row n;
      }

  pub along_column : (column : ℕ) → AtNode g.longitude p.longitude column
      → Along g f p g.latitude (λ row. f row column) p.latitude
  unfolding surface
  along_column column n =
      let at : (row : ℕ) → line g.longitude (f row) p.longitude ≡ f row column *ℤ pos g.longitude.spacing =
      λ row. line_node o.longitude.sized (f row) p.longitude column n in
      record {
        across = g.longitude.spacing;
        across_least = o.longitude.sized.spacing_least;
        area_is = mul_comm g.latitude.spacing g.longitude.spacing;
        sum =
            sum_is g f p ∙ (λ d. line g.latitude (λ row. at row d) p.latitude)
            ∙ line_times g.latitude (λ row. f row column) g.longitude.spacing p.latitude;
      }

-- The value there is the line's, divided by its spacing and rounded.
pub value_along : {g : Geometry} {f : ℕ → ℕ → ℤ} {p : Point} {a : Axis} {h : ℕ → ℤ} {z : ℤ} → 1 ≤ a.spacing → Along g f p a h z
    → value_at g f p ≡ round_half_up (line a h z) a.spacing
value_along {g} {f} {p} {a} {h} {z} l s =
    rw (value_is g f p, s.sum, s.area_is) (round_times (line a h z) a.spacing s.across l s.across_least)
