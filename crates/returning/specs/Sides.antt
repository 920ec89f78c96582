-- Question 21 along one axis, as the code of crate border puts it. The border of an aligned dense grid lies on coarse grid lines, where the
-- parent's exact value is that between two nodes: one axis is enough, and 64 bits.
use Rattle.std.specs.Prelude.{Bool, ◌&&◌, ℕ, ◌+◌, ◌-◌, ◌*◌, ◌/◌, leb, ℤ, pos, nat_abs, ◌+ℤ◌, ◌-ℤ◌, ◌*ℤ◌}
use Rattle.rules.specs.declared.Axis.{Axis}
use Rattle.rules.specs.Image.{far_bound}
use Rattle.rules.specs.Bilinear.{offset, cell_of, part_of}
use Rattle.rules.specs.Check.{every}

-- The grid line of an angle that lies on one, counted from the axis's start.
abbrev pub line_of : Axis → ℤ → ℕ
line_of a z = offset a z / a.spacing

-- A value f, and the exact value that lies `part` of a spacing past e, toward the next one, differ by at most 1: both times the spacing.
unfoldable pub node_close : (f e next : ℤ) (part spacing : ℕ) → Bool
node_close f e next part spacing =
    leb (nat_abs (f *ℤ pos spacing -ℤ (e *ℤ pos (spacing - part) +ℤ next *ℤ pos part))) spacing

-- A node of value f, at distance x from the start of a coarse axis with values h.
unfoldable pub node_agrees : (coarse : Axis) (h : ℕ → ℤ) (x : ℕ) (f : ℤ) → Bool
node_agrees c h x f = node_close f (h (cell_of c x)) (h (cell_of c x + 1)) (part_of c x) c.spacing

-- All nodes of a dense axis with values k.
unfoldable pub side_agrees : (coarse dense : Axis) (h k : ℕ → ℤ) → Bool
side_agrees c d h k = every d.count (λ i. node_agrees c h (offset c d.start + i * d.spacing) (k i))

-- Two opposite sides, at the start and the far bound of a dense axis b, which are nodes of the coarse axis a. The sides run along the axes
-- c and d; h and k are the coarse and the dense values, by line and then by node along it.
abbrev pub sides_agree : (a b c d : Axis) (h k : ℕ → ℕ → ℤ) → Bool
sides_agree a b c d h k =
    side_agrees c d (h (line_of a b.start)) (k 0) && side_agrees c d (h (line_of a (far_bound b))) (k (b.count - 1))
