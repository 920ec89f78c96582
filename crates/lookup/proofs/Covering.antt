-- A grid that lies in the bounds of the corrections: their own, or a dense one inside it. Offsets there are those on the grid plus a shift,
-- so a cell of the grid is found again by its sides' distances from the bounds.
use mathlib.Core.Bool.{Bool, true, false, ◌&&◌}
use mathlib.Core.List.{List}
use mathlib.Core.Path.{◌≡◌, refl}
use Prim.Native.Nat.{ℕ, ◌+◌, ◌-◌, ◌*◌, ◌≤◌}
use native.Mathlib.Omega.{arith}
use lib.Dec.{leb}
use lib.IntN.{ℤ}
use Rattle.integers.specs.Booleans.{and_left, and_right}
use Rattle.integers.specs.Machine.{zarith}
use Rattle.rules.specs.declared.Axis.{Axis}
use Rattle.rules.specs.declared.Geometry.{Geometry}
use Rattle.rules.specs.declared.Layout.{Layout}
use Rattle.rules.specs.declared.Point.{Point}
use Rattle.rules.specs.Image.{grid_of}
use Rattle.rules.specs.Limits.{Sized, OpenAround}
use Rattle.rules.specs.Bilinear.{offset, part_of, cell_for, part_for}
use Rattle.rules.specs.Lookup.{on_axis, inside, grid_for}
use Rattle.rules.proofs.Cells.{from_start, cell_most, cell_is, less_part}
use Rattle.rules.proofs.Nesting.{Aligned, coarse_offset, latitude_aligned, longitude_aligned}
use Rattle.image.specs.declared.fit.FitImage.{FitImage}
use Rattle.image.specs.Fit.{grid_in}
use Rattle.axis.specs.Place.{reaches}
use Rattle.lookup.specs.Held.{Bounded, Around}

-- ---- one axis d in the bounds of another, c
pub record CoversAxis (c d : Axis) : Type 0 where
  pub shift : ℕ
  pub offset_is : (z : ℤ) → on_axis d z ≡ true → offset c z ≡ shift + offset d z

covers_itself : (a : Axis) → CoversAxis a a
covers_itself a = record { shift = 0; offset_is = λ z i. omega arith }

covers_aligned : {c d : Axis} → Aligned c d → CoversAxis c d
covers_aligned {c} {d} a = record { shift = offset c d.start; offset_is = λ z i. coarse_offset a z (from_start d z i) }

-- An angle's part of its cell is at most its offset.
pub part_below : (a : Axis) (z : ℤ) → part_for a z ≤ offset a z
unfolding part_of
part_below a z = omega arith

module _ {c d : Axis} (k : CoversAxis c d) (z : ℤ) (i : on_axis d z ≡ true) where
  -- So it is in the bounds, and the rest is the offset of the cell's side.
  pub part_in : part_for d z ≤ offset c z
  part_in = omega (arith, k.offset_is z i, part_below d z)

  pub side_is : offset c z - part_for d z ≡ k.shift + cell_for d z * d.spacing
  unfolding part_of
  side_is = omega (arith, k.offset_is z i, less_part d (offset d z))

-- An angle that lies in the cell of another has that cell.
pub same_along : {c d : Axis} (k : CoversAxis c d) → Sized d → (z w : ℤ) → on_axis d z ≡ true → on_axis d w ≡ true
    → reaches (offset c z - part_for d z) d.spacing (offset c w) ≡ true → cell_for d w ≡ cell_for d z
unfolding reaches
same_along {c} {d} k o z w i j h =
    let side = offset c z - part_for d z in
    let past = and_left (leb side (offset c w)) _ h in
    let near = and_right (leb side (offset c w)) _ h in
    let e = side_is k z i in
    let f = k.offset_is w j in
    cell_is d (cell_for d z) (offset d w) o (cell_most d (offset d z)) (omega zarith) (omega zarith)

-- ---- both axes
pub record Covers (bounds g : Geometry) : Type 0 where
  pub latitude : CoversAxis bounds.latitude g.latitude
  pub longitude : CoversAxis bounds.longitude g.longitude

-- The grid g that a point's corrections are taken from: it passes questions 3 to 5, the point is in its bounds, and these are in the bounds
-- of the corrections.
pub record Serves (bounds g : Geometry) (p : Point) : Type 0 where
  pub bounded : Bounded g p
  pub covers : Covers bounds g

-- A point in the bounds of an open image; the coarse grid serves it.
pub bounded_around : {b : List ℕ} {l : Layout} {p : Point} → OpenAround b l p → Bounded l.latitude.geometry p
bounded_around o = record { geometry = o.layout.latitude.geometry; point = o.point }

-- A fit image is open with its layout.
pub open_around : (i : FitImage) {p : Point} → Around i p → OpenAround i.bytes.now i.layout p
open_around i t = record { layout = i.fits; point = t }

pub bounded_in : (i : FitImage) {p : Point} → Around i p → Bounded (grid_in i).corrections p
bounded_in i t = bounded_around (open_around i t)

pub itself_serves : {g : Geometry} {p : Point} → Bounded g p → Serves g g p
itself_serves b = record { bounded = b; covers = record { latitude = covers_itself _; longitude = covers_itself _ } }

-- The grid that a point's corrections are taken from serves it: the dense one in its bounds, else the coarse one.
module _ (b : List ℕ) (l : Layout) (p : Point) (o : OpenAround b l p) where
  dense_serves : l.nested ≡ true → inside l.dense.geometry p ≡ true → Serves l.latitude.geometry l.dense.geometry p
  dense_serves nested i =
      let a = (o.layout.nests nested).aligned in
      record {
        bounded = record { geometry = o.layout.dense.geometry; point = i };
        covers = record {
          latitude = covers_aligned (latitude_aligned l.latitude.geometry l.dense.geometry a);
          longitude = covers_aligned (longitude_aligned l.latitude.geometry l.dense.geometry a);
        };
      }

  pub serves : Serves l.latitude.geometry (grid_for (grid_of b l) p).corrections p
  serves = by (l.nested && inside l.dense.geometry p) refl
    where
      by : (t : Bool) → (l.nested && inside l.dense.geometry p) ≡ t
          → Serves l.latitude.geometry (grid_for (grid_of b l) p).corrections p
      by true e = rw e (dense_serves (and_left _ _ e) (and_right l.nested _ e))
      by false e = rw e (itself_serves (bounded_around o))
