-- What the weighting function asks of its numbers, and the weighted mean of natural numbers, as quotient and remainder of their sum.
use Rattle.std.specs.Prelude.{ℕ, ◌+◌, ◌-◌, ◌*◌, ◌/◌, ◌%◌, ◌^◌, ◌≤◌, ◌<◌, ◌≡◌, max, Bool, ◌&&◌, ℤ, pos, nat_abs, ◌+ℤ◌, ◌-ℤ◌}
use Rattle.rules.specs.declared.Square.{Square}
use Rattle.rules.specs.declared.PlaceInCell.{PlaceInCell}
use Rattle.rules.specs.declared.Spacings.{Spacings}
use Rattle.rules.specs.Units.{between, within, spacing_most, correction_limit}
use Rattle.bilinear.specs.declared.Quotient.{Quotient}
use Rattle.bilinear.specs.declared.Raised.{Raised}
use Rattle.bilinear.specs.declared.Rows.{Rows}

-- A spacing that question 4 lets pass.
pub record Spacing (P : ℕ) : Type 0 where
  pub least : 1 ≤ P
  pub most : P ≤ spacing_most

-- A place in a cell of these spacings, its sides included.
pub record InCell (s : Spacings) (at : PlaceInCell) : Type 0 where
  pub u_most : at.u ≤ s.latitude
  pub v_most : at.v ≤ s.longitude
  pub latitude_spacing : Spacing s.latitude
  pub longitude_spacing : Spacing s.longitude

-- Corners are near where the others lie less than 2^15 from the south-west one, in a cell whose area is at most 2^48.
abbrev pub raise : ℕ
raise = 32768

abbrev pub near_limit : ℕ
near_limit = 32767

abbrev pub near_area : ℕ
near_area = 281474976710656

unfoldable pub near : Square → ℕ → Bool
near c area =
    (within near_limit (c.southeast -ℤ c.southwest)
    && (within near_limit (c.northwest -ℤ c.southwest) && within near_limit (c.northeast -ℤ c.southwest)))
    && between 1 near_area area

-- A corner value no further than `by` from a base: raised by `by` less the base, it is a natural number.
pub record Around (base : ℤ) (by : ℕ) (x : ℤ) : Type 0 where
  pub base_within : nat_abs base ≤ correction_limit
  pub by_most : by ≤ correction_limit
  pub within : nat_abs x ≤ correction_limit
  pub distance : nat_abs (x -ℤ base) ≤ by

pub record CornersAround (base : ℤ) (by : ℕ) (c : Square) : Type 0 where
  pub southwest : Around base by c.southwest
  pub southeast : Around base by c.southeast
  pub northwest : Around base by c.northwest
  pub northeast : Around base by c.northeast

-- Raised corners: how far each lies above b.
pub record Gaps (b : ℤ) (c : Square) (r : Raised) : Type 0 where
  pub southwest : c.southwest ≡ b +ℤ pos r.southwest
  pub southeast : c.southeast ≡ b +ℤ pos r.southeast
  pub northwest : c.northwest ≡ b +ℤ pos r.northwest
  pub northeast : c.northeast ≡ b +ℤ pos r.northeast

-- a and b weighted by the parts whole − w and w.
abbrev pub mix : (a b w whole : ℕ) → ℕ
mix a b w whole = (whole - w) * a + w * b

-- The mixes of both rows of raised corners, v from the west side of a cell.
abbrev pub mixed : Raised → (v Q : ℕ) → Rows
mixed r v Q = record { south = mix r.southwest r.southeast v Q; north = mix r.northwest r.northeast v Q }

-- The mix of two rows, divided by P × Q.
abbrev pub quotient_of : Rows → (u : ℕ) → Spacings → Quotient
quotient_of r u s =
    let sum = mix r.south r.north u s.latitude in
    record { whole = sum / (s.latitude * s.longitude); rest = sum % (s.latitude * s.longitude) }

-- The mix of raised corners, divided by P × Q.
abbrev pub corner_quotient : Raised → PlaceInCell → Spacings → Quotient
corner_quotient r at s = quotient_of (mixed r at.v s.longitude) at.u s

-- What keeps a mix in 64 bits.
pub record Mixable (a b w whole : ℕ) : Type 0 where
  pub part : w ≤ whole
  pub fits : whole * max a b < 2 ^ 64

-- Raised corners at most `limit`.
pub record Below (limit : ℕ) (r : Raised) : Type 0 where
  pub southwest : r.southwest ≤ limit
  pub southeast : r.southeast ≤ limit
  pub northwest : r.northwest ≤ limit
  pub northeast : r.northeast ≤ limit

-- The mixes of two rows of corners raised as far as they can be, and the part with which these are mixed.
pub record RowMixes (r : Rows) (u : ℕ) (s : Spacings) : Type 0 where
  pub south_most : r.south ≤ s.longitude * (2 * correction_limit)
  pub north_most : r.north ≤ s.longitude * (2 * correction_limit)
  pub u_most : u ≤ s.latitude
  pub latitude_spacing : Spacing s.latitude
  pub longitude_spacing : Spacing s.longitude

-- How large the quotient of a sum that is rounded can be: a base, what is taken from it, and the quotient of the raised corners.
abbrev pub quotient_most : ℕ
quotient_most = 4 * correction_limit
