-- Near corners: what the test says of them, and their mix, which fits 64 bits.
use mathlib.Core.Bool.{true, ◌&&◌}
use mathlib.Core.Path.{◌≡◌}
use Prim.Native.Nat.{ℕ, ◌+◌, ◌*◌, ◌≤◌}
use native.Mathlib.Nat.{mul-le-mul_left, mul-le-mul_right, max-le}
use native.Mathlib.Omega.{arith}
use lib.Dec.{leb}
use lib.IntN.{ℤ, pos, nat_abs, ◌+ℤ◌, ◌-ℤ◌}
use borrow.Author.Tests.{leb-true}
use Rattle.integers.specs.Booleans.{and_left, and_right, all_three}
use Rattle.integers.specs.Distance.{abs_is}
use Rattle.integers.specs.Difference.{order, var, lit, ◌⊕◌, ◌⊖◌}
use Rattle.rules.specs.declared.Square.{Square}
use Rattle.rules.specs.Units.{within, correction_limit}
use Rattle.rules.specs.declared.PlaceInCell.{PlaceInCell}
use Rattle.rules.specs.declared.Spacings.{Spacings}
use Rattle.rules.specs.Limits.{CornersWithin}
use Rattle.bilinear.specs.declared.Raised.{Raised}
use Rattle.bilinear.specs.Mean.{InCell, Around, CornersAround, Gaps, mixed, raise, near_limit, near_area, near, Mixable, Below}
use Rattle.bilinear.proofs.Mixes.{mix_le}

-- What the test says.
pub record NearTo (c : Square) (area : ℕ) : Type 0 where
  pub southeast : nat_abs (c.southeast -ℤ c.southwest) ≤ near_limit
  pub northwest : nat_abs (c.northwest -ℤ c.southwest) ≤ near_limit
  pub northeast : nat_abs (c.northeast -ℤ c.southwest) ≤ near_limit
  pub area_most : area ≤ near_area

pub near_to : (c : Square) (area : ℕ) → near c area ≡ true → NearTo c area
unfolding near
near_to c area e =
    let se = within near_limit (c.southeast -ℤ c.southwest) in
    let nw = within near_limit (c.northwest -ℤ c.southwest) in
    let ne = within near_limit (c.northeast -ℤ c.southwest) in
    let corners = all_three se nw ne (and_left (se && (nw && ne)) _ e) in
    record {
      southeast = leb-true _ _ corners.0;
      northwest = leb-true _ _ corners.1;
      northeast = leb-true _ _ corners.2;
      area_most = leb-true _ _ (and_right (leb 1 area) _ (and_right (se && (nw && ne)) _ e));
    }

-- A near corner, raised, is below 2^16.
raised_most : (sw x : ℤ) (n : ℕ) → nat_abs (x -ℤ sw) ≤ near_limit → x ≡ (sw -ℤ pos raise) +ℤ pos n → n ≤ raise + near_limit
raised_most sw x n h e = omega (arith, order, abs_is (var x ⊖ var sw), var sw ⊖ lit raise ⊕ lit n)

module _ (c : Square) (area : ℕ) (w : CornersWithin correction_limit c) (n : NearTo c area) where
  -- Near corners are around the south-west one.
  around_near : {x : ℤ} → nat_abs x ≤ correction_limit → nat_abs (x -ℤ c.southwest) ≤ near_limit → Around c.southwest raise x
  around_near h k = record { base_within = w.southwest; by_most = omega arith; within = h; distance = omega arith }

  pub near_around : CornersAround c.southwest raise c
  near_around =
      record {
        southwest = around_near w.southwest (omega (arith, order, abs_is (var c.southwest ⊖ var c.southwest)));
        southeast = around_near w.southeast n.southeast;
        northwest = around_near w.northwest n.northwest;
        northeast = around_near w.northeast n.northeast;
      }

  -- Raised, they are below 2^16.
  pub raised_below : {r : Raised} → Gaps (c.southwest -ℤ pos raise) c r → Below (raise + near_limit) r
  raised_below g =
      record {
        southwest = raised_most c.southwest c.southwest _ (omega (arith, order, abs_is (var c.southwest ⊖ var c.southwest))) g.southwest;
        southeast = raised_most c.southwest c.southeast _ n.southeast g.southeast;
        northwest = raised_most c.southwest c.northwest _ n.northwest g.northwest;
        northeast = raised_most c.southwest c.northeast _ n.northeast g.northeast;
      }

-- Raised near corners are not larger than corners can be.
pub below_most : {r : Raised} → Below (raise + near_limit) r → Below (2 * correction_limit) r
below_most b = record { southwest = omega arith; southeast = omega arith; northwest = omega arith; northeast = omega arith }

-- The rows of raised corners can be mixed.
pub rows_mixable : {r : Raised} {at : PlaceInCell} {s : Spacings} → Below (raise + near_limit) r → InCell s at
    → s.latitude * s.longitude ≤ near_area
    → let rows = mixed r at.v s.longitude in Mixable rows.south rows.north at.u s.latitude
rows_mixable {r} {at} {s} b cell small =
    let most = raise + near_limit in
    let south = mix_le most cell.v_most b.southwest b.southeast in
    let north = mix_le most cell.v_most b.northwest b.northeast in
    record {
      part = cell.u_most;
      fits = omega (arith, mul-le-mul_left s.latitude (max-le south north), mul-le-mul_right most small);
    }
