-- The laws over ℕ behind the code: a mix is at most its larger value, and a division by P × Q done in two steps loses nothing.
use mathlib.Core.Path.{◌≡◌, ap, ◌∙◌}
use Prim.Native.Nat.{ℕ, ◌+◌, ◌-◌, ◌*◌, ◌/◌, ◌%◌, ◌^◌, ◌≤◌, ◌<◌, max}
use native.Mathlib.Nat.{div-add-mod', div-eq_of_lt-le, mod-lt, div-le_self, div-le_of_le-mul}
use native.Mathlib.Nat.{mul-pos, mul-le-mul, mul-le-mul_left, mul-le-mul_right, sub-add_cancel, le_of_lt, le-max_left, le-max_right, max-le}
use native.Mathlib.Omega.{arith}
use Rattle.rules.specs.Units.{spacing_most, correction_limit}
use Rattle.rules.specs.declared.PlaceInCell.{PlaceInCell}
use Rattle.rules.specs.declared.Spacings.{Spacings}
use Rattle.bilinear.specs.declared.Quotient.{Quotient}
use Rattle.bilinear.specs.declared.Raised.{Raised}
use Rattle.bilinear.specs.declared.Rows.{Rows}
use Rattle.bilinear.specs.Mean.{Spacing, InCell, mix, mixed, quotient_of, corner_quotient, Mixable, Below, RowMixes}

-- At most the larger value.
pub mix_le : {a b w whole : ℕ} (M : ℕ) → w ≤ whole → a ≤ M → b ≤ M → mix a b w whole ≤ whole * M
mix_le {a} {b} {w} {whole} M h k l =
    omega (arith, mul-le-mul_left (whole - w) k, mul-le-mul_left w l, ap (λ (x : ℕ). x * M) (sub-add_cancel h))

-- Numbers as large as a spacing can be mixed.
pub mixable : {a b w whole : ℕ} → w ≤ whole → whole ≤ spacing_most → a ≤ spacing_most → b ≤ spacing_most → Mixable a b w whole
mixable h k a b = record { part = h; fits = omega (arith, mul-le-mul k (max-le a b)) }

pub mix_fits : {a b w whole : ℕ} → Mixable a b w whole → mix a b w whole < 2 ^ 64
mix_fits {a} {b} m = omega (arith, m.fits, mix_le (max a b) m.part (le-max_left a b) (le-max_right a b))

-- The area of a cell.
pub area_least : {P Q : ℕ} → Spacing P → Spacing Q → 0 < P * Q
area_least h k = mul-pos h.least k.least

pub area_most : {P Q : ℕ} → Spacing P → Spacing Q → P * Q ≤ spacing_most * spacing_most
area_most h k = mul-le-mul h.most k.most

pub cell_area : {at : PlaceInCell} {s : Spacings} → InCell s at → 0 < s.latitude * s.longitude
cell_area cell = area_least cell.latitude_spacing cell.longitude_spacing

-- The mixes of both rows, and the mix of both.
module _ {r : Raised} {at : PlaceInCell} {s : Spacings} (cell : InCell s at) (b : Below (2 * correction_limit) r) where
  pub row_mixes : RowMixes (mixed r at.v s.longitude) at.u s
  row_mixes =
      record {
        south_most = mix_le _ cell.v_most b.southwest b.southeast;
        north_most = mix_le _ cell.v_most b.northwest b.northeast;
        u_most = cell.u_most;
        latitude_spacing = cell.latitude_spacing;
        longitude_spacing = cell.longitude_spacing;
      }

  pub whole_most : (corner_quotient r at s).whole ≤ 2 * correction_limit
  whole_most =
      let m = mix_le (s.longitude * (2 * correction_limit)) cell.u_most row_mixes.south_most row_mixes.north_most in
      div-le_of_le-mul (s.latitude * s.longitude) (omega (arith, m))

pub rest_below : (r : Raised) {at : PlaceInCell} {s : Spacings} → InCell s at
    → (corner_quotient r at s).rest < s.latitude * s.longitude
rest_below r cell = mod-lt _ (cell_area cell)

-- Numbers that make up n as a quotient and a remainder do are these.
pub record Division (n d whole rest : ℕ) : Type 0 where
  pub whole_is : n / d ≡ whole
  pub rest_is : n % d ≡ rest

pub division : {n d whole rest : ℕ} → n ≡ whole * d + rest → rest < d → Division n d whole rest
division {n} {d} {whole} {rest} e l =
    let q : n / d ≡ whole = div-eq_of_lt-le d (omega arith) (omega arith) in
    record { whole_is = q; rest_is = omega (arith, div-add-mod' n d, ap (λ (x : ℕ). x * d) q) }

module _ {r : Rows} {u : ℕ} {s : Spacings} (m : RowMixes r u s) where
  abbrev P : ℕ
  P = s.latitude

  abbrev Q : ℕ
  Q = s.longitude

  pub quotient_is : {whole rest : ℕ} → mix r.south r.north u P ≡ whole * (P * Q) + rest → rest < P * Q
      → ◌≡◌ {A = Quotient} (record { whole = whole; rest = rest }) (quotient_of r u s)
  quotient_is e l = let d = division e l in rw (d.whole_is, d.rest_is)

  -- The rows divided by Q, and what that leaves.
  pub south_row : r.south / Q ≤ 2 * correction_limit
  south_row = div-le_of_le-mul Q m.south_most

  pub north_row : r.north / Q ≤ 2 * correction_limit
  north_row = div-le_of_le-mul Q m.north_most

  pub south_left : r.south % Q < Q
  south_left = mod-lt r.south m.longitude_spacing.least

  pub north_left : r.north % Q < Q
  north_left = mod-lt r.north m.longitude_spacing.least

-- The division in two steps: t is the mix of the rows divided by Q, left that of what this leaves of them.
pub record InSteps (s n u P Q t left : ℕ) : Type 0 where
  pub area_most : P * Q ≤ spacing_most * spacing_most
  pub t_most : t / P ≤ P * (2 * correction_limit)
  pub rest_most : t % P * Q + left < 2 * (P * Q)
  pub nothing_lost : mix s n u P ≡ t / P * (P * Q) + (t % P * Q + left)

pub in_steps : {r : Rows} {u : ℕ} {s : Spacings} {t left : ℕ} → RowMixes r u s
    → t ≡ mix (r.south / s.longitude) (r.north / s.longitude) u s.latitude
    → left ≡ mix (r.south % s.longitude) (r.north % s.longitude) u s.latitude
    → InSteps r.south r.north u s.latitude s.longitude t left
in_steps {r} {u} {s} {t} {left} m et el =
    let P = s.latitude in
    let Q = s.longitude in
    let a = mul-le-mul_right Q (mod-lt t m.latitude_spacing.least) in
    let b = mix_le Q m.u_most (le_of_lt (south_left m)) (le_of_lt (north_left m)) in
    record {
      area_most = area_most m.latitude_spacing m.longitude_spacing;
      t_most = omega (arith, div-le_self t P, mix_le (2 * correction_limit) m.u_most (south_row m) (north_row m));
      rest_most = omega (arith, a, b, m.longitude_spacing.least);
      nothing_lost =
          omega (
            arith,
            ap (λ (x : ℕ). (P - u) * x) (div-add-mod' r.south Q),
            ap (λ (x : ℕ). u * x) (div-add-mod' r.north Q),
            ap (λ (x : ℕ). x * Q) (div-add-mod' t P ∙ et),
          );
    }
