-- Refusal 19 as the code tests it: the largest f32 that rounds to a correction within the limit, with either sign, and what it decides of
-- both shifts of a node.
use mathlib.Core.Bool.{true, ◌&&◌}
use mathlib.Core.List.{List}
use mathlib.Core.Path.{◌≡◌, refl, sym, ap, ◌∙◌}
use Prim.Native.Nat.{ℕ, ◌+◌, ◌*◌, ◌%◌, ◌<◌}
use native.Mathlib.Nat.{add-mod_right, mul-le-mul_right}
use native.Mathlib.Omega.{arith}
use lib.Dec.{leb}
use Rattle.integers.specs.Booleans.{and_left, and_right}
use Rattle.rules.specs.Units.{correction_limit}
use Rattle.rules.specs.Floats.{binary32}
use Rattle.rules.specs.Ntv2.{from_arcseconds, arcseconds, latitude_shift, longitude_shift, latitude_from, longitude_from, shifts_fit}
use Rattle.rules.specs.Ntv2.{all_shifts_fit, file_node}
use Rattle.rules.proofs.Largest.{every_at}
use Rattle.floats.specs.Sizes.{rounded_size}
use Rattle.floats.specs.Turned.{Turned}
use Rattle.floats.proofs.Ordered.{is_largest, largest_computed, ordered_passes}
use Rattle.floats.proofs.Turning.{sign_added, sign_added_lem}
use Rattle.ntv2.specs.Reading.{shift_fits, turned_fits, RowFits}

abbrev pub largest_bits : ℕ
largest_bits = 0x42100000

-- A shift is asked by its bits without the sign, whichever sign it has.
shift_tested : (bits : ℕ) → shift_fits bits ≡ leb (bits % 2147483648) largest_bits
unfolding shift_fits arcseconds is_largest rounded_size
shift_tested bits =
    ordered_passes binary32 from_arcseconds correction_limit largest_bits
    (largest_computed binary32 from_arcseconds correction_limit largest_bits refl) bits

pub turned_fits_lem : (bits r : ℕ) → Turned binary32 bits r → turned_fits bits ≡ shift_fits r
unfolding shift_fits turned_fits
turned_fits_lem bits r t = rw (t.finite_same, t.value_turned)

pub either_sign : (bits : ℕ) → turned_fits bits ≡ shift_fits bits
either_sign bits =
    turned_fits_lem bits _ (sign_added_lem binary32 bits)
    ∙ shift_tested (sign_added binary32 bits)
    ∙ ap (λ k. leb k largest_bits) (add-mod_right bits 2147483648)
    ∙ sym (shift_tested bits)

-- Both shifts of a node.
node_fits : (b : List ℕ) (n : ℕ) → shifts_fit b n ≡ (shift_fits (latitude_shift b n) && turned_fits (longitude_shift b n))
unfolding shifts_fit latitude_from longitude_from shift_fits turned_fits
node_fits b n = refl

pub shifts_tested : (b : List ℕ) (n : ℕ)
    → shifts_fit b n ≡ (leb (latitude_shift b n % 2147483648) largest_bits && leb (longitude_shift b n % 2147483648) largest_bits)
shifts_tested b n =
    let latitude = shift_tested (latitude_shift b n) in
    let longitude = either_sign (longitude_shift b n) ∙ shift_tested (longitude_shift b n) in
    node_fits b n ∙ (λ i. latitude i && longitude i)

pub both_fit : (b : List ℕ) (n : ℕ) → shifts_fit b n ≡ true
    → (shift_fits (latitude_shift b n) ≡ true) × (turned_fits (longitude_shift b n) ≡ true)
both_fit b n h =
    let k = sym (node_fits b n) ∙ h in
    let latitude = shift_fits (latitude_shift b n) in
    let longitude = turned_fits (longitude_shift b n) in
    (and_left latitude longitude k, and_right latitude longitude k)

-- The nodes of a row stand among all.
pub node_below : (rows columns row column : ℕ) → row < rows → column < columns → file_node columns row column < rows * columns
node_below rows columns row column i j =
    let below = mul-le-mul_right {m = row + 1} {n = rows} columns (omega arith) in
    omega (arith, below)

pub row_fits : (b : List ℕ) (rows columns row : ℕ) → all_shifts_fit b (rows * columns) ≡ true → row < rows → RowFits b columns row
unfolding all_shifts_fit RowFits
row_fits b rows columns row q i column j =
    every_at (rows * columns) (shifts_fit b) q (file_node columns row column) (node_below rows columns row column i j)
