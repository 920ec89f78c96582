-- The largest f32 that rounds to a height within the limit, with either sign, and what it decides.
use mathlib.Core.List.{List}
use mathlib.Core.Path.{◌≡◌, refl}
use Prim.Native.Nat.{ℕ, ◌%◌}
use lib.Dec.{leb}
use Rattle.rules.specs.Units.{quasi_geoid_limit}
use Rattle.rules.specs.Floats.{binary32}
use Rattle.rules.specs.Vdatum.{from_metres, height_bits, height_of, height_fits}
use Rattle.floats.specs.Sizes.{rounded_size}
use Rattle.floats.proofs.Ordered.{is_largest, largest_computed, ordered_passes}

abbrev pub highest_bits : ℕ
highest_bits = 0x42C80006

pub height_tested : (b : List ℕ) (n : ℕ) → height_fits b n ≡ leb (height_bits b n % 2147483648) highest_bits
unfolding height_fits height_of is_largest rounded_size
height_tested b n =
    ordered_passes binary32 from_metres quasi_geoid_limit highest_bits
    (largest_computed binary32 from_metres quasi_geoid_limit highest_bits refl) (height_bits b n)
