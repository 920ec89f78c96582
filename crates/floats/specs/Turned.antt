-- A float's bits with its sign turned, those of the opposite value, and without its sign.
use Rattle.std.specs.Prelude.{◌≡◌, ℕ, ◌+◌, ◌%◌, ◌^◌}
use Rattle.rules.specs.declared.FloatFormat.{FloatFormat}
use Rattle.rules.specs.Floats.{finite, value_of}
use Rattle.rules.specs.Ntv2.{turned}

pub record Turned (f : FloatFormat) (bits r : ℕ) : Type 0 where
  pub finite_same : finite f r ≡ finite f bits
  pub value_turned : value_of f r ≡ turned (value_of f bits)

abbrev pub without_sign : FloatFormat → (bits : ℕ) → ℕ
without_sign f bits = bits % 2 ^ (f.exponent + f.fraction)
