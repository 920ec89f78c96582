-- What the code makes of a float: the nearest whole number at a scale, where the float is finite and that number within a limit.
use Rattle.std.specs.Prelude.{Option, ℕ, ℤ, ◌&&◌}
use Rattle.std.specs.Bool.{then_some}
use Rattle.rules.specs.declared.FloatFormat.{FloatFormat}
use Rattle.rules.specs.declared.Scale.{Scale}
use Rattle.rules.specs.Units.{within}
use Rattle.rules.specs.Floats.{finite, value_of, nearest}

-- A whole number where it is within the limit.
abbrev pub whole_within : (limit : ℕ) → ℤ → Option ℤ
whole_within limit z = then_some (within limit z) z

unfoldable pub nearest_within : FloatFormat → Scale → (limit bits : ℕ) → Option ℤ
nearest_within f s limit bits = let z = nearest s (value_of f bits) in then_some (finite f bits && within limit z) z
