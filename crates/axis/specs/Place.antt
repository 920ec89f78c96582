-- The place of an angle along an axis, by its offset from the axis's start.
use Rattle.std.specs.Prelude.{Bool, ◌&&◌, ℕ, ◌-◌, leb, ltb}
use Rattle.rules.specs.declared.Axis.{Axis}
use Rattle.rules.specs.Bilinear.{cell_of, part_of}
use Rattle.axis.specs.declared.AxisPlace.{AxisPlace}

-- Its cell, and its part of the cell.
abbrev pub place_on : Axis → ℕ → AxisPlace
place_on a x = record { cell = cell_of a x; part = part_of a x }

-- An offset at or past a side, and less than one spacing from it.
unfoldable pub reaches : ℕ → ℕ → ℕ → Bool
reaches side spacing x = leb side x && ltb (x - side) spacing
