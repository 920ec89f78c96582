-- An image of kind 2 that passes the check: at every point its corrections are answered and steady, zero outside their bounds; and on the
-- height grid a height is answered, off it that there is none.
use Rattle.rules.specs.declared.Point.{Point}
use Rattle.rules.specs.declared.Correction.{Correction}
use Rattle.rules.specs.Image.{Grid}
use Rattle.returning.specs.Edge.{value_or_zero}

-- Both corrections, zero outside the bounds.
abbrev pub zero_outside : Grid → Point → Correction
zero_outside g q =
    record { latitude = value_or_zero g.corrections g.latitude q; longitude = value_or_zero g.corrections g.longitude q }
