-- The scales of notes 2 and 4 of document 02, with the limits that they are used with, meet what the code asks of a scale.
use native.Mathlib.Omega.{arith}
use Rattle.rules.specs.Units.{longitude_limit, correction_limit, quasi_geoid_limit}
use Rattle.rules.specs.Vdatum.{from_degrees, from_metres}
use Rattle.rules.specs.Ntv2.{from_arcseconds}
use Rattle.floats.specs.Sizes.{Usable}

pub record AllUsable : Type 0 where
  pub angles : Usable from_degrees longitude_limit
  pub heights : Usable from_metres quasi_geoid_limit
  pub angles_in_arcseconds : Usable from_arcseconds longitude_limit
  pub corrections_in_arcseconds : Usable from_arcseconds correction_limit

pub all_usable : AllUsable
all_usable = omega arith
