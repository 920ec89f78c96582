-- `geometry::bounds_pass` meets its contract: each axis is sized after 3 and 4.
use native.Mathlib.Omega.{arith}
use Rattle.rules.proofs.Opening.{latitude_sized, longitude_sized}
use Rattle.geometry.proofs.bounds_pass.Goals as goal

pub bounds_within-requires : goal.bounds_within-requires
bounds_within-requires c = (omega arith, latitude_sized _ c.requires.0 c.requires.1)

pub bounds_within-requires-then-bounds_within : goal.bounds_within-requires-then-bounds_within
bounds_within-requires-then-bounds_within c = (omega arith, longitude_sized _ c.requires.0 c.requires.1)
