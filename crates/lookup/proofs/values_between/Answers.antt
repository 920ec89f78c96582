-- `lookup::values_between` meets its contract: each value is that between its corners.
use mir.Syntax.{w64}
use Rattle.integers.specs.Machine.{told}
use Rattle.lookup.specs.Held.{value_in}
use Rattle.lookup.proofs.Found.{passing_corners, heights_within}
use Rattle.lookup.proofs.values_between.Goals as goal

pub value_between-requires : goal.value_between-requires
value_between-requires c = ((passing_corners c.requires.0).latitude, c.requires.1)

pub value_between-requires-2 : goal.value_between-requires-2
value_between-requires-2 c = ((passing_corners c.requires.0).longitude, c.requires.1)

pub value_between-requires-3 : goal.value_between-requires-3
value_between-requires-3 c = (heights_within (passing_corners c.requires.0).height, c.requires.1)

pub returns : goal.returns
unfolding value_in
returns c =
    let latitude = told w64 c.value_between.type_inv c.value_between.ensures in
    let longitude = told w64 c.value_between-2.type_inv c.value_between-2.ensures in
    let height = told w64 c.value_between-3.type_inv c.value_between-3.ensures in
    λ i. record { correction = record { latitude = latitude i; longitude = longitude i }; height = height i }
