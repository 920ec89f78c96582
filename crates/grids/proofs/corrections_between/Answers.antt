-- `grids::corrections_between` meets its contract: each correction is the value between its corners.
use mir.Syntax.{w64}
use Rattle.integers.specs.Machine.{told}
use Rattle.lookup.specs.Held.{value_in}
use Rattle.grids.proofs.corrections_between.Goals as goal

pub returns : goal.returns
unfolding value_in
returns c =
    let latitude = told w64 c.value_between.type_inv c.value_between.ensures in
    let longitude = told w64 c.value_between-2.type_inv c.value_between-2.ensures in
    λ i. record { latitude = latitude i; longitude = longitude i }
