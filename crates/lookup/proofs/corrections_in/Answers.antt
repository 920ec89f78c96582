-- `lookup::corrections_in` meets its contract: each correction is the value between its corners.
use mathlib.Core.Path.{◌∙◌}
use mir.Syntax.{w64}
use Rattle.integers.specs.Machine.{told}
use Rattle.lookup.specs.Held.{value_in}
use Rattle.lookup.proofs.Found.{passing}
use Rattle.lookup.proofs.corrections_in.Goals as goal

pub value_between-requires : goal.value_between-requires
value_between-requires c =
    let s = c.requires in
    ((passing s.1 s.0).latitude, rw c.place_in-at.ensures s.1.place)

pub value_between-requires-2 : goal.value_between-requires-2
value_between-requires-2 c =
    let s = c.requires in
    ((passing s.1 s.0).longitude, rw c.place_in-at.ensures s.1.place)

pub returns : goal.returns
unfolding value_in
returns c =
    let h = c.args.h in
    let latitude =
    told w64 c.value_between.type_inv c.value_between.ensures
    ∙ (λ i. value_in h.corners.latitude h.spacings (c.place_in-at.ensures i)) in
    let longitude =
    told w64 c.value_between-2.type_inv c.value_between-2.ensures
    ∙ (λ i. value_in h.corners.longitude h.spacings (c.place_in-at.ensures i)) in
    λ i. record { latitude = latitude i; longitude = longitude i }
