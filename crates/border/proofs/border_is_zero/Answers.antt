-- `border::border_is_zero` meets its contract: each plane of corrections, of which both have one geometry.
use mathlib.Core.Path.{◌∙◌}
use Rattle.integers.specs.Booleans.{and_next, and_stop}
use Rattle.rules.specs.Image.{plane}
use Rattle.rules.specs.Check.{border_zero, question22}
use Rattle.border.proofs.border_is_zero.Goals as goal

pub returns-then-plane_is_zero : goal.returns-then-plane_is_zero
unfolding question22
returns-then-plane_is_zero c =
    let image = c.args.image.now in
    let longitude = plane image.bytes.now image.layout.longitude in
    and_next c.plane_is_zero.ensures c.if-plane_is_zero.true
    (c.plane_is_zero-then-plane_is_zero.ensures ∙ (λ i. border_zero (image.fits.longitude_geometry i) longitude))

pub returns-else-plane_is_zero : goal.returns-else-plane_is_zero
unfolding question22
returns-else-plane_is_zero c = c.if-plane_is_zero.false ∙ and_stop _ c.plane_is_zero.ensures c.if-plane_is_zero.false
