-- `border::border_agrees` meets its contract: each plane of corrections beside the dense one, which question 20 found aligned.
use mathlib.Core.Path.{◌∙◌}
use Rattle.integers.specs.Booleans.{and_next, and_stop}
use Rattle.rules.specs.Image.{plane}
use Rattle.rules.specs.Check.{border_agrees, question21}
use Rattle.border.proofs.border_agrees.Goals as goal

pub returns-then-plane_agrees : goal.returns-then-plane_agrees
unfolding question21
returns-then-plane_agrees c =
    let image = c.args.image.now in
    let longitude = plane image.bytes.now image.layout.longitude in
    let dense = c.beside.ensures in
    and_next c.plane_agrees.ensures c.if-plane_agrees.true
    (c.plane_agrees-then-plane_agrees.ensures
    ∙ (λ i. border_agrees (image.fits.longitude_geometry i) (dense i).geometry longitude (plane image.bytes.now (dense i))))

pub returns-else-plane_agrees : goal.returns-else-plane_agrees
unfolding question21
returns-else-plane_agrees c = c.if-plane_agrees.false ∙ and_stop _ c.plane_agrees.ensures c.if-plane_agrees.false
