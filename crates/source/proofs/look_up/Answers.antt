-- `source::look_up` meets its contract: by whether the heights stand on a separate grid.
use mathlib.Core.Path.{◌∙◌}
use Rattle.source.proofs.Sources.{nodes_asked, grids_asked}
use Rattle.source.proofs.look_up.Goals as goal

pub returns-then-image : goal.returns-then-image
returns-then-image c = c.look_up_grids.ensures ∙ grids_asked _ _ c.if-image.true

pub returns-else-image : goal.returns-else-image
returns-else-image c =
    c.look_up_nodes.ensures ∙ nodes_asked _ c.args.q c.if-image.false (c.args.image.now.fits.height_geometry c.if-image.false)
