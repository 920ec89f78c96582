-- `source::look_up_height` meets its contract: by whether there are bounds, and whether the heights stand on a separate grid.
use mathlib.Core.Path.{sym, ◌∙◌}
use Rattle.rules.specs.Image.{Grid}
use Rattle.image.specs.Fit.{grid_in}
use Rattle.source.proofs.Sources.{of_bounded, of_unbounded, height_of_two, height_anywhere}
use Rattle.source.proofs.look_up_height.Goals as goal
use Rattle.source.proofs.look_up_height.Goals.{Start}

abbrev grid : Start → Grid
grid s = grid_in s.args.image.now

pub returns-then-image : goal.returns-then-image
returns-then-image c =
    rw (of_unbounded (grid (goal.at.returns-then-image c).Start) c.if-image.true) (c.height_or_none.ensures ∙ sym (height_anywhere _ _))

pub returns-then-image-2 : goal.returns-then-image-2
returns-then-image-2 c =
    rw (of_bounded (grid (goal.at.returns-then-image-2 c).Start) c.if-image.false) (c.height_on.ensures ∙ sym (height_of_two _ _ c.if-image-2.true))
