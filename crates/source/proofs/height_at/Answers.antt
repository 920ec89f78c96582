-- `source::height_at` meets its contract: by whether the heights stand on a separate grid.
use mathlib.Core.Path.{sym, ◌∙◌}
use Rattle.source.proofs.Sources.{height_of_two}
use Rattle.source.proofs.height_at.Goals as goal

pub returns-then-image : goal.returns-then-image
returns-then-image c = c.height_on.ensures ∙ sym (height_of_two _ _ c.if-image.true)
