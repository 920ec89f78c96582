-- `walks::walk_corrections` meets its contract: rows of the image are rows of the planes.
use mathlib.Core.Path.{◌∙◌}
use Rattle.walks.proofs.Rows.{corrections_walked}
use Rattle.walks.proofs.Outcomes.{corrections_found}
use Rattle.walks.proofs.walk_corrections.Goals as goal

pub returns : goal.returns
returns c = c.walk_rows.ensures ∙ corrections_walked _ _ _ ∙ corrections_found _ _ _ _
