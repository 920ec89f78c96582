-- `walks::walk_plane` meets its contract: rows of the image are rows of the plane.
use mathlib.Core.Path.{◌∙◌}
use Rattle.walks.proofs.Rows.{values_walked}
use Rattle.walks.proofs.Maxima.{plane_found}
use Rattle.walks.proofs.walk_plane.Goals as goal

pub returns : goal.returns
returns c = c.walk_rows.ensures ∙ values_walked _ _ _ ∙ plane_found _ _ _
