-- `walks::walk_nodes` meets its contract: rows of the image are rows of the layout's planes.
use mathlib.Core.Path.{◌∙◌}
use Rattle.walks.proofs.Rows.{nodes_walked}
use Rattle.walks.proofs.Outcomes.{grid_found}
use Rattle.walks.proofs.walk_nodes.Goals as goal

pub returns : goal.returns
returns c = c.walk_rows.ensures ∙ nodes_walked _ c.args.image.now.layout ∙ grid_found _ c.args.image.now.layout c.requires
