-- `marker::marker_grid_check` meets its contract: the findings of a passed check are small.
use mathlib.Core.Path.{sym, ap, ◌∙◌}
use Rattle.rules.specs.Answers.{outcome_of}
use Rattle.slopes.proofs.Asking.{passed_small}
use Rattle.marker.proofs.marker_grid_check.Goals as goal

pub map-requires : goal.map-requires
map-requires c f e = passed_small _ _ (sym c.grid_check.ensures ∙ ap outcome_of e)
