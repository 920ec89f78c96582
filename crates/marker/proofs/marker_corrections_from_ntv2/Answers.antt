-- `marker::marker_corrections_from_ntv2` meets its contract: the numbers of a converted file's geometries are small.
use mathlib.Core.Path.{sym, ap, ◌∙◌, subst}
use Rattle.rules.specs.Answers.{outcome_of}
use Rattle.rules.specs.Limits.{BothHandedBack}
use Rattle.ntv2.proofs.Passing.{converted_small}
use Rattle.marker.proofs.marker_corrections_from_ntv2.Goals as goal

pub map-requires : goal.map-requires
map-requires c g e = subst BothHandedBack (sym c.corrections_from_ntv2.ensures.answer ∙ ap outcome_of e) (converted_small _ _ _)
