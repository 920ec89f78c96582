-- `marker::marker_heights_from_vdatum` meets its contract: the geometry of a converted file passes, so its numbers are small.
use mathlib.Core.Path.{sym, ap, ◌∙◌}
use Rattle.rules.specs.Answers.{outcome_of}
use Rattle.rules.proofs.Files.{passes_small}
use Rattle.vdatum.proofs.Header.{converted_passes}
use Rattle.marker.proofs.marker_heights_from_vdatum.Goals as goal

pub map-requires : goal.map-requires
map-requires c g e = passes_small g (converted_passes _ _ g (sym c.heights_from_vdatum.ensures.answer ∙ ap outcome_of e))
