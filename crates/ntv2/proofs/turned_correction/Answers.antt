-- `ntv2::turned_correction` meets its contract: the bits whose sign was turned are those of the opposite value.
use mathlib.Core.Path.{sym, ◌∙◌}
use Rattle.ntv2.proofs.Shifts.{turned_fits_lem}
use Rattle.ntv2.proofs.turned_correction.Goals as goal

pub fit_correction-requires : goal.fit_correction-requires
fit_correction-requires c = sym (turned_fits_lem _ _ c.turned.ensures) ∙ c.requires.1
