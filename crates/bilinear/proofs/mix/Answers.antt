-- `bilinear::mix` meets its contract: each product is at most the mix, and the mix fits.
use native.Mathlib.Omega.{arith}
use Rattle.bilinear.proofs.Mixes.{mix_fits}
use Rattle.bilinear.proofs.mix.Goals as goal

pub overflow_add-result : goal.overflow_add-result
overflow_add-result c = omega (arith, mix_fits c.requires)
