-- `image::open` meets its contract: an image that opens is fit with the layout that was found.
use Rattle.std.proofs.Common.{rules}
use Rattle.rules.proofs.Opening.{opened}
use Rattle.image.proofs.open.Goals as goal

pub invariant_of-result : goal.invariant_of-result
invariant_of-result c = record { fits = opened _ _ (search rules) }
