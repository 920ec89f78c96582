-- `floats::floored_size` meets its contract.
use Prim.Native.Nat.{◌-◌}
use Rattle.floats.specs.Sizes.{floored_size}
use Rattle.floats.proofs.Dividing.{times_one}
use Rattle.floats.proofs.floored_size.Goals as goal

pub returns : goal.returns
unfolding floored_size
returns c = let a = c.args in rw (c.from.ensures, times_one a.minus (a.d - 1))
