-- `planes::copy_bytes` meets its contract. The invariant: the first n bytes are copied.
use mathlib.Core.Path.{◌≡◌}
use lib.ListN.{length, take}
use Rattle.planes.proofs.copy_bytes.Given as goal

abbrev pub invariant-loop-n : goal.invariant-loop-n
invariant-loop-n l = (length l.to ≡ length l.from) × (take l.n l.to ≡ take l.n l.from)
