-- The loop of `decimal::read_digits`: what is read of the bytes from the next on, behind n, is what all give.
use mathlib.Core.Path.{◌≡◌}
use Prim.Native.Nat.{◌≤◌}
use lib.ListN.{drop}
use Rattle.decimal.specs.Text.{digits_of}
use Rattle.decimal.proofs.Reading.{rest}
use Rattle.decimal.proofs.read_digits.Given as goal

abbrev pub invariant-loop-byte : goal.invariant-loop-byte
invariant-loop-byte l = (l.n ≤ l.most) × (digits_of l.most l.text ≡ rest l.most l.n (drop l.byte-index l.text))
