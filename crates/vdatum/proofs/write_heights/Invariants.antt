-- The invariant of `vdatum::write_heights`: the first n nodes are written.
use mathlib.Core.List.{List}
use Prim.Native.Nat.{ℕ}
use Rattle.rules.specs.Vdatum.{height_of}
use Rattle.rules.specs.Files.{bytes_of}
use Rattle.rules.proofs.Buffer.{Written}
use Rattle.vdatum.proofs.write_heights.Given as goal

-- the bytes of a height
abbrev pub height_bytes_at : List ℕ → ℕ → List ℕ
height_bytes_at b n = bytes_of (height_of b n)

abbrev pub invariant-loop-n : goal.invariant-loop-n
invariant-loop-n l = Written 4 (height_bytes_at l.file) l.nodes l.n
