-- The loop of `streams::read_full`: the buffer keeps its length, the bytes that are there stand within it, and they are the input's first.
use Rattle.std.proofs.Common.{length, ◌-◌, ◌≡◌, take}
use Rattle.std.specs.Counts.{IsPrefixLen}
use Rattle.std.specs.Io.KnownBytes.{Consumes}
use Rattle.streams.proofs.read_full.Given as goal

abbrev pub invariant-loop-size : goal.invariant-loop-size
invariant-loop-size g l =
    (length l.buffer ≡ length l.initial.buffer)
    × IsPrefixLen l.size l.buffer
    × Consumes (g.R.Read.remaining l.initial.stdin) (g.R.Read.remaining l.stdin) (take l.size l.buffer)

abbrev pub decreases-loop-size : goal.decreases-loop-size
decreases-loop-size g l = length l.initial.buffer - l.size
