-- The loop of `fixes::convert_all`: there is room for five numbers for each fix, and the first k answers are written.
use Rattle.std.proofs.Common.{◌≡◌, ◌*◌, length}
use Rattle.image.specs.Fit.{grid_in}
use Rattle.rules.specs.Ways.{source_of, convert_over}
use Rattle.fixes.proofs.Answers.{Written}
use Rattle.fixes.proofs.convert_all.Given as goal

abbrev pub invariant-loop-k : goal.invariant-loop-k
invariant-loop-k l =
    (length l.answers ≡ 5 * length l.threes) × Written (convert_over l.way (source_of (grid_in l.image))) l.fixes l.answers l.k
