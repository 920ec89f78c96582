-- `fixes::convert_all` meets its contract: each turn writes the five numbers of its fix.
use mathlib.Core.Path.{◌≡◌, ap, ◌∙◌}
use Prim.Native.Nat.{◌/◌}
use native.Mathlib.Omega.{arith}
use Rattle.std.proofs.Common.{rules}
use lib.IntN.{ℤ}
use lib.ListN.{length, get_or, length-take, length-drop}
use mathlib.Core.List.{List, []}
use Rattle.rules.specs.declared.Fix.{Fix}
use Rattle.image.specs.Fit.{grid_in}
use Rattle.rules.specs.Ways.{source_of, convert_over, answer_of}
use Rattle.fixes.specs.Fix.{fix_of, at_fix}
use Rattle.fixes.proofs.Counts.{count_fits}
use Rattle.fixes.proofs.Lengths.{same_n}
use Rattle.fixes.proofs.Answers.{written_none, written_more, written_all, chunk_is}
use Rattle.fixes.proofs.convert_all.Goals as goal
use Rattle.fixes.proofs.convert_all.Goals.{After-convert_over-answer}

pub loop-k-init : goal.loop-k-init
loop-k-init c = let n = same_n _ _ c.requires in (omega (arith, n), written_none _ _ _ _ (omega arith))

pub write_answer-requires : goal.write_answer-requires
write_answer-requires c = (simp (length-take, length-drop) (omega arith), count_fits _ _ _ _ _ c.convert_over-answer.ensures)

-- the answer that this turn writes is that of fix k
answer_is : (c : After-convert_over-answer) →
    let s = c.args in
    answer_of c.convert_over-answer.result ≡ at_fix (convert_over s.way (source_of (grid_in s.image.now))) s.fixes.now c.loop-k.k
answer_is c =
    let s = c.args in
    let n = same_n _ _ c.requires in
    let chunk = chunk_is s.fixes.now (length s.fixes.now / 3) c.loop-k.k n.0 (omega arith) in
    let fix = c.fix_of.ensures ∙ ap (λ (l : List (List ℤ)). fix_of (get_or l c.loop-k.k [])) c.as_chunks.ensures.front ∙ chunk in
    c.convert_over-answer.ensures ∙ ap (λ (f : Fix). convert_over s.way (source_of (grid_in s.image.now)) f.point f.height) fix

pub loop-k-preserved : goal.loop-k-preserved
loop-k-preserved c =
    let l = c.loop-k in
    let n = same_n _ _ c.requires in
    let answer = answer_is (goal.at.loop-k-preserved c).After-convert_over-answer in
    let written = c.write_answer.ensures in
    (search rules, written_more _ _ _ _ _ _ _ _ (omega (arith, n)) (omega arith) written answer l.invariant.1)

pub returns : goal.returns
returns c =
    let l = c.loop-k in
    let q = same_n _ _ c.requires in
    let e : l.k ≡ length c.args.fixes.now / 3 = omega arith in
    written_all _ _ _ _ q.0 (omega (arith, q)) (rw e at l.invariant.1)
