-- `verdicts::judged_two` meets its contract: the kind, the questions of both grids and the bytes, in this order.
use Rattle.std.proofs.lemmas.Result.{err_from_is_err_and}
use Rattle.rules.specs.Questions.{question3}
use Rattle.verdicts.proofs.Grids.{grids_of_two, judge_two_is, passed, stopped, last, grids_pass, of_both_pass}
use Rattle.verdicts.proofs.judged_two.Goals as goal

pub returns-in_err-ask : goal.returns-in_err-ask
returns-in_err-ask c =
    let p = err_from_is_err_and c.from_residual.result c.from_residual.ensures.1 in
    rw (p.1, p.2, judge_two_is, ← c.kind_passes.ensures) (stopped _ 2 _ _ c.in_err-ask.ensures)

pub returns-in_err-grids_judged : goal.returns-in_err-grids_judged
returns-in_err-grids_judged c =
    let r = c.from_residual-in_err-grids_judged in
    let p = err_from_is_err_and r.result r.ensures.1 in
    rw (p.1, p.2, judge_two_is, ← c.kind_passes.ensures, passed _ _ c.in_ok-ask.ensures, ← c.in_err-grids_judged.ensures)

pub backs_pass-requires : goal.backs_pass-requires
backs_pass-requires c = of_both_pass question3 c.args.t (grids_pass (grids_of_two c.args.t) c.in_ok-grids_judged.ensures).0

pub returns : goal.returns
returns c =
    rw (judge_two_is, ← c.kind_passes.ensures, passed _ _ c.in_ok-ask.ensures, ← c.in_ok-grids_judged.ensures)
    (last _ _ _ 6 _ c.ask-2.ensures c.backs_pass.ensures)
