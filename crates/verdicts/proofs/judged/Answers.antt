-- `verdicts::judged` meets its contract: the edition, the grid's questions and the bytes, in this order.
use Rattle.std.proofs.lemmas.Result.{err_from_is_err_and}
use Rattle.rules.specs.Questions.{question3}
use Rattle.verdicts.proofs.Grids.{grid_of_one, judge_is, passed, stopped, last, grids_pass, of_one_pass}
use Rattle.verdicts.proofs.judged.Goals as goal

pub returns-in_err-ask : goal.returns-in_err-ask
returns-in_err-ask c =
    let p = err_from_is_err_and c.from_residual.result c.from_residual.ensures.1 in
    rw (p.1, p.2, judge_is) (stopped _ 2 _ _ c.in_err-ask.ensures)

pub returns-in_err-grids_judged : goal.returns-in_err-grids_judged
returns-in_err-grids_judged c =
    let r = c.from_residual-in_err-grids_judged in
    let p = err_from_is_err_and r.result r.ensures.1 in
    rw (p.1, p.2, judge_is, passed _ _ c.in_ok-ask.ensures, ← c.in_err-grids_judged.ensures)

pub bytes_pass-requires : goal.bytes_pass-requires
bytes_pass-requires c = of_one_pass question3 c.args.t (grids_pass (grid_of_one c.args.t) c.in_ok-grids_judged.ensures).0

pub returns : goal.returns
returns c =
    rw (judge_is, passed _ _ c.in_ok-ask.ensures, ← c.in_ok-grids_judged.ensures)
    (last _ _ _ 6 _ c.ask-2.ensures c.bytes_pass.ensures)
