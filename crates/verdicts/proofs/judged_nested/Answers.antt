-- `verdicts::judged_nested` meets its contract: the questions of all grids, the bytes and question 20, in this order.
use Rattle.std.proofs.lemmas.Result.{err_from_is_err_and}
use Rattle.rules.specs.Questions.{question3, question4, question5}
use Rattle.rules.proofs.Opening.{all_pass_lem}
use Rattle.verdicts.proofs.Grids.{grids_nested, judge_nested_is, passed, stopped, last, grids_pass, of_all_pass}
use Rattle.verdicts.proofs.judged_nested.Goals as goal

pub returns-in_err-grids_judged : goal.returns-in_err-grids_judged
returns-in_err-grids_judged c =
    let p = err_from_is_err_and c.from_residual.result c.from_residual.ensures.1 in
    rw (p.1, p.2, judge_nested_is, ← c.in_err-grids_judged.ensures)

pub all_backs_pass-requires : goal.all_backs_pass-requires
all_backs_pass-requires c =
    of_all_pass question3 c.args.d c.args.t (grids_pass (grids_nested c.args.d c.args.t) c.in_ok-grids_judged.ensures).0

pub returns-in_err-ask : goal.returns-in_err-ask
returns-in_err-ask c =
    let p = err_from_is_err_and c.from_residual-in_err-ask.result c.from_residual-in_err-ask.ensures.1 in
    rw (p.1, p.2, judge_nested_is, ← c.in_ok-grids_judged.ensures, ← c.all_backs_pass.ensures) (stopped _ 6 _ _ c.in_err-ask.ensures)

-- each grid passes 3 to 5, whichever is asked: of that it is said in the results
pub is_aligned-requires : goal.is_aligned-requires
is_aligned-requires c =
    let d = c.args.d in
    let t = c.args.t in
    let each = grids_pass (grids_nested d t) c.in_ok-grids_judged.ensures in
    let all =
    all_pass_lem d t (of_all_pass question3 d t each.0) (of_all_pass question4 d t each.1) (of_all_pass question5 d t each.2) in
    search (all.0.0, all.1)

pub returns : goal.returns
returns c =
    rw (judge_nested_is, ← c.in_ok-grids_judged.ensures, ← c.all_backs_pass.ensures, passed _ _ c.in_ok-ask.ensures)
    (last _ _ _ 20 _ c.ask-2.ensures c.is_aligned.ensures)
