-- `verdicts::grids_judged` meets its contract: each return is one question's no, with the questions before it yes.
use mathlib.Core.Path.{◌≡◌}
use Rattle.std.proofs.Common.{rules, tests}
use Rattle.std.specs.List.{list_all}
use Rattle.std.proofs.lemmas.Iterator.{YieldsList-from_slice}
use Rattle.std.proofs.lemmas.Iterator.Search.{all_from_yields_List}
use Rattle.std.proofs.lemmas.Result.{err_from_is_err_and}
use Rattle.rules.specs.Questions.{question3, question4, question5}
use Rattle.verdicts.specs.Verdict.{judge_grids}
use Rattle.verdicts.proofs.Grids.{passed, stopped}
use Rattle.verdicts.proofs.grids_judged.Goals as goal
use Rattle.verdicts.proofs.grids_judged.Goals.{After-all, After-all-2, After-all-3}

-- each question, of all grids
counts : (c : After-all) → c.all.result ≡ list_all question3 c.args.grids.now
counts c =
    all_from_yields_List question3 _ _ _ c.all.ensures.ran (YieldsList-from_slice c.args.grids.now cc) (λ x b q k. search (rules, tests))

spacings : (c : After-all-2) → c.all-2.result ≡ list_all question4 c.args.grids.now
spacings c =
    all_from_yields_List question4 _ _ _ c.all-2.ensures.ran (YieldsList-from_slice c.args.grids.now cc) (λ x b q k. search (rules, tests))

bounds : (c : After-all-3) → c.all-3.result ≡ list_all question5 c.args.grids.now
bounds c =
    all_from_yields_List question5 _ _ _ c.all-3.ensures.ran (YieldsList-from_slice c.args.grids.now cc) (λ x b q k. search (rules, tests))

pub returns-in_err-ask-2 : goal.returns-in_err-ask-2
unfolding judge_grids
returns-in_err-ask-2 c =
    let at = goal.at.returns-in_err-ask-2 c in
    let r = c.from_residual-in_err-ask-2 in
    let p = err_from_is_err_and r.result r.ensures.1 in
    rw (p.1, p.2, ← counts at.After-all, ← spacings at.After-all-2, passed _ _ c.in_ok-ask.ensures)
    (stopped _ 4 _ _ c.in_err-ask-2.ensures)

pub returns : goal.returns
unfolding judge_grids
returns c =
    let at = goal.at.returns c in
    rw (
      ← counts at.After-all,
      ← spacings at.After-all-2,
      ← bounds at.After-all-3,
      passed _ _ c.in_ok-ask.ensures,
      passed _ _ c.in_ok-ask-2.ensures,
    ) c.ask-3.ensures
