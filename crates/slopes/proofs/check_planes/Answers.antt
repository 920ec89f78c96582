-- `slopes::check_planes` meets its contract: the walk decides question 9, and after it the steps are small enough to put question 12.
use mathlib.Core.Path.{◌≡◌, sym, ap, ◌∙◌}
use Rattle.std.proofs.lemmas.Result.{err_from_is_err_and}
use Rattle.rules.specs.Answers.{values, ask, outcome_of}
use Rattle.rules.specs.Image.{Grid}
use Rattle.rules.specs.Check.{question22, where_unbounded, check}
use Rattle.rules.proofs.Answers.{answered_yes, answered_no}
use Rattle.image.specs.Fit.{grid_in}
use Rattle.walks.specs.Rows.{grid_walk}
use Rattle.slopes.specs.Slopes.{slopes_pass}
use Rattle.slopes.proofs.Asking.{limited, none_left, plain_left, found_small, layout_passes}
use Rattle.slopes.proofs.check_planes.Goals as goal
use Rattle.slopes.proofs.check_planes.Goals.{After-ok_or, Else-image, Else-not-border_passes, In_ok-found, Start}

abbrev grid : Start → Grid
grid s = grid_in s.args.image.now

-- what the walk found, or the refusal of question 9
walked : (c : After-ok_or) → grid_walk (grid (goal.at.After-ok_or c).Start) ≡ outcome_of c.ok_or.result
walked c = sym (limited _ c.ok_or.ensures.value ∙ c.walk_planes.ensures)

-- a walk that came through with the steps found
found : (c : In_ok-found) → grid_walk (grid (goal.at.In_ok-found c).Start) ≡ values c.in_ok-found.found
found c = walked (goal.at.In_ok-found c).After-ok_or ∙ ap outcome_of c.in_ok-found.was

pub returns-in_err-found : goal.returns-in_err-found
returns-in_err-found c =
    let at = goal.at.returns-in_err-found c in
    let p = err_from_is_err_and c.from_residual.result c.from_residual.ensures.1 in
    rw (p.1, p.2) (sym (none_left (grid at.Start) (walked at.After-ok_or ∙ ap outcome_of c.in_err-found.was)))

pub check_nested-requires : goal.check_nested-requires
check_nested-requires c = (c.if-image.true, found (goal.at.check_nested-requires c).In_ok-found)

pub slopes_pass-requires : goal.slopes_pass-requires
slopes_pass-requires c =
    (layout_passes c.args.image.now.fits, found_small _ _ (found (goal.at.slopes_pass-requires c).In_ok-found))

-- the check that it leaves without a dense grid, and what question 22 leaves of that
left : (c : Else-image) → let g = grid (goal.at.Else-image c).Start in
    let found = c.in_ok-found.found in
    check g ≡ ask (where_unbounded g (question22 g)) 22 (ask (slopes_pass c.args.image.now.layout found) 12 (values found))
left c = plain_left _ c.args.image.now.fits (found (goal.at.Else-image c).In_ok-found) c.if-image.false

slopes_left : (c : Else-not-border_passes) → let found = c.in_ok-found.found in
    check (grid (goal.at.Else-not-border_passes c).Start) ≡ ask (slopes_pass c.args.image.now.layout found) 12 (values found)
slopes_left c =
    left (goal.at.Else-not-border_passes c).Else-image ∙ answered_yes _ 22 _ (sym c.border_passes.ensures ∙ c.if-not-border_passes.false)

pub returns-then-not-border_passes : goal.returns-then-not-border_passes
returns-then-not-border_passes c =
    sym (left (goal.at.returns-then-not-border_passes c).Else-image
    ∙ answered_no _ 22 _ (sym c.border_passes.ensures ∙ c.if-not-border_passes.true))

pub returns-then-slopes_pass : goal.returns-then-slopes_pass
returns-then-slopes_pass c =
    rw (slopes_left (goal.at.returns-then-slopes_pass c).Else-not-border_passes, sym c.slopes_pass.ensures ∙ c.if-slopes_pass.true)

pub returns-else-slopes_pass : goal.returns-else-slopes_pass
returns-else-slopes_pass c =
    rw (slopes_left (goal.at.returns-else-slopes_pass c).Else-not-border_passes, sym c.slopes_pass.ensures ∙ c.if-slopes_pass.false)
