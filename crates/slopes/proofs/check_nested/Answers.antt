-- `slopes::check_nested` meets its contract: each return is one question's no, with the questions before it yes.
use mathlib.Core.Bool.{Bool, ◌&&◌}
use mathlib.Core.Path.{◌≡◌, refl, sym, ap, ◌∙◌}
use Rattle.std.proofs.lemmas.Result.{err_from_is_err_and}
use Rattle.rules.specs.Answers.{values, number, ask, outcome_of}
use Rattle.rules.specs.Image.{Grid}
use Rattle.rules.specs.Check.{dense_passes, dense_slopes_pass, question21, check}
use Rattle.image.specs.Fit.{grid_in}
use Rattle.slopes.specs.Slopes.{slopes_pass}
use Rattle.slopes.proofs.Asking.{limited, nested_left, found_small, dense_walk, DenseWalked, dense_walked, dense_stopped, layout_passes}
use Rattle.slopes.proofs.check_nested.Goals as goal
use Rattle.slopes.proofs.check_nested.Goals.{After-nested_slopes_pass, After-ok_or, Else-not-nested_slopes_pass, In_ok-dense}
use Rattle.slopes.proofs.check_nested.Goals.{Start}

abbrev grid : Start → Grid
grid s = grid_in s.args.image.now

-- what the walk found, in terms of the grid, or the refusal of question 9
walked : (c : After-ok_or) → dense_walk (grid (goal.at.After-ok_or c).Start) ≡ outcome_of c.ok_or.result
walked c = sym (limited _ c.ok_or.ensures.value ∙ (rw c.beside-longitude.ensures at c.walk_corrections.ensures))

found : (c : In_ok-dense) → DenseWalked (grid (goal.at.In_ok-dense c).Start) c.in_ok-dense.dense
found c = dense_walked _ _ (walked (goal.at.In_ok-dense c).After-ok_or ∙ ap outcome_of c.in_ok-dense.was)

pub nested_slopes_pass-requires : goal.nested_slopes_pass-requires
nested_slopes_pass-requires c =
    let o = c.args.image.now.fits in
    let f = found c in
    (layout_passes o, o.dense.geometry, found_small _ _ c.requires.1, f.latitude_most, f.longitude_most)

-- the questions that are left, after the walk and after question 12
left : (s : Start) → let g = grid s in
    check g
    ≡ ask (dense_passes g) 9 (ask (slopes_pass s.args.image.now.layout s.args.coarse && dense_slopes_pass g) 12
    (ask (question21 g) 21 (values s.args.coarse)))
left s = nested_left _ s.args.image.now.fits s.requires.1 s.requires.0

slopes : (c : After-nested_slopes_pass) → let s = (goal.at.After-nested_slopes_pass c).Start in
    (slopes_pass s.args.image.now.layout s.args.coarse && dense_slopes_pass (grid s)) ≡ c.nested_slopes_pass.result
slopes c =
    let coarse = slopes_pass c.args.image.now.layout c.args.coarse in
    ap (λ (t : Bool). coarse && t) (found (goal.at.After-nested_slopes_pass c).In_ok-dense).slopes ∙ sym c.nested_slopes_pass.ensures

border_left : (c : Else-not-nested_slopes_pass) → let s = (goal.at.Else-not-nested_slopes_pass c).Start in
    check (grid s) ≡ ask (question21 (grid s)) 21 (values s.args.coarse)
border_left c =
    let at = goal.at.Else-not-nested_slopes_pass c in
    rw (left at.Start, (found at.In_ok-dense).passes, slopes at.After-nested_slopes_pass ∙ c.if-not-nested_slopes_pass.false)

pub returns-in_err-dense : goal.returns-in_err-dense
returns-in_err-dense c =
    let at = goal.at.returns-in_err-dense c in
    let stopped = dense_stopped (grid at.Start) (walked at.After-ok_or ∙ ap outcome_of c.in_err-dense.was) in
    let p = err_from_is_err_and c.from_residual.result c.from_residual.ensures.1 in
    rw (p.1, p.2, left at.Start, stopped.0) (ap number stopped.1)

pub returns-then-not-nested_slopes_pass : goal.returns-then-not-nested_slopes_pass
returns-then-not-nested_slopes_pass c =
    let at = goal.at.returns-then-not-nested_slopes_pass c in
    rw (left at.Start, (found at.In_ok-dense).passes, slopes at.After-nested_slopes_pass ∙ c.if-not-nested_slopes_pass.true) refl

pub returns-then-not-border_agrees : goal.returns-then-not-border_agrees
returns-then-not-border_agrees c =
    rw (
      border_left (goal.at.returns-then-not-border_agrees c).Else-not-nested_slopes_pass,
      sym c.border_agrees.ensures
          ∙ c.if-not-border_agrees.true,
    ) refl

pub returns : goal.returns
returns c =
    rw (border_left (goal.at.returns c).Else-not-nested_slopes_pass, sym c.border_agrees.ensures ∙ c.if-not-border_agrees.false) refl
