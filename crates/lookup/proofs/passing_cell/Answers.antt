-- `lookup::passing_cell` meets its contract: the corners of the point's cell answer question 9.
use mathlib.Core.Path.{◌≡◌, sym, ap, ◌∙◌}
use Rattle.rules.specs.Lookup.{question9}
use Rattle.rules.specs.Answers.{values}
use Rattle.rules.proofs.Answers.{answered_yes, answered_no}
use Rattle.image.specs.Fit.{grid_in}
use Rattle.lookup.specs.Held.{corners_pass}
use Rattle.lookup.specs.declared.CellCorners.{CellCorners}
use Rattle.lookup.specs.declared.Placed.{Placed}
use Rattle.lookup.proofs.Found.{node_asked}
use Rattle.lookup.proofs.passing_cell.Goals as goal
use Rattle.lookup.proofs.passing_cell.Goals.{After-corners_pass}

asked : (c : After-corners_pass) → c.corners_pass.result ≡ question9 (grid_in c.args.image.now) c.args.p
asked c =
    c.corners_pass.ensures
    ∙ ap (λ (k : Placed CellCorners). corners_pass k.corners) c.placed_cell-cell.ensures
    ∙ node_asked (grid_in c.args.image.now) c.args.p c.requires.1

pub returns-then-not-corners_pass : goal.returns-then-not-corners_pass
returns-then-not-corners_pass c =
    sym (answered_no (question9 (grid_in c.args.image.now) c.args.p) 9 _
    (sym (asked (goal.at.returns-then-not-corners_pass c).After-corners_pass) ∙ c.if-not-corners_pass.true))

pub returns : goal.returns
returns c =
    ap values c.placed_cell-cell.ensures
    ∙ sym (answered_yes (question9 (grid_in c.args.image.now) c.args.p) 9 _
    (sym (asked (goal.at.returns c).After-corners_pass) ∙ c.if-not-corners_pass.false))
