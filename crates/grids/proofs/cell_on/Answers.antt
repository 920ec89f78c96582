-- `grids::cell_on` meets its contract: question 9 as its test answered, of the corners of the point's cell.
use mathlib.Core.Path.{◌≡◌, sym, ap, ◌∙◌}
use Rattle.rules.specs.Answers.{values}
use Rattle.lookup.specs.declared.Placed.{Placed}
use Rattle.grids.specs.declared.CorrectionSquares.{CorrectionSquares}
use Rattle.grids.specs.Grids.{squares_pass, placed_squares_of, correction_cell}
use Rattle.grids.proofs.cell_on.Goals as goal
use Rattle.grids.proofs.cell_on.Goals.{After-squares_pass, Start}

abbrev cell : Start → Placed CorrectionSquares
cell s = placed_squares_of s.args.image.now s.args.dense s.args.p

asked : (c : After-squares_pass) → c.squares_pass.result ≡ squares_pass (cell (goal.at.After-squares_pass c).Start).corners
asked c = c.squares_pass.ensures ∙ ap (λ (k : Placed CorrectionSquares). squares_pass k.corners) c.placed_on-cell.ensures

pub returns-then-squares_pass : goal.returns-then-squares_pass
unfolding correction_cell
returns-then-squares_pass c =
    rw (sym (asked (goal.at.returns-then-squares_pass c).After-squares_pass) ∙ c.if-squares_pass.true) (ap values c.placed_on-cell.ensures)

pub returns-else-squares_pass : goal.returns-else-squares_pass
unfolding correction_cell
returns-else-squares_pass c =
    rw (sym (asked (goal.at.returns-else-squares_pass c).After-squares_pass) ∙ c.if-squares_pass.false)
