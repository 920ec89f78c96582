-- `grids::height_cell` meets its contract: question 15 as its test answered, and then question 9.
use mathlib.Core.Path.{sym, ◌∙◌}
use Rattle.grids.specs.Grids.{height_cell}
use Rattle.grids.proofs.height_cell.Goals as goal

pub returns-then-not-in_bounds : goal.returns-then-not-in_bounds
unfolding height_cell
returns-then-not-in_bounds c = rw (sym c.in_bounds.ensures ∙ c.if-not-in_bounds.true)

pub height_cell_inside-requires : goal.height_cell_inside-requires
height_cell_inside-requires c =
    (c.requires, record { geometry = c.requires.geometry; point = sym c.in_bounds.ensures ∙ c.if-not-in_bounds.false })

pub returns : goal.returns
unfolding height_cell
returns c = rw (sym c.in_bounds.ensures ∙ c.if-not-in_bounds.false) c.height_cell_inside.ensures
