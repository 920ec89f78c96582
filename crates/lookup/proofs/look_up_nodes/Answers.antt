-- `lookup::look_up_nodes` meets its contract: the values between the corners that passed question 9.
use Rattle.std.proofs.lemmas.Result.{err_from_is_err_and}
use mathlib.Core.Path.{sym, ap, ◌∙◌}
use Rattle.rules.specs.Answers.{values, number, outcome_of}
use Rattle.rules.proofs.Answers.{asked_no}
use Rattle.image.specs.Fit.{grid_in}
use Rattle.lookup.specs.declared.PointValues.{PointValues}
use Rattle.lookup.specs.Held.{values_in, values_found, node_lookup}
use Rattle.lookup.proofs.Covering.{bounded_in}
use Rattle.lookup.proofs.Found.{Passed, passed, node_values_lem}
use Rattle.lookup.proofs.look_up_nodes.Goals as goal
use Rattle.lookup.proofs.look_up_nodes.Goals.{In_ok-passing_cell}

-- what question 9 says of the cell
cell : (c : In_ok-passing_cell) → Passed (grid_in c.args.image.now) c.args.p c.in_ok-passing_cell.field-0
cell c =
    passed (grid_in c.args.image.now) c.args.p (bounded_in c.args.image.now c.requires.0) c.requires.1
    (sym c.passing_cell.ensures ∙ ap outcome_of c.in_ok-passing_cell.was)

pub values_between-requires : goal.values_between-requires
values_between-requires c = let k = cell (goal.at.values_between-requires c).In_ok-passing_cell in (k.corners, k.place)

pub returns : goal.returns
unfolding node_lookup
returns c =
    let k = cell (goal.at.returns c).In_ok-passing_cell in
    let g = grid_in c.args.image.now in
    rw k.answer
    (ap (λ (v : PointValues). values (values_found v))
    (c.values_between.ensures ∙ ap values_in (sym k.cell_is) ∙ node_values_lem g c.args.p c.requires.1))

pub returns-in_err-passing_cell : goal.returns-in_err-passing_cell
unfolding node_lookup
returns-in_err-passing_cell c =
    let p = err_from_is_err_and c.from_residual.result c.from_residual.ensures.1 in
    let t = asked_no _ 9 _ _ (sym c.passing_cell.ensures ∙ ap outcome_of c.in_err-passing_cell.was) in
    rw (p.1, p.2, t.0) (ap number t.1)
