-- `lookup::look_up_node_height` meets its contract: the value between the heights of the corners that passed question 9.
use Rattle.std.specs.Prelude.{Some}
use Rattle.std.proofs.lemmas.Result.{err_from_is_err_and}
use mathlib.Core.Path.{sym, ap, ◌∙◌}
use lib.IntN.{ℤ}
use mir.Syntax.{w64}
use Rattle.integers.specs.Machine.{told}
use Rattle.rules.specs.Answers.{values, number, outcome_of}
use Rattle.rules.specs.Bilinear.{value_at}
use Rattle.rules.specs.Lookup.{height_lookup}
use Rattle.rules.proofs.Answers.{asked_no}
use Rattle.image.specs.Fit.{grid_in}
use Rattle.lookup.specs.declared.PointValues.{PointValues}
use Rattle.lookup.specs.Held.{value_in, values_in}
use Rattle.lookup.proofs.Covering.{bounded_in}
use Rattle.lookup.proofs.Found.{Passed, passed, passing_corners, heights_within, node_values_lem}
use Rattle.lookup.proofs.look_up_node_height.Goals as goal
use Rattle.lookup.proofs.look_up_node_height.Goals.{In_ok-cell}

-- what question 9 says of the cell
cell : (c : In_ok-cell) → Passed (grid_in c.args.image.now) c.args.p c.in_ok-cell.cell
cell c =
    passed (grid_in c.args.image.now) c.args.p (bounded_in c.args.image.now c.requires.0) c.requires.1
    (sym c.passing_cell.ensures ∙ ap outcome_of c.in_ok-cell.was)

pub value_between-requires : goal.value_between-requires
value_between-requires c =
    let k = cell (goal.at.value_between-requires c).In_ok-cell in (heights_within (passing_corners k.corners).height, k.place)

pub returns : goal.returns
unfolding height_lookup value_in
returns c =
    let k = cell (goal.at.returns c).In_ok-cell in
    let g = grid_in c.args.image.now in
    let same = c.args.image.now.fits.height_geometry c.requires.1 in
    rw k.answer
    (ap (λ (z : ℤ). values (Some z)) (told w64 c.value_between.type_inv c.value_between.ensures
    ∙ ap (λ (v : PointValues). v.height) (ap values_in (sym k.cell_is) ∙ node_values_lem g c.args.p c.requires.1)
    ∙ (λ i. value_at (sym same i) g.height c.args.p)))

pub returns-in_err-cell : goal.returns-in_err-cell
unfolding height_lookup
returns-in_err-cell c =
    let p = err_from_is_err_and c.from_residual.result c.from_residual.ensures.1 in
    let t = asked_no _ 9 _ _ (sym c.passing_cell.ensures ∙ ap outcome_of c.in_err-cell.was) in
    rw (p.1, p.2, t.0) (ap number t.1)
