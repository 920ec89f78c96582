-- `grids::look_up_grids` meets its contract: the corners on each grid as they were answered, and the values between them.
use Rattle.std.proofs.lemmas.Result.{err_from_is_err_and}
use mathlib.Core.Path.{◌≡◌, sym, ap, ◌∙◌}
use Rattle.rules.specs.Answers.{values, outcome_of}
use Rattle.rules.specs.Image.{Grid}
use Rattle.rules.specs.Lookup.{grid_for}
use Rattle.image.specs.Fit.{grid_in}
use Rattle.lookup.specs.declared.PointValues.{PointValues}
use Rattle.lookup.specs.Held.{values_found}
use Rattle.lookup.proofs.Covering.{serves, open_around}
use Rattle.grids.specs.Grids.{correction_cell_for, height_cell, grids_lookup}
use Rattle.grids.proofs.OnGrids.{corrections_weighed, heights_asked}
use Rattle.grids.proofs.look_up_grids.Goals as goal
use Rattle.grids.proofs.look_up_grids.Goals.{In_ok-c, In_ok-h, Start}

abbrev grid : Start → Grid
grid s = grid_in s.args.image.now

-- the corners of the corrections, and of the heights
corrected : (c : In_ok-c) → correction_cell_for (grid (goal.at.In_ok-c c).Start) c.args.p ≡ values c.in_ok-c.c
corrected c = sym c.correction_cell.ensures ∙ ap outcome_of c.in_ok-c.was

heights : (c : In_ok-h) → let g = grid (goal.at.In_ok-h c).Start in height_cell g.heights g.height c.args.p ≡ values c.in_ok-h.h
heights c = sym c.height_cell.ensures ∙ ap outcome_of c.in_ok-h.was

pub values_on-requires : goal.values_on-requires
unfolding correction_cell_for
values_on-requires c =
    let g = grid (goal.at.values_on-requires c).Start in
    let f = grid_for g c.args.p in
    let i = c.args.image.now in
    let b = (serves i.bytes.now i.layout c.args.p (open_around i c.requires)).bounded in (
      corrections_weighed f.latitude f.longitude b (corrected (goal.at.values_on-requires c).In_ok-c),
      heights_asked g.height c.args.p i.fits.height.geometry (heights (goal.at.values_on-requires c).In_ok-h),
    )

pub returns : goal.returns
unfolding grids_lookup
returns c =
    rw (corrected (goal.at.returns c).In_ok-c, heights (goal.at.returns c).In_ok-h)
    (ap (λ (v : PointValues). values (values_found v)) c.values_on.ensures)

pub returns-in_err-c : goal.returns-in_err-c
unfolding grids_lookup
returns-in_err-c c =
    let p = err_from_is_err_and c.from_residual.result c.from_residual.ensures.1 in
    rw (p.1, p.2, sym c.correction_cell.ensures ∙ ap outcome_of c.in_err-c.was)

pub returns-in_err-h : goal.returns-in_err-h
unfolding grids_lookup
returns-in_err-h c =
    let r = c.from_residual-in_err-h in
    let p = err_from_is_err_and r.result r.ensures.1 in
    rw (p.1, p.2, corrected (goal.at.returns-in_err-h c).In_ok-c, sym c.height_cell.ensures ∙ ap outcome_of c.in_err-h.was)
