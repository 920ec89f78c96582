-- `grids::corrections_or_zero` meets its contract: outside the bounds zeros; in them question 9, then the values between the corners.
use Rattle.std.proofs.lemmas.Result.{err_from_is_err_and}
use mathlib.Core.Bool.{true}
use mathlib.Core.Path.{◌≡◌, refl, sym, ap, ◌∙◌}
use Rattle.rules.specs.Answers.{values, outcome_of}
use Rattle.rules.specs.Image.{Grid}
use Rattle.rules.specs.Lookup.{inside, corrections_or_zero}
use Rattle.image.specs.Fit.{grid_in}
use Rattle.lookup.specs.Held.{Bounded}
use Rattle.grids.specs.Grids.{correction_cell}
use Rattle.grids.proofs.OnGrids.{corrections_weighed, corrections_found}
use Rattle.grids.proofs.corrections_or_zero.Goals as goal
use Rattle.grids.proofs.corrections_or_zero.Goals.{Else-not-in_bounds, In_ok-c, Start}

abbrev grid : Start → Grid
grid s = grid_in s.args.image.now

pub returns-then-not-in_bounds : goal.returns-then-not-in_bounds
unfolding corrections_or_zero
returns-then-not-in_bounds c = rw (sym c.in_bounds.ensures ∙ c.if-not-in_bounds.true) refl

in_bounds : (c : Else-not-in_bounds) → inside c.args.image.now.layout.latitude.geometry c.args.p ≡ true
in_bounds c = sym c.in_bounds.ensures ∙ c.if-not-in_bounds.false

bounded : (c : Else-not-in_bounds) → Bounded c.args.image.now.layout.latitude.geometry c.args.p
bounded c = record { geometry = c.args.image.now.fits.latitude.geometry; point = in_bounds c }

pub cell_on-requires : goal.cell_on-requires
cell_on-requires c = bounded (goal.at.cell_on-requires c).Else-not-in_bounds

found : (c : In_ok-c) → let g = grid (goal.at.In_ok-c c).Start in
    correction_cell g.corrections g.latitude g.longitude c.args.p ≡ values c.in_ok-c.c
found c = sym c.cell_on.ensures ∙ ap outcome_of c.in_ok-c.was

pub corrections_between-requires : goal.corrections_between-requires
corrections_between-requires c =
    let g = grid (goal.at.corrections_between-requires c).Start in
    corrections_weighed g.latitude g.longitude (bounded (goal.at.corrections_between-requires c).Else-not-in_bounds)
    (found (goal.at.corrections_between-requires c).In_ok-c)

pub returns : goal.returns
unfolding corrections_or_zero
returns c =
    rw (
      in_bounds (goal.at.returns c).Else-not-in_bounds,
      ← corrections_found (grid (goal.at.returns c).Start) c.args.p,
      found (goal.at.returns c).In_ok-c,
    ) (ap values c.corrections_between.ensures)

pub returns-in_err-c : goal.returns-in_err-c
unfolding corrections_or_zero
returns-in_err-c c =
    let p = err_from_is_err_and c.from_residual.result c.from_residual.ensures.1 in
    rw (
      p.1,
      p.2,
      in_bounds (goal.at.returns-in_err-c c).Else-not-in_bounds,
      ← corrections_found (grid (goal.at.returns-in_err-c c).Start) c.args.p,
      sym c.cell_on.ensures ∙ ap outcome_of c.in_err-c.was,
    )
