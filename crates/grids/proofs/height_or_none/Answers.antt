-- `grids::height_or_none` meets its contract: off the height grid there is none; on it question 9, then the value between the corners.
use Rattle.std.specs.Prelude.{Some}
use Rattle.std.proofs.lemmas.Result.{err_from_is_err_and}
use mathlib.Core.Bool.{true}
use mathlib.Core.Path.{◌≡◌, sym, ap, ◌∙◌}
use lib.IntN.{ℤ}
use mir.Syntax.{w64}
use Rattle.integers.specs.Machine.{told}
use Rattle.rules.specs.Answers.{values, outcome_of}
use Rattle.rules.specs.Image.{plane}
use Rattle.rules.specs.Lookup.{inside}
use Rattle.grids.specs.Grids.{asked_height}
use Rattle.grids.proofs.OnGrids.{heights_weighed, height_found}
use Rattle.grids.proofs.height_or_none.Goals as goal
use Rattle.grids.proofs.height_or_none.Goals.{Else-not-in_bounds, In_ok-h}

on_grid : (c : Else-not-in_bounds) → inside c.args.p.geometry c.args.q ≡ true
on_grid c = sym c.in_bounds.ensures ∙ c.if-not-in_bounds.false

found : (c : In_ok-h) → let s = c.args in asked_height s.p.geometry (plane s.image.now s.p) s.q ≡ values c.in_ok-h.h
found c = sym c.height_cell_inside.ensures ∙ ap outcome_of c.in_ok-h.was

pub height_cell_inside-requires : goal.height_cell_inside-requires
height_cell_inside-requires c =
    (c.requires, record { geometry = c.requires.geometry; point = on_grid (goal.at.height_cell_inside-requires c).Else-not-in_bounds })

pub height_between-requires : goal.height_between-requires
height_between-requires c =
    let s = c.args in
    let on = on_grid (goal.at.height_between-requires c).Else-not-in_bounds in
    heights_weighed (plane s.image.now s.p) s.q (record { geometry = c.requires.geometry; point = on })
    (found (goal.at.height_between-requires c).In_ok-h)

pub returns : goal.returns
returns c =
    let s = c.args in
    let on = on_grid (goal.at.returns c).Else-not-in_bounds in
    rw (on, ← height_found s.p.geometry (plane s.image.now s.p) s.q on, found (goal.at.returns c).In_ok-h)
    (ap (λ (z : ℤ). values (Some z)) (told w64 c.height_between.type_inv c.height_between.ensures))

pub returns-in_err-h : goal.returns-in_err-h
returns-in_err-h c =
    let s = c.args in
    let p = err_from_is_err_and c.from_residual.result c.from_residual.ensures.1 in
    let on = on_grid (goal.at.returns-in_err-h c).Else-not-in_bounds in
    rw (
      p.1,
      p.2,
      on,
      ← height_found s.p.geometry (plane s.image.now s.p) s.q on,
      sym c.height_cell_inside.ensures ∙ ap outcome_of c.in_err-h.was,
    )
