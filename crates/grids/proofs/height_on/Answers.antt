-- `grids::height_on` meets its contract: the corners of the height cell, and the value between them.
use Rattle.std.specs.Prelude.{Some}
use Rattle.std.proofs.lemmas.Result.{err_from_is_err_and}
use mathlib.Core.Path.{◌≡◌, sym, ap, ◌∙◌}
use lib.IntN.{ℤ}
use mir.Syntax.{w64}
use Rattle.integers.specs.Machine.{told}
use Rattle.rules.specs.Answers.{values, and_then, outcome_of}
use Rattle.rules.specs.Image.{plane}
use Rattle.grids.specs.Grids.{height_cell, height_between, height_on}
use Rattle.grids.proofs.OnGrids.{heights_asked, height_weighed}
use Rattle.grids.proofs.height_on.Goals as goal
use Rattle.grids.proofs.height_on.Goals.{In_ok-h, Start}

found : (c : In_ok-h) → let s = c.args in height_cell s.p.geometry (plane s.image.now s.p) s.q ≡ values c.in_ok-h.h
found c = sym c.height_cell.ensures ∙ ap outcome_of c.in_ok-h.was

pub height_between-requires : goal.height_between-requires
height_between-requires c =
    heights_asked (plane c.args.image.now c.args.p) c.args.q c.requires.geometry (found (goal.at.height_between-requires c).In_ok-h)

-- the lookup is what is weighed between them
weighed : (s : Start) → let g = s.args.p.geometry in
    let f = plane s.args.image.now s.args.p in
    and_then (height_cell g f s.args.q) (λ h. values (Some (height_between h))) ≡ height_on g f s.args.q
weighed s = height_weighed _ _ _

pub returns : goal.returns
returns c =
    rw (← weighed (goal.at.returns c).Start, found (goal.at.returns c).In_ok-h)
    (ap (λ (z : ℤ). values (Some z)) (told w64 c.height_between.type_inv c.height_between.ensures))

pub returns-in_err-h : goal.returns-in_err-h
returns-in_err-h c =
    let p = err_from_is_err_and c.from_residual.result c.from_residual.ensures.1 in
    rw (p.1, p.2, ← weighed (goal.at.returns-in_err-h c).Start, sym c.height_cell.ensures ∙ ap outcome_of c.in_err-h.was)
