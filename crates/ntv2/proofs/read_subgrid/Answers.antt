-- `ntv2::read_subgrid` meets its contract: the grid there, with the first one's name as its parent, and END.
use Rattle.std.specs.Prelude.{Err}
use Rattle.std.proofs.Common.{false, ◌≡◌, ◌+◌, ◌*◌, ap, sym, ◌∙◌, arith, rules}
use Rattle.std.proofs.lemmas.Grind.{common_steps}
use Rattle.rules.specs.Answers.{outcome_of}
use Rattle.rules.specs.Ntv2.{name_of, grid_header_of, grid_passes, first_grid, subgrid_after, subgrid_passes}
use Rattle.rules.proofs.Answers.{asked, asked_no}
use Rattle.rules.proofs.Lent.{part_from_lem}
use Rattle.ntv2.proofs.read_subgrid.Goals as goal

pub returns-in_err-g : goal.returns-in_err-g
unfolding subgrid_passes
returns-in_err-g c =
    let a = c.args in
    let b = a.file.now in
    let no = asked_no (grid_passes _ _ _) 18 (grid_header_of _) _ (sym c.read_grid.ensures ∙ ap outcome_of c.in_err-g.was) in
    let h : grid_passes (subgrid_after b a.nodes) (name_of (first_grid b)) a.room ≡ false =
    cc (no.0, part_from_lem b 176, part_from_lem b (352 + 16 * a.nodes)) in
    let e : c.from_residual.result ≡ Err c.in_err-g.field-0.0 = search rules in
    ap outcome_of e ∙ rw (h, no.1)

pub returns-then-closed_after : goal.returns-then-closed_after
unfolding subgrid_passes
returns-then-closed_after c = grind (arith, common_steps, asked, part_from_lem c.args.file.now)
