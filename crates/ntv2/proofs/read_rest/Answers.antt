-- `ntv2::read_rest` meets its contract: a subgrid where NUM_FILE is 2, and else END.
use Rattle.std.proofs.Common.{true, false, ◌≡◌, arith}
use Rattle.std.proofs.lemmas.Grind.{common_steps}
use borrow.Author.Tests.{eq-eqb}
use Rattle.rules.specs.Ntv2.{closed, first_grid, has_subgrid, rest_passes}
use Rattle.rules.proofs.Lent.{part_from_lem}
use Rattle.ntv2.proofs.read_rest.Goals as goal
use Rattle.ntv2.proofs.read_rest.Goals.{else-room-eq0-via-then-room-eq0+else-closed_after, else-room-eq0-via-else-room-eq0}

pub returns-then-closed_after : goal.returns-then-closed_after
unfolding rest_passes
returns-then-closed_after c =
    let a = c.args in
    let one : has_subgrid a.file.now ≡ false = grind (arith, common_steps) in
    let yes : closed (first_grid a.file.now) a.nodes ≡ true = cc (part_from_lem a.file.now 176) in
    rw (one, eq-eqb a.room 0 c.if-room-eq0.true, yes)

pub returns-else-room-eq0 : goal.returns-else-room-eq0
unfolding rest_passes
returns-else-room-eq0 c =
    elim c.else-room-eq0.branch [
      | else-room-eq0-via-then-room-eq0+else-closed_after w ↦ grind (arith, common_steps, part_from_lem c.args.file.now 176)
      | else-room-eq0-via-else-room-eq0 w ↦ grind (arith, common_steps)
    ]
