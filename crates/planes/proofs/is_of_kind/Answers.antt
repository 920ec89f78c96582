-- `planes::is_of_kind` meets its contract: the layout says the edition, and the trailer the kind.
use mathlib.Core.Path.{◌∙◌}
use Rattle.rules.specs.Planes.{is_of_kind}
use Rattle.rules.proofs.Opening.{edition_is, opened_long}
use Rattle.planes.proofs.is_of_kind.Goals as goal

pub read_two_grid_trailer-requires : goal.read_two_grid_trailer-requires
read_two_grid_trailer-requires c = opened_long _ _ c.requires c.if-l.true

pub returns-then-l : goal.returns-then-l
unfolding is_of_kind
returns-then-l c =
    rw (edition_is c.args.image.now c.args.l c.requires ∙ c.if-l.true, c.read_two_grid_trailer.ensures, c.number.ensures)

pub returns-else-l : goal.returns-else-l
unfolding is_of_kind
returns-else-l c = rw (edition_is c.args.image.now c.args.l c.requires ∙ c.if-l.false) c.if-l.false
