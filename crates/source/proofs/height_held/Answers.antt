-- `source::height_held` meets its contract: the held cell is the point's where the point lies in it.
use mathlib.Core.Path.{◌≡◌, sym, ◌∙◌}
use Rattle.image.specs.Fit.{grid_in}
use Rattle.lookup.specs.Held.{held_at}
use Rattle.source.proofs.Sources.{around_holds, height_around}
use Rattle.source.proofs.height_held.Goals as goal
use Rattle.source.proofs.height_held.Goals.{Then-lies_in}

held : (c : Then-lies_in) → let s = c.args in s.h ≡ held_at (grid_in s.image.now).corrections (grid_in s.image.now) s.q
held c = c.requires.1 c.requires.2 (sym c.lies_in.ensures ∙ c.if-lies_in.true)

pub height_in-requires : goal.height_in-requires
height_in-requires c = around_holds c.args.image.now _ c.requires.0 (held (goal.at.height_in-requires c).Then-lies_in)

pub returns-then-lies_in : goal.returns-then-lies_in
returns-then-lies_in c =
    let k = held (goal.at.returns-then-lies_in c).Then-lies_in in
    c.height_in.ensures ∙ height_around c.args.image.now _ c.requires.0 k c.requires.2
