-- How far the way out's points may lie apart to stop, and when a held cell serves the next point.
use Rattle.std.specs.Prelude.{Bool, cond, ◌&&◌, ℕ}
use Rattle.std.specs.Bool.{beq}
use Rattle.rules.specs.declared.Geometry.{Geometry}
use Rattle.rules.specs.declared.Layout.{Layout}
use Rattle.rules.specs.declared.Point.{Point}
use Rattle.rules.specs.Units.{stop_distance, dense_stop_distance}
use Rattle.lookup.specs.declared.HeldCell.{HeldCell}
use Rattle.lookup.specs.Held.{lies_in}

-- The stop rule's distance, by whether there is a dense grid.
abbrev pub stop_for : Layout → ℕ
stop_for l = cond l.nested dense_stop_distance stop_distance

-- A point whose corrections are taken from the grid of the held cell, and that lies in this.
abbrev pub still_in : HeldCell → (dense : Bool) → (bounds : Geometry) → (next : Bool) → Point → Bool
still_in h dense bounds next r = beq next dense && lies_in h bounds r
