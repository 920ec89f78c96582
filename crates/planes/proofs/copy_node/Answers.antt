-- `planes::copy_node` meets its contract: the second value is written on what was lent on after the first.
use mathlib.Core.Path.{◌≡◌}
use lib.ListN.{length}
use Rattle.rules.specs.Planes.{value_bytes}
use Rattle.rules.proofs.Lent.{taken_length, two_fronts}
use Rattle.planes.proofs.Places.{value_inside}
use Rattle.planes.proofs.copy_node.Goals as goal

pub returns : goal.returns
returns c =
    let b = c.args.image.now in
    let l = c.args.l in
    let n = c.args.n in
    let first = value_bytes b l.latitude n in
    let second = value_bytes b l.longitude n in
    let long : length first ≡ 4 = taken_length 4 b _ (value_inside c.requires.0.latitude n c.requires.1) in
    rw (c.copy_value-2.ensures, c.copy_value.ensures) (rw long at (two_fronts first second c.args.rest.now))
