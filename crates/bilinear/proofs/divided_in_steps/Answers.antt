-- `bilinear::divided_in_steps` meets its contract. All fits: an area is at most 10^16, and what the divisions leave is below two areas.
use native.Mathlib.Omega.{arith}
use Rattle.bilinear.proofs.Mixes.{mixable, south_row, north_row, quotient_is, InSteps, in_steps}
use Rattle.bilinear.proofs.divided_in_steps.Goals as goal
use Rattle.bilinear.proofs.divided_in_steps.Goals.{After-mix-left}

steps : (c : After-mix-left) → let a = c.args in
    InSteps a.r.south a.r.north a.u a.s.latitude a.s.longitude c.mix-t.result c.mix-left.result
steps c = in_steps c.requires c.mix-t.ensures c.mix-left.ensures

pub mix-t-requires : goal.mix-t-requires
mix-t-requires c =
    let r = c.requires in
    let south = south_row r in
    let north = north_row r in
    mixable r.u_most r.latitude_spacing.most (omega arith) (omega arith)

pub returns-then-rest-area : goal.returns-then-rest-area
returns-then-rest-area c = quotient_is c.requires (steps (goal.at.returns-then-rest-area c).After-mix-left).nothing_lost (omega arith)

pub overflow_add-result : goal.overflow_add-result
overflow_add-result c =
    let s = steps (goal.at.overflow_add-result c).After-mix-left in
    omega (arith, c.requires.latitude_spacing.most)

pub returns : goal.returns
returns c =
    let s = steps (goal.at.returns c).After-mix-left in
    quotient_is c.requires (omega arith) (omega arith)
