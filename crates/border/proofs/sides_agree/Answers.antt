-- `border::sides_agree` meets its contract: both dense bounds lie on lines of the coarse grid.
use mathlib.Core.Path.{◌≡◌}
use native.Mathlib.Omega.{arith}
use mir.Syntax.{w64}
use mir.Val.{to_z, of_z}
use Rattle.std.proofs.Common.{rules}
use Rattle.integers.specs.Machine.{told}
use Rattle.rules.specs.Image.{far_bound}
use Rattle.rules.proofs.Nesting.{Aligned, aligned}
use Rattle.returning.specs.Sides.{line_of}
use Rattle.returning.proofs.Sides.{line_below}
use Rattle.border.proofs.sides_agree.Goals as goal
use Rattle.border.proofs.sides_agree.Goals.{After-line_of-start, After-line_of-far, Start}

-- what question 20 says of the axis across
across : (s : Start) → Aligned s.args.coarse.across s.args.dense.across
across s = aligned _ _ s.requires.2

pub line_of-start-requires : goal.line_of-start-requires
line_of-start-requires c =
    let on = (across (goal.at.line_of-start-requires c).Start).start_on in
    let e : to_z w64 (of_z w64 c.args.dense.across.start) ≡ c.args.dense.across.start = search rules in
    (c.requires.0.across, rw e on)

pub line_of-far-requires : goal.line_of-far-requires
line_of-far-requires c = (
  c.requires.0.across,
  rw (told w64 c.far_bound.type_inv c.far_bound.ensures)
      (across (goal.at.line_of-far-requires c).Start).far_on,
)

-- the coarse line of each side
start : (c : After-line_of-start) → let s = c.args in
    c.line_of-start.result ≡ line_of s.coarse.across s.dense.across.start
start c =
    let s = c.args in
    let e : to_z w64 (of_z w64 s.dense.across.start) ≡ s.dense.across.start = search rules in
    rw e at c.line_of-start.ensures

far : (c : After-line_of-far) → let s = c.args in
    c.line_of-far.result ≡ line_of s.coarse.across (far_bound s.dense.across)
far c = let f = c.far_bound in rw (told w64 f.type_inv f.ensures) at c.line_of-far.ensures

pub side_agrees-requires : goal.side_agrees-requires
side_agrees-requires c =
    let p = c.requires in (
      p.0,
      p.1,
      p.3,
      rw (start (goal.at.side_agrees-requires c).After-line_of-start)
          (line_below _ _ p.0.across.sized (across (goal.at.side_agrees-requires c).Start).start_on),
      omega (arith, p.1.across.sized.count_least),
    )

pub side_agrees-requires-then-side_agrees : goal.side_agrees-requires-then-side_agrees
side_agrees-requires-then-side_agrees c =
    let p = c.requires in (
      p.0,
      p.1,
      p.3,
      rw (far (goal.at.side_agrees-requires-then-side_agrees c).After-line_of-far)
          (line_below _ _ p.0.across.sized (across (goal.at.side_agrees-requires-then-side_agrees c).Start).far_on),
      omega (arith, p.1.across.sized.count_least),
    )
