-- `nodes::pair_at` meets its contract: the row begins in the image and the pair ends in it; a reading in the part is one in the image.
use mathlib.Core.Path.{ap, ◌∙◌}
use Prim.Native.Nat.{ℕ, ◌+◌, ◌*◌, ◌≤◌}
use native.Mathlib.Omega.{arith}
use lib.ListN.{length}
use Rattle.nodes.specs.Row.{value_in, pair_of}
use Rattle.rules.proofs.Lent.{part_from, part_length}
use Rattle.nodes.proofs.Parts.{row_inside, value_in_row}
use Rattle.nodes.proofs.pair_at.Goals as goal
use Rattle.nodes.proofs.pair_at.Goals.{After-row_start-start}

-- the row begins in the image, and the pair ends in it
inside : (c : After-row_start-start) → let s = c.args in
    c.row_start-start.result + s.p.stride * (s.column + 1) + 4 ≤ length s.image.now
inside c =
    omega (arith, c.row_start-start.ensures, row_inside c.requires.0 c.args.row (c.args.column + 1) c.requires.1.0 c.requires.1.1)

pub pair_in-requires : goal.pair_in-requires
pair_in-requires c = (
  omega (arith, c.requires.0.geometry.longitude.sized.count_most, c.requires.1.1),
  rw part_length
      (omega (arith, inside (goal.at.pair_in-requires c).After-row_start-start)),
)

pub returns : goal.returns
returns c =
    let s = c.args in
    let b = s.image.now in
    c.pair_in.ensures
    ∙ ap (λ (n : ℕ). pair_of (value_in (part_from b n) s.p.stride) s.column) c.row_start-start.ensures
    ∙ (λ i. pair_of (λ column. value_in_row b s.p s.row column i) s.column)
