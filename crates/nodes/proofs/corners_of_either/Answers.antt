-- `nodes::corners_of_either` meets its contract: both rows begin in the nodes that they are taken from, and each row's two corners are what
-- `pair_in` ensures of its bytes.
use Prim.Native.Nat.{ℕ, ◌+◌}
use mathlib.Core.List.{List}
use Rattle.nodes.specs.Row.{pair_of, square_of}
use Rattle.nodes.specs.Either.{either}
use Rattle.nodes.proofs.Parts.{value_in_nodes}
use Rattle.nodes.proofs.corners_of_either.Goals as goal
use Rattle.nodes.proofs.corners_of_either.Goals.{Start}

abbrev nodes : Start → List ℕ
nodes s = either s.args.in_dense s.args.dense.now s.args.coarse.now

pub returns : goal.returns
returns c =
    let s = c.args in
    let row = value_in_nodes (nodes (goal.at.returns c).Start) s.stride s.columns in
    rw (
      c.square_of.ensures,
      c.pair_in.ensures,
      c.pair_in-2.ensures,
      c.row_bytes-south.ensures,
      c.row_bytes-north.ensures,
    ) (λ i. square_of (pair_of (λ column. row s.row column i) s.column) (pair_of (λ column. row (s.row + 1) column i) s.column))
