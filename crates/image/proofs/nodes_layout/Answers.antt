-- `image::nodes_layout` meets its contract: question 6 says what back is, so where the first node begins.
use mathlib.Core.Path.{◌≡◌}
use Prim.Native.Nat.{◌≤◌}
use native.Mathlib.Omega.{arith}
use Rattle.rules.specs.Image.{back_of}
use Rattle.rules.specs.Questions.{question6}
use Rattle.rules.proofs.Opening.{back_is}
use Rattle.image.proofs.nodes_layout.Goals as goal
use Rattle.image.proofs.nodes_layout.Goals.{Start}

back : (s : Start) → (s.args.t.back ≡ back_of s.args.t.geometry) × (s.args.t.back ≤ s.args.size)
unfolding question6
back s = back_is _ _ _ s.requires

pub overflow_sub-latitude : goal.overflow_sub-latitude
overflow_sub-latitude c = (back (goal.at.overflow_sub-latitude c).Start).1

pub overflow_add-result : goal.overflow_add-result
overflow_add-result c = omega (arith, back (goal.at.overflow_add-result c).Start)

pub overflow_add-result-2 : goal.overflow_add-result-2
overflow_add-result-2 c = omega (arith, back (goal.at.overflow_add-result-2 c).Start)

pub returns : goal.returns
returns c = rw (back (goal.at.returns c).Start).0
