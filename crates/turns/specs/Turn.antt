-- The turn of an evaluation on the way out, by questions 9 and 10 and the stop rule.
use Rattle.std.specs.Prelude.{cond, ℕ}
use Rattle.rules.specs.declared.Geometry.{Geometry}
use Rattle.rules.specs.declared.Point.{Point}
use Rattle.rules.specs.Answers.{Outcome, values, ask}
use Rattle.rules.specs.Lookup.{inside}
use Rattle.rules.specs.Ways.{settled, minus}
use Rattle.lookup.specs.declared.HeldCell.{HeldCell}
use Rattle.lookup.specs.Held.{corrections_in}
use Rattle.turns.specs.declared.Turn.{Turn}
use Rattle.turns.specs.declared.Turn.TheVariants as turn

-- The turn from r to q: question 10, then the stop rule.
unfoldable pub turn_of : (bounds : Geometry) (stop : ℕ) (r q : Point) → Outcome Turn
turn_of bounds stop r q = ask (inside bounds q) 10 (values (cond (settled stop q r) (turn.Settled q) (turn.Next q)))

-- The turn of the evaluation at r, on the way out from p: question 9 for r's cell h, then the turn to p minus the corrections there.
unfoldable pub evaluation_of : HeldCell → (bounds : Geometry) (stop : ℕ) (p r : Point) → Outcome Turn
evaluation_of h bounds stop p r = ask h.passes 9 (turn_of bounds stop r (minus p (corrections_in h bounds r)))
