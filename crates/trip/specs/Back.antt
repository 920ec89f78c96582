-- The second half of a trip, from the position alone that the way out answered with.
use Rattle.std.specs.Prelude.{List, ℕ}
use Rattle.rules.specs.declared.Position.{Position}
use Rattle.rules.specs.Answers.{Outcome, values, and_then}
use Rattle.rules.specs.Ways.{way_back}
use Rattle.rules.specs.Promise.{point_of}
use Rattle.rules.specs.Trip.{BothWays}

-- The way back of a position, taken to have the number that this way answers with.
unfoldable pub same_number : List ℕ → Position → Outcome BothWays
same_number b a =
    and_then (way_back b (point_of a) a.height) (λ r.
    values (record { outward = record { position = a; number = r.number }; returned = r }))
