-- Kind 2's answers outside the bounds.
use Rattle.std.specs.Prelude.{ℤ, ◌+ℤ◌, ◌-ℤ◌}
use Rattle.rules.specs.declared.Point.{Point}
use Rattle.rules.specs.declared.Way.{Way}
use Rattle.rules.specs.declared.Way.TheVariants as way
use Rattle.rules.specs.Lookup.{Height, no_correction}
use Rattle.rules.specs.Ways.{Accepted, plus, answer_at}

-- Either way's answer from a point p outside the bounds, where no correction moves it, after one evaluation.
abbrev pub outside : Way → (p : Point) (height : ℤ) → Height → Accepted
outside way.Out p height = answer_at p (λ z. height -ℤ z) 1
outside way.Back p height = answer_at (plus p no_correction) (λ z. height +ℤ z) 1
