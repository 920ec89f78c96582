-- What is asked of an opened image at a point in its bounds.
use Rattle.std.specs.Prelude.{Bool, true, false, ◌||◌, Some, None, ◌≡◌, ◌≤◌, eqb, nat_abs}
use Rattle.rules.specs.declared.Point.{Point}
use Rattle.rules.specs.Units.{quasi_geoid_limit}
use Rattle.rules.specs.Answers.{Outcome, values, number, and_then}
use Rattle.rules.specs.Lookup.{Height}
use Rattle.rules.specs.Ways.{Source}
use Rattle.image.specs.declared.fit.FitImage.{FitImage}
use Rattle.image.specs.Fit.{grid_in}
use Rattle.lookup.specs.declared.HeldCell.{HeldCell}
use Rattle.lookup.specs.Held.{held_at, lies_in, PointFound, point_found}

-- Where heights stand at the corrections' nodes, a held cell is the one around a point that lies in it.
abbrev pub HeldFor : HeldCell → FitImage → Point → Type 0
HeldFor h i p =
    let bounds = i.layout.latitude.geometry in
    i.layout.separate ≡ false → lies_in h bounds p ≡ true → h ≡ held_at bounds (grid_in i) p

-- Both lookups of a source at a point, the corrections first.
unfoldable pub point_lookup : Source → Point → Outcome PointFound
point_lookup s q = and_then (s.corrections q) (λ c. and_then (s.height q) (λ z. values (point_found c z)))

-- A height that was found is within question 9's limit,
abbrev pub HeightWithin : Height → Type 0
HeightWithin (Some z) = nat_abs z ≤ quasi_geoid_limit
HeightWithin None = Unit {0}

-- and so of a lookup.
abbrev pub FoundWithin : Outcome Height → Type 0
FoundWithin (values found) = HeightWithin found
FoundWithin (number n) = Unit {0}

-- A way ended with a number that kind 2 does not give: 8, 10 or 15.
abbrev pub past_edge : {A : Type 0} → Outcome A → Bool
past_edge (values a) = false
past_edge (number n) = eqb n 8 || (eqb n 10 || eqb n 15)
