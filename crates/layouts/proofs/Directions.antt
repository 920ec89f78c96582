-- Both conversions of document 02's note 8 as one: into kind 3, in planes, or into kind 0, in nodes, each from the other.
use Rattle.std.specs.Prelude.{Bool, true, false, not, List, ◌≡◌, refl, ℕ}
use Rattle.rules.specs.Answers.{values, and_then}
use Rattle.rules.specs.Planes.{convertible, planes_from_nodes, nodes_from_planes}
use Rattle.layouts.specs.Directions.{conversion_to, converted_to, kind_in}

pub conversion_is : (in_planes : Bool) (b : List ℕ) (room : ℕ)
    → conversion_to in_planes b room ≡ and_then (convertible (kind_in (not in_planes)) b room) (λ l. values (converted_to in_planes b l))
unfolding planes_from_nodes nodes_from_planes
conversion_is true b room = refl
conversion_is false b room = refl
