-- The kinds that are converted into each other.
use Rattle.std.specs.Prelude.{Bool, true, false}
use Rattle.planes.specs.declared.Kind.{Kind}
use Rattle.planes.specs.declared.Kind.TheVariants as kind

-- Does a kind have its corrections in planes?
abbrev pub in_planes : Kind → Bool
in_planes kind.InNodes = false
in_planes kind.InPlanes = true
