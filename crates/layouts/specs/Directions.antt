-- Both conversions of document 02's note 8 as one: into kind 3, in planes, or into kind 0, in nodes, each from the other.
use Rattle.std.specs.Prelude.{Bool, true, false, cond, List, ◌++◌, ℕ}
use Rattle.rules.specs.declared.Layout.{Layout}
use Rattle.rules.specs.Answers.{Outcome}
use Rattle.rules.specs.Planes.{corrections_in_planes, corrections_in_nodes, rest_with_kind, planes_from_nodes, nodes_from_planes}

-- The kind in planes, and the kind in nodes.
abbrev pub kind_in : (in_planes : Bool) → ℕ
kind_in in_planes = cond in_planes 3 0

-- The corrections of an image, written in planes or in nodes, and the whole image from its first node on.
abbrev pub corrections_in : (in_planes : Bool) → List ℕ → Layout → List ℕ
corrections_in true = corrections_in_planes
corrections_in false = corrections_in_nodes

abbrev pub converted_to : (in_planes : Bool) → List ℕ → Layout → List ℕ
converted_to in_planes b l = corrections_in in_planes b l ++ rest_with_kind (kind_in in_planes) b l

-- The conversion into either, and that it is the refusals and then this image.
abbrev pub conversion_to : (in_planes : Bool) → List ℕ → (room : ℕ) → Outcome (List ℕ)
conversion_to true = planes_from_nodes
conversion_to false = nodes_from_planes
