-- The corrections of an image of kind 0 or 3 as a conversion writes them, in planes or in nodes: where each of them stands in an image that
-- has them anywhere; and written in the image's own layout they are the bytes that it has.
use Rattle.std.specs.Prelude.{Bool, List, ℕ, length}
use Rattle.std.proofs.Math.Bool.{false}
use Rattle.rules.specs.declared.Geometry.{Geometry}
use Rattle.rules.specs.declared.Layout.{Layout}
use Rattle.rules.specs.Image.{two_grid_layout_of}

-- ---- the corrections of an image
-- The layout of kinds 0 and 3.
abbrev pub layout_in : (in_planes : Bool) → List ℕ → (corrections heights : Geometry) → Layout
layout_in in_planes b c h = two_grid_layout_of in_planes false (length b) c h
