-- `image::two_grid_layout` meets its contract: question 6 says what each back is, so where the first nodes begin.
use mathlib.Core.Bool.{Bool, true, false}
use Prim.Native.Nat.{◌≤◌}
use native.Mathlib.Omega.{arith}
use Rattle.rules.specs.declared.Geometry.{Geometry}
use Rattle.rules.specs.Image.{is_in_planes, correction_back_of, to_longitudes}
use Rattle.rules.proofs.Opening.{backs_are}
use Rattle.image.proofs.two_grid_layout.Goals as goal

pub overflow_sub-latitude : goal.overflow_sub-latitude
overflow_sub-latitude c = (backs_are _ _ c.requires).0.1

pub to_longitudes-requires : goal.to_longitudes-requires
to_longitudes-requires c = let backs = backs_are _ _ c.requires in (backs.0.0, backs.1.0)

-- the longitude corrections begin in the image
longitudes_before_end : (in_planes : Bool) (c h : Geometry) → to_longitudes in_planes c ≤ correction_back_of c h
longitudes_before_end true c h = omega arith
longitudes_before_end false c h = omega arith

pub overflow_add-result : goal.overflow_add-result
overflow_add-result c =
    let t = c.args.t in
    let inside = longitudes_before_end (is_in_planes t) t.corrections.geometry t.heights.geometry in
    omega (arith, backs_are _ _ c.requires, c.to_longitudes.ensures, inside)

pub overflow_sub-result : goal.overflow_sub-result
overflow_sub-result c = (backs_are _ _ c.requires).1.1

pub returns : goal.returns
returns c =
    let backs = backs_are _ _ c.requires in
    rw (backs.0.0, backs.1.0, c.correction_stride.ensures, c.to_longitudes.ensures, c.is_unbounded.ensures)
