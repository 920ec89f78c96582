-- `image::nested_layout` meets its contract: edition 2's layout, and by question 6 where the dense nodes begin.
use mathlib.Core.Bool.{true, false}
use mathlib.Core.Path.{◌≡◌, refl}
use native.Mathlib.Omega.{arith}
use borrow.Author.Tests.{eqb-true}
use Rattle.rules.specs.declared.TwoGridTrailer.{TwoGridTrailer}
use Rattle.rules.specs.Image.{is_nested, is_in_planes, is_unbounded}
use Rattle.rules.proofs.Opening.{backs_are, all_backs_are}
use Rattle.image.proofs.nested_layout.Goals as goal

-- no back is above the length, whichever it is: of that it is said in the results
pub overflow_sub-result : goal.overflow_sub-result
overflow_sub-result c =
    let all = all_backs_are _ _ _ c.requires.0 in
    omega (arith, all.1.1, (backs_are _ _ all.0).0.1)

pub two_grid_layout-requires : goal.two_grid_layout-requires
two_grid_layout-requires c = (all_backs_are _ _ _ c.requires.0).0

-- kind 1 is neither kind 3 nor kind 2
plain : (t : TwoGridTrailer) → is_nested t ≡ true → (is_in_planes t ≡ false) × (is_unbounded t ≡ false)
plain t h = rw (eqb-true t.kind 1 h) (refl, refl)

pub returns : goal.returns
returns c =
    let kind = plain c.args.t c.requires.1 in
    let all = all_backs_are _ _ _ c.requires.0 in
    rw (c.two_grid_layout.ensures, all.1.0, kind.0, kind.1)
