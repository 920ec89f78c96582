-- `image::layout_of` meets its contract: an image that opened has its trailer, whose backs question 6 let pass.
use mathlib.Core.Bool.{true, false}
use mathlib.Core.Path.{◌≡◌, refl, sym, ◌∙◌}
use Rattle.rules.specs.Answers.{values}
use Rattle.rules.specs.Image.{two_grid_trailer_of, is_nested, layout_for}
use Rattle.rules.specs.Questions.{opening}
use Rattle.rules.proofs.Opening.{two_layout_separate, opened_one, opened_long, opened_two, opened_nested}
use Rattle.image.proofs.layout_of.Goals as goal
use Rattle.image.proofs.layout_of.Goals.{Else-is_nested, Else-separate, Then-is_nested, Then-separate}

-- the image opened with edition 2's layout, or with edition 1's
second : (c : Then-separate) → let b = c.args.image.now in opening b ≡ values (layout_for b true)
second c = rw c.if-separate.true at c.requires

first : (c : Else-separate) → let b = c.args.image.now in opening b ≡ values (layout_for b false)
first c = rw c.if-separate.false at c.requires

pub read_two_grid_trailer-t-requires : goal.read_two_grid_trailer-t-requires
read_two_grid_trailer-t-requires c = opened_long _ _ (second c) (two_layout_separate _)

-- the kind, by the trailer
nested : (c : Then-is_nested) → let b = c.args.image.now in is_nested (two_grid_trailer_of b) ≡ true
nested c = rw (← c.read_two_grid_trailer-t.ensures) (sym c.is_nested.ensures ∙ c.if-is_nested.true)

not_nested : (c : Else-is_nested) → let b = c.args.image.now in
    is_nested (two_grid_trailer_of b) ≡ false
not_nested c = rw (← c.read_two_grid_trailer-t.ensures) (sym c.is_nested.ensures ∙ c.if-is_nested.false)

pub read_dense_trailer-requires : goal.read_dense_trailer-requires
read_dense_trailer-requires c =
    let o = opened_nested _ _ (second (goal.at.read_dense_trailer-requires c).Then-separate) (two_layout_separate _) (nested c) in
    rw c.read_two_grid_trailer-t.ensures (o.enough, refl)

pub nested_layout-requires : goal.nested_layout-requires
nested_layout-requires c =
    let o = opened_nested _ _ (second (goal.at.nested_layout-requires c).Then-separate) (two_layout_separate _)
    (nested (goal.at.nested_layout-requires c).Then-is_nested) in
    rw (c.read_dense_trailer.ensures, c.read_two_grid_trailer-t.ensures) (o.bytes, nested (goal.at.nested_layout-requires c).Then-is_nested)

pub two_grid_layout-requires : goal.two_grid_layout-requires
two_grid_layout-requires c =
    rw c.read_two_grid_trailer-t.ensures
    (opened_two _ _ (second (goal.at.two_grid_layout-requires c).Then-separate) (two_layout_separate _) (not_nested c))

pub read_trailer-requires : goal.read_trailer-requires
read_trailer-requires c = (opened_one _ _ (first c) refl).0

pub nodes_layout-requires : goal.nodes_layout-requires
nodes_layout-requires c = rw c.read_trailer.ensures (opened_one _ _ (first (goal.at.nodes_layout-requires c).Else-separate) refl).1
