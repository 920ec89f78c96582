-- A conversion over an opened image, by how it ends as with bounds: that is its answer with bounds, and without them too where it did not
-- end past the edge; else question 7 has been put, and the way without bounds answers.
use mathlib.Core.Bool.{true, false}
use mathlib.Core.List.{List}
use mathlib.Core.Path.{◌≡◌, sym, ap, ◌∙◌}
use Prim.Native.Nat.{ℕ, ◌≤◌}
use lib.IntN.{ℤ, nat_abs}
use lib.ListN.{length}
use Rattle.rules.specs.declared.Layout.{Layout}
use Rattle.rules.specs.declared.Point.{Point}
use Rattle.rules.specs.declared.Way.{Way}
use Rattle.rules.specs.Answers.{Outcome, values}
use Rattle.rules.specs.Image.{Grid, grid_of}
use Rattle.rules.specs.Limits.{Open, PointWithin}
use Rattle.rules.specs.Questions.{opening}
use Rattle.rules.specs.Ways.{Source, Accepted, question7, height_limit, way_of, convert_over, bounded_source, unbounded_source, source_of}
use Rattle.rules.proofs.Limits.{fix_within}
use Rattle.rules.proofs.Opening.{opened}
use Rattle.source.specs.Asked.{past_edge}
use Rattle.source.proofs.Sources.{of_bounded, of_unbounded}
use Rattle.source.proofs.Inside.{same_conversion, past_limits}

module _ (b : List ℕ) (l : Layout) (o : Open (length b) l) (w : Way) (p : Point) (h : ℤ) where
  abbrev grid : Grid
  grid = grid_of b l

  -- the conversion over a source
  abbrev over : Source → Outcome Accepted
  over s = convert_over w s p h

  pub with_bounds : l.unbounded ≡ false → over (source_of grid) ≡ over (bounded_source grid)
  with_bounds e = ap over (of_bounded grid e)

  pub without_bounds : l.unbounded ≡ true → past_edge (over (bounded_source grid)) ≡ false
      → over (source_of grid) ≡ over (bounded_source grid)
  without_bounds u e = ap over (of_unbounded grid u) ∙ same_conversion grid (o.apart u) (o.not_nested u) w p h e

  seven : l.unbounded ≡ true → past_edge (over (bounded_source grid)) ≡ true → question7 (height_limit w) p h ≡ true
  seven u e = past_limits grid (o.apart u) (o.not_nested u) w p h e

  pub past_within : l.unbounded ≡ true → past_edge (over (bounded_source grid)) ≡ true → PointWithin p × (nat_abs h ≤ height_limit w)
  past_within u e = fix_within _ _ _ (seven u e)

  pub past_the_edge : l.unbounded ≡ true → past_edge (over (bounded_source grid)) ≡ true
      → over (source_of grid) ≡ way_of w (unbounded_source grid) p h
  unfolding convert_over
  past_the_edge u e = rw (of_unbounded grid u, seven u e)

pub ruleset by_the_edge = (with_bounds, without_bounds, past_within, past_the_edge)

-- An image's layout is open.
pub is_open : (b : List ℕ) (l : Layout) → values l ≡ opening b → Open (length b) l
is_open b l e = opened b l (sym e)
