-- The cell that the way out holds: it is the cell around each point that lies in it and takes its corrections from its grid.
use mathlib.Core.Bool.{Bool, true, false, false≢true}
use mathlib.Core.Path.{◌≡◌, refl, sym, ◌∙◌}
use Rattle.rules.specs.declared.Point.{Point}
use Rattle.rules.specs.Lookup.{inside, grid_for}
use Rattle.image.specs.declared.fit.FitImage.{FitImage}
use Rattle.image.specs.Fit.{grid_in}
use Rattle.lookup.specs.declared.HeldCell.{HeldCell}
use Rattle.lookup.specs.Held.{held_at, no_cell, lies_in}
use Rattle.lookup.proofs.Found.{none_lies}
use Rattle.grids.specs.Grids.{taken_dense}
use Rattle.grids.proofs.Chosen.{chosen, still_held}
use Rattle.source.specs.Asked.{HeldFor}
use Rattle.source.proofs.Sources.{around}

-- Where heights stand at the corrections' nodes there is no dense grid.
module _ (i : FitImage) (p : Point) (one : i.layout.separate ≡ false) where
  not_dense : taken_dense i.layout p ≡ false
  not_dense = by i.layout.nested refl
    where
      by : (t : Bool) → i.layout.nested ≡ t → taken_dense i.layout p ≡ false
      by false e = rw e
      by true e = absurd (false≢true (sym one ∙ (i.fits.nests e).separate))

  pub coarse_alone : grid_for (grid_in i) p ≡ grid_in i
  coarse_alone = λ j. chosen i.bytes.now i.layout (not_dense j)

-- A held cell, of the dense grid or of the coarse one, is the cell around every point that lies in it and takes its corrections there.
pub record Holding (i : FitImage) (h : HeldCell) (dense : Bool) : Type 0 where
  pub around : (q : Point) → let bounds = (grid_in i).corrections in
      inside bounds q ≡ true → taken_dense i.layout q ≡ dense → lies_in h bounds q ≡ true → h ≡ held_at bounds (grid_for (grid_in i) q) q

module _ (i : FitImage) {h : HeldCell} {dense : Bool} where
  -- No point lies in the cell before one is read.
  pub none_held : h ≡ no_cell → Holding i h dense
  none_held e = record { around = λ q o t lies. absurd (none_lies (grid_in i).corrections q (rw e at lies)) }

  module _ (r : Point) (o : inside (grid_in i).corrections r ≡ true) (e : dense ≡ taken_dense i.layout r) where
    -- The cell around a point is held for others.
    pub now_held : h ≡ held_at (grid_in i).corrections (grid_for (grid_in i) r) r → Holding i h dense
    now_held k = record { around = λ q u t lies. still_held (around i r o) (around i q u) (t ∙ e) h k lies }

    -- Where heights stand at the corrections' nodes, for all points that lie in it.
    pub held_for : (q : Point) → Holding i h dense → inside (grid_in i).corrections q ≡ true → HeldFor h i q
    held_for q k u one lies =
        let t = not_dense i q one ∙ sym (not_dense i r one) ∙ sym e in
        k.around q u t lies ∙ (λ j. held_at (grid_in i).corrections (coarse_alone i q one j) q)
