-- The images of kinds 0 and 3 that open: what the opening asked of them, and that any image of which this holds opens.
use Rattle.std.specs.Prelude.{Bool, ◌&&◌, List, ◌≡◌, ℕ, ◌≤◌, length}
use Rattle.std.proofs.Math.Bool.{true}
use Rattle.rules.specs.declared.Geometry.{Geometry}
use Rattle.rules.specs.declared.TwoGridTrailer.{TwoGridTrailer}
use Rattle.rules.specs.declared.Layout.{Layout}
use Rattle.rules.specs.Image.{edition_of, two_grid_trailer_of}
use Rattle.rules.specs.Image.{height_back_of, correction_back_of}
use Rattle.rules.specs.Questions.{question3, question4, question5}
use Rattle.layouts.specs.Directions.{kind_in}
use Rattle.layouts.specs.Corrections.{layout_in}

-- The trailer of each kind.
abbrev pub trailer_in : (in_planes : Bool) → (corrections heights : Geometry) → TwoGridTrailer
trailer_in in_planes c h =
    record {
      corrections = record { geometry = c; back = correction_back_of c h };
      heights = record { geometry = h; back = height_back_of h };
      kind = kind_in in_planes;
    }

-- An image of kind 0, or of kind 3 where in planes, that opens with these geometries.
pub record OpenIn (in_planes : Bool) (b : List ℕ) (c h : Geometry) : Type 0 where
  pub edition : edition_of b ≡ 2
  pub trailer : two_grid_trailer_of b ≡ trailer_in in_planes c h
  pub counts : (question3 c && question3 h) ≡ true
  pub spacings : (question4 c && question4 h) ≡ true
  pub bounds : (question5 c && question5 h) ≡ true
  pub fits : correction_back_of c h ≤ length b

-- ---- what the opening asked
pub record OpenWith (in_planes : Bool) (b : List ℕ) (l : Layout) : Type 0 where
  pub c : Geometry
  pub h : Geometry
  pub is_open : OpenIn in_planes b c h
  pub layout : layout_in in_planes b c h ≡ l
