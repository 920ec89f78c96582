-- Document 02, note 8, for readers: what a conversion between kinds 0 and 3 leaves in its buffer, burned after anything, is an image with
-- the same nodes; it answers every conversion, the check and every list as the image that was converted does; and the conversion back gives
-- the bytes of that image from its first node on. Images of these kinds with the same nodes answer alike in any case.
use Rattle.std.specs.Prelude.{List, ◌≡◌, ℕ, ℤ}
use Rattle.rules.specs.declared.Point.{Point}
use Rattle.rules.specs.declared.Way.{Way}
use Rattle.rules.specs.declared.Layout.{Layout}
use Rattle.rules.specs.Answers.{values}
use Rattle.rules.specs.Image.{grid_of}
use Rattle.rules.specs.Questions.{opening}
use Rattle.rules.specs.Ways.{convert}
use Rattle.rules.specs.Check.{grid_check}
use Rattle.rules.specs.Lists.{convert_list}
use Rattle.layouts.specs.SameNodes.{SameNodes}

-- Both images open, and have the same geometries and at every node the same three values.
pub record SameContent (b b' : List ℕ) : Type 0 where
  pub layout : Layout
  pub layout' : Layout
  pub opens : opening b ≡ values layout
  pub opens' : opening b' ≡ values layout'
  pub nodes : SameNodes (grid_of b' layout') (grid_of b layout)

-- Both images answer alike: every conversion, the check and every list of fixes.
pub record SameAnswers (b b' : List ℕ) : Type 0 where
  pub conversions : (w : Way) (p : Point) (h : ℤ) → convert w b' p h ≡ convert w b p h
  pub checks : grid_check b' ≡ grid_check b
  pub lists : (w : Way) (fixes answers : List ℤ) → convert_list w b' fixes answers ≡ convert_list w b fixes answers
