-- A grid that passes the check is a steady source: its nodes are all within question 9's limits, so every lookup in the bounds is answered,
-- and its steps are within question 12's, so every value changes slowly. The corrections with a dense grid are in Nested.antt, the answers
-- at any point in Unbounded.antt.
use Rattle.std.specs.Prelude.{◌≡◌, ℕ, ℤ}
use Rattle.std.proofs.Math.Bool.{true}
use Rattle.rules.specs.declared.Geometry.{Geometry}
use Rattle.rules.specs.Units.{correction_limit, quasi_geoid_limit}
use Rattle.rules.specs.Image.{Grid}
use Rattle.rules.specs.Lookup.{dense_grid}
use Rattle.rules.specs.Check.{steps_of, slope_passes}
use Rattle.rules.specs.Check.{question21, question22}
use Rattle.rules.proofs.Slopes.{NodesWithin}

-- ---- one value: its nodes are within M, and question 12 lets its steps pass
pub record NodesPass (g : Geometry) (M : ℕ) (f : ℕ → ℕ → ℤ) : Type 0 where
  pub limit : NodesWithin M g f
  pub slope : slope_passes g (steps_of g f) ≡ true

-- ---- a grid
-- Both corrections of a grid.
pub record BothPass (g : Grid) : Type 0 where
  pub latitude : NodesPass g.corrections correction_limit g.latitude
  pub longitude : NodesPass g.corrections correction_limit g.longitude

-- What the check establishes of a grid: of its corrections and heights; where a dense grid is nested, of that and of its border; and of an
-- unbounded one's border.
pub record Passes (g : Grid) : Type 0 where
  pub corrections : BothPass g
  pub height : NodesPass g.heights quasi_geoid_limit g.height
  pub dense : g.nested ≡ true → BothPass (dense_grid g)
  pub border : g.nested ≡ true → question21 g ≡ true
  pub zero_border : g.unbounded ≡ true → question22 g ≡ true
