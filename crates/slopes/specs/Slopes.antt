-- Question 12 over a layout, and limits of the steps.
use Rattle.std.specs.Prelude.{Bool, ◌&&◌, ℕ, ◌*◌, ◌≤◌}
use Rattle.rules.specs.declared.Geometry.{Geometry}
use Rattle.rules.specs.declared.Layout.{Layout}
use Rattle.rules.specs.declared.Steps.{Steps}
use Rattle.rules.specs.declared.Findings.{Findings}
use Rattle.rules.specs.Units.{correction_limit}
use Rattle.rules.specs.Limits.{GeometryPasses}
use Rattle.rules.specs.Check.{slope_passes}
use Rattle.steps.specs.declared.CorrectionSteps.{CorrectionSteps}

-- Question 12 of each value, with the spacings of its plane.
unfoldable pub slopes_pass : Layout → Findings → Bool
slopes_pass l f =
    slope_passes l.latitude.geometry f.latitude
    && (slope_passes l.longitude.geometry f.longitude
    && slope_passes l.height.geometry f.height)

-- The same of two corrections on one grid.
unfoldable pub both_slopes_pass : Geometry → CorrectionSteps → Bool
both_slopes_pass g s = slope_passes g s.latitude && slope_passes g s.longitude

-- What questions 3 to 5 establish of each plane's geometry.
pub record LayoutPasses (l : Layout) : Type 0 where
  pub latitude : GeometryPasses l.latitude.geometry
  pub longitude : GeometryPasses l.longitude.geometry
  pub height : GeometryPasses l.height.geometry

-- No step between values within the largest limit is larger.
abbrev pub step_most : ℕ
step_most = 2 * correction_limit

-- Steps that are at most a limit.
pub record StepsWithin (limit : ℕ) (s : Steps) : Type 0 where
  pub north_most : s.northward ≤ limit
  pub east_most : s.eastward ≤ limit

pub record FindingsWithin (limit : ℕ) (f : Findings) : Type 0 where
  pub latitude_most : StepsWithin limit f.latitude
  pub longitude_most : StepsWithin limit f.longitude
  pub height_most : StepsWithin limit f.height
