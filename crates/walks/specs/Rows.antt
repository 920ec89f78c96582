-- Where the rows lie that a walk goes along, and what the walks find.
use Rattle.std.specs.Prelude.{Bool, ◌&&◌, ◌≡◌, ℕ, ◌-◌, ℤ}
use Rattle.rules.specs.declared.Geometry.{Geometry}
use Rattle.rules.specs.declared.Plane.{Plane}
use Rattle.rules.specs.declared.Layout.{Layout}
use Rattle.rules.specs.declared.Run.{Run}
use Rattle.rules.specs.declared.Runs.{Runs}
use Rattle.rules.specs.declared.Steps.{Steps}
use Rattle.rules.specs.declared.Findings.{Findings}
use Rattle.rules.specs.Units.{correction_limit}
use Rattle.rules.specs.Answers.{Outcome, values, ask}
use Rattle.rules.specs.Image.{Grid, rows, columns}
use Rattle.rules.specs.Limits.{InImage, Open}
use Rattle.rules.specs.Check.{every, all_within, all_pass, steps_of, findings_of}
use Rattle.nodes.specs.Row.{row_start}
use Rattle.steps.specs.declared.CorrectionRuns.{CorrectionRuns}
use Rattle.steps.specs.declared.CorrectionSteps.{CorrectionSteps}
use Rattle.steps.specs.declared.LimitedRun.{LimitedRun}
use Rattle.steps.specs.Walk.{fold_up_to, step_to, walk_over}

-- Where a row's values lie in a plane, in the three planes of a layout, and in two planes of corrections; and in a plane with a limit.
abbrev pub run_at : Plane → (row : ℕ) → Run
run_at p row = record { first = row_start p row; stride = p.stride }

abbrev pub row_at : Layout → (row : ℕ) → Runs
row_at l row = record { latitude = run_at l.latitude row; longitude = run_at l.longitude row; height = run_at l.height row }

abbrev pub correction_row_at : (latitude longitude : Plane) (row : ℕ) → CorrectionRuns
correction_row_at latitude longitude row = record { latitude = run_at latitude row; longitude = run_at longitude row }

abbrev pub limited_run_at : Plane → (limit row : ℕ) → LimitedRun
limited_run_at p limit row = record { run = run_at p row; limit = limit }

-- Two planes of corrections of one geometry, in an image of `size` bytes.
pub record CorrectionsInside (size : ℕ) (latitude longitude : Plane) : Type 0 where
  pub latitude_inside : InImage size latitude
  pub longitude_inside : InImage size longitude
  pub one_geometry : longitude.geometry ≡ latitude.geometry

-- A layout whose three planes have one geometry.
pub record OneGrid (size : ℕ) (l : Layout) : Type 0 where
  pub layout : Open size l
  pub one_geometry : l.height.geometry ≡ l.latitude.geometry

-- Question 9 of the nodes of a row, by row and column.
abbrev pub row_passes : {N : Type 0} → (passes : ℕ → N → Bool) → (nodes : ℕ → ℕ → N) (columns row : ℕ) → Bool
row_passes passes nodes columns row = every columns (λ column. passes row (nodes row column))

-- What the steps to them leave. The first row is its own southern neighbour: `row - 1` of 0 is 0.
abbrev pub row_steps : {A N : Type 0} → (A → (here west south : N) → A) → (nodes : ℕ → ℕ → N) (columns row : ℕ) → A → A
row_steps add nodes columns row = fold_up_to columns (step_to add (nodes (row - 1)) (nodes row))

-- The walk over all rows.
abbrev pub over_rows : {A N : Type 0} → (passes : ℕ → N → Bool) (add : A → (here west south : N) → A) (nodes : ℕ → ℕ → N)
    → Geometry → A → Outcome A
over_rows passes add nodes g = walk_over (row_passes passes nodes (columns g)) (row_steps add nodes (columns g)) (rows g)

-- Question 9 of one value over all nodes, and its largest steps.
unfoldable pub plane_walk : (limit : ℕ) → Geometry → (ℕ → ℕ → ℤ) → Outcome Steps
plane_walk limit g f = ask (all_within limit g f) 9 (values (steps_of g f))

-- The same of both corrections.
unfoldable pub corrections_walk : Geometry → (latitude longitude : ℕ → ℕ → ℤ) → Outcome CorrectionSteps
corrections_walk g latitude longitude =
    ask (all_within correction_limit g latitude && all_within correction_limit g longitude) 9
    (values (record { latitude = steps_of g latitude; longitude = steps_of g longitude }))

-- The same of the three values.
unfoldable pub grid_walk : Grid → Outcome Findings
grid_walk g = ask (all_pass g) 9 (values (findings_of g))
