-- The walk along a row that finds the largest steps, of the three values, of both corrections or of one value: each node is set beside its
-- western and its southern neighbour. The first node is its own western neighbour: `column - 1` of 0 is 0.
use Rattle.std.specs.Prelude.{Bool, ◌&&◌, Option, Some, None, List, ℕ, zero, suc, ◌+◌, ◌-◌, ◌*◌, ◌≤◌, ◌<◌, max, ℤ, nat_abs, ◌-ℤ◌}
use Rattle.rules.specs.declared.Steps.{Steps}
use Rattle.rules.specs.declared.Findings.{Findings}
use Rattle.rules.specs.Units.{within, correction_limit, quasi_geoid_limit}
use Rattle.rules.specs.Answers.{Outcome, values, number, ask}
use Rattle.rules.specs.Image.{i32_at}
use Rattle.rules.specs.Check.{every}
use Rattle.rules.specs.declared.Run.{Run}
use Rattle.rules.specs.declared.Runs.{Runs}
use Rattle.rules.specs.declared.Correction.{Correction}
use Rattle.steps.specs.declared.Node.{Node}
use Rattle.steps.specs.declared.CorrectionRuns.{CorrectionRuns}
use Rattle.steps.specs.declared.CorrectionSteps.{CorrectionSteps}

-- A value of a row in an image, the three of a node, and its corrections.
unfoldable pub run_value : List ℕ → Run → (column : ℕ) → ℤ
run_value b run column = i32_at b (run.first + run.stride * column)

unfoldable pub node_of : List ℕ → Runs → (column : ℕ) → Node
node_of b row column =
    record {
      latitude = run_value b row.latitude column;
      longitude = run_value b row.longitude column;
      height = run_value b row.height column;
    }

unfoldable pub correction_of : List ℕ → CorrectionRuns → (column : ℕ) → Correction
correction_of b row column = record { latitude = run_value b row.latitude column; longitude = run_value b row.longitude column }

-- Their bytes are in an image of `size` bytes.
abbrev pub ValueInside : (size : ℕ) → Run → (column : ℕ) → Type 0
ValueInside size run column = run.first + run.stride * column + 4 ≤ size

pub record NodeInside (size : ℕ) (row : Runs) (column : ℕ) : Type 0 where
  pub latitude : ValueInside size row.latitude column
  pub longitude : ValueInside size row.longitude column
  pub height : ValueInside size row.height column

pub record CorrectionInside (size : ℕ) (row : CorrectionRuns) (column : ℕ) : Type 0 where
  pub latitude : ValueInside size row.latitude column
  pub longitude : ValueInside size row.longitude column

-- A fact of each column of a row that has so many.
abbrev pub EachColumn : (columns : ℕ) → (ℕ → Type 0) → Type 0
EachColumn columns holds = (column : ℕ) → column < columns → holds column

abbrev pub RunInside : (size : ℕ) → Run → (columns : ℕ) → Type 0
RunInside size run columns = EachColumn columns (ValueInside size run)

-- Question 9 of a node.
unfoldable pub node_passes : Node → Bool
node_passes n = within correction_limit n.latitude && (within correction_limit n.longitude && within quasi_geoid_limit n.height)

unfoldable pub correction_passes : Correction → Bool
correction_passes c = within correction_limit c.latitude && within correction_limit c.longitude

-- What a walk finds, in the rules' terms: the largest steps, or the number of question 9.
abbrev pub walked_of : {A : Type 0} → Option A → Outcome A
walked_of (Some largest) = values largest
walked_of None = number 9

-- The largest steps of no nodes: of one value, of the three and of both corrections.
abbrev pub no_steps : Steps
no_steps = record { northward = 0; eastward = 0 }

abbrev pub no_findings : Findings
no_findings = record { latitude = no_steps; longitude = no_steps; height = no_steps }

abbrev pub no_correction_steps : CorrectionSteps
no_correction_steps = record { latitude = no_steps; longitude = no_steps }

-- The largest steps of one value, with those to one more node from its western and its southern neighbour.
unfoldable pub with_node : Steps → (here west south : ℤ) → Steps
with_node s here west south =
    record { northward = max s.northward (nat_abs (here -ℤ south)); eastward = max s.eastward (nat_abs (here -ℤ west)) }

-- The same of the three values, and of both corrections.
unfoldable pub with_nodes : Findings → (here west south : Node) → Findings
with_nodes f here west south =
    record {
      latitude = with_node f.latitude here.latitude west.latitude south.latitude;
      longitude = with_node f.longitude here.longitude west.longitude south.longitude;
      height = with_node f.height here.height west.height south.height;
    }

unfoldable pub with_corrections : CorrectionSteps → (here west south : Correction) → CorrectionSteps
with_corrections s here west south =
    record {
      latitude = with_node s.latitude here.latitude west.latitude south.latitude;
      longitude = with_node s.longitude here.longitude west.longitude south.longitude;
    }

-- A fold up to n: steps 0, 1, … n − 1 in turn, each from what the one before gave, the first from a.
unfoldable pub fold_up_to : {A : Type 0} → ℕ → (ℕ → A → A) → A → A
fold_up_to zero step a = a
fold_up_to (suc n) step a = step n (fold_up_to n step a)

-- The step to the node of a column: `add` takes the node, its western and its southern neighbour. A node is three values, two, or one.
abbrev pub step_to : {A N : Type 0} → (add : A → (here west south : N) → A) (south row : ℕ → N) (column : ℕ) → A → A
step_to add south row column found = add found (row column) (row (column - 1)) (south column)

-- A walk over n things in turn: question 9 of each, and what the steps to them leave.
unfoldable pub walk_over : {A : Type 0} → (passes : ℕ → Bool) (step : ℕ → A → A) (n : ℕ) → A → Outcome A
walk_over passes step n before = ask (every n passes) 9 (values (fold_up_to n step before))

-- The walk along a row: nodes by column, and those of the row to the south.
abbrev pub along_row : {A N : Type 0} → (N → Bool) → (A → (here west south : N) → A) → (south row : ℕ → N) (columns : ℕ) → A → Outcome A
along_row passes add south row = walk_over (λ column. passes (row column)) (step_to add south row)

-- A value that is read from an image has 32 bits: the difference of two such fits.
abbrev pub Narrow : ℤ → Type 0
Narrow z = nat_abs z ≤ 2147483648

pub record NarrowNode (n : Node) : Type 0 where
  pub latitude : Narrow n.latitude
  pub longitude : Narrow n.longitude
  pub height : Narrow n.height

pub record NarrowCorrection (c : Correction) : Type 0 where
  pub latitude : Narrow c.latitude
  pub longitude : Narrow c.longitude
