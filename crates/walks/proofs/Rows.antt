-- The walk over rows of an image as one over the nodes of its planes.
use mathlib.Core.List.{List}
use mathlib.Core.Path.{◌≡◌, ap}
use Prim.Native.Nat.{ℕ}
use native.Mathlib.Omega.{arith}
use Rattle.rules.specs.declared.Plane.{Plane}
use Rattle.rules.specs.declared.Layout.{Layout}
use Rattle.rules.specs.declared.Correction.{Correction}
use Rattle.rules.specs.Units.{within}
use Rattle.rules.specs.Image.{i32_at, plane}
use Rattle.steps.specs.declared.Node.{Node}
use Rattle.steps.specs.Walk.{run_value, node_of, node_passes, no_findings, no_steps, with_node, with_nodes}
use Rattle.steps.specs.Walk.{correction_of, correction_passes, no_correction_steps, with_corrections}
use Rattle.walks.specs.Rows.{run_at, row_at, correction_row_at, over_rows}

-- The node of a row and a column, in the three planes, and its corrections.
abbrev pub node_at : List ℕ → Layout → (row column : ℕ) → Node
node_at b l row column =
    record {
      latitude = plane b l.latitude row column;
      longitude = plane b l.longitude row column;
      height = plane b l.height row column;
    }

abbrev pub correction_at : List ℕ → (latitude longitude : Plane) (row column : ℕ) → Correction
correction_at b latitude longitude row column = record { latitude = plane b latitude row column; longitude = plane b longitude row column }

-- A value of a row in the image is the plane's value of that row and column.
value_at : (b : List ℕ) (p : Plane) (row column : ℕ) → run_value b (run_at p row) column ≡ plane b p row column
unfolding run_value plane
value_at b p row column = ap (i32_at b) (omega arith)

node_at_lem : (b : List ℕ) (l : Layout) (row column : ℕ) → node_of b (row_at l row) column ≡ node_at b l row column
unfolding node_of
node_at_lem b l row column = λ i. record {
  latitude = value_at b l.latitude row column i;
  longitude = value_at b l.longitude row column i;
  height = value_at b l.height row column i;
}

correction_at_lem : (b : List ℕ) (p q : Plane) (row column : ℕ)
    → correction_of b (correction_row_at p q row) column ≡ correction_at b p q row column
unfolding correction_of
correction_at_lem b p q row column = λ i. record { latitude = value_at b p row column i; longitude = value_at b q row column i }

-- So the walk over rows of the image is one over those of its planes.
pub values_walked : (b : List ℕ) (limit : ℕ) (p : Plane)
    → over_rows (λ _. within limit) with_node (λ row. run_value b (run_at p row)) p.geometry no_steps
    ≡ over_rows (λ _. within limit) with_node (plane b p) p.geometry no_steps
values_walked b limit p =
    λ i. over_rows (λ _. within limit) with_node (λ row column. value_at b p row column i) p.geometry no_steps

pub nodes_walked : (b : List ℕ) (l : Layout)
    → over_rows (λ _. node_passes) with_nodes (λ row. node_of b (row_at l row)) l.latitude.geometry no_findings
    ≡ over_rows (λ _. node_passes) with_nodes (node_at b l) l.latitude.geometry no_findings
nodes_walked b l =
    λ i. over_rows (λ _. node_passes) with_nodes (λ row column. node_at_lem b l row column i) l.latitude.geometry no_findings

pub corrections_walked : (b : List ℕ) (p q : Plane)
    → over_rows (λ _. correction_passes) with_corrections (λ row. correction_of b (correction_row_at p q row)) p.geometry
    no_correction_steps
    ≡ over_rows (λ _. correction_passes) with_corrections (correction_at b p q) p.geometry no_correction_steps
corrections_walked b p q =
    λ i. over_rows (λ _. correction_passes) with_corrections (λ row column. correction_at_lem b p q row column i) p.geometry
    no_correction_steps
