-- Each row lies in the image: of a plane, of two planes of corrections, and of the three planes of a layout.
use Rattle.std.specs.Prelude.{ℕ, ◌<◌}
use Rattle.rules.specs.declared.Plane.{Plane}
use Rattle.rules.specs.declared.Layout.{Layout}
use Rattle.rules.specs.Image.{rows, columns}
use Rattle.rules.specs.Limits.{InImage, Open}
use Rattle.nodes.proofs.Parts.{row_inside}
use Rattle.steps.specs.Walk.{EachColumn, RunInside, CorrectionInside, NodeInside}
use Rattle.walks.specs.Rows.{run_at, correction_row_at, row_at, CorrectionsInside, OneGrid}

pub run_inside : {size : ℕ} {p : Plane} → InImage size p → (row : ℕ) → row < rows p.geometry
    → RunInside size (run_at p row) (columns p.geometry)
run_inside o row h column k = row_inside o row column h k

pub corrections_inside : {size : ℕ} {p q : Plane} → CorrectionsInside size p q → (row : ℕ) → row < rows p.geometry
    → EachColumn (columns p.geometry) (CorrectionInside size (correction_row_at p q row))
corrections_inside o row h column k =
    record {
      latitude = run_inside o.latitude_inside row h column k;
      longitude = run_inside o.longitude_inside row (rw o.one_geometry h) column (rw o.one_geometry k);
    }

-- The corrections of a layout.
pub of_layout : {size : ℕ} {l : Layout} → Open size l → CorrectionsInside size l.latitude l.longitude
of_layout o = record { latitude_inside = o.latitude; longitude_inside = o.longitude; one_geometry = o.longitude_geometry }

pub nodes_inside : {size : ℕ} {l : Layout} → OneGrid size l → (row : ℕ) → row < rows l.latitude.geometry
    → EachColumn (columns l.latitude.geometry) (NodeInside size (row_at l row))
nodes_inside o row h column k =
    let c = corrections_inside (of_layout o.layout) row h column k in
    record {
      latitude = c.latitude;
      longitude = c.longitude;
      height = run_inside o.layout.height row (rw o.one_geometry h) column (rw o.one_geometry k);
    }
