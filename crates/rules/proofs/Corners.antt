-- Where all nodes are within a limit, so are the four corners of every cell, and question 9 lets them pass.
use mathlib.Core.Bool.{true}
use mathlib.Core.Path.{◌≡◌}
use Prim.Native.Nat.{ℕ, ◌≤◌}
use lib.IntN.{ℤ, nat_abs}
use borrow.Author.Tests.{le-leb}
use Rattle.integers.specs.Booleans.{and_both}
use Rattle.rules.specs.declared.Geometry.{Geometry}
use Rattle.rules.specs.declared.Point.{Point}
use Rattle.rules.specs.declared.Square.{Square}
use Rattle.rules.specs.Limits.{GeometryPasses, CornersWithin}
use Rattle.rules.specs.Bilinear.{corners_for}
use Rattle.rules.specs.Lookup.{square_passes}
use Rattle.rules.proofs.Cells.{at_corners}
use Rattle.rules.proofs.Slopes.{NodesWithin}

pub cell_within : {limit : ℕ} {g : Geometry} (f : ℕ → ℕ → ℤ) → GeometryPasses g → NodesWithin limit g f → (p : Point)
    → CornersWithin limit (corners_for g f p)
cell_within {limit} f o all p =
    let n = at_corners (λ row column. nat_abs (f row column) ≤ limit) o all p in
    record { southwest = n.southwest; southeast = n.southeast; northwest = n.northwest; northeast = n.northeast }

pub square_passes_lem : (limit : ℕ) (c : Square) → CornersWithin limit c → square_passes limit c ≡ true
unfolding square_passes
square_passes_lem limit c h =
    and_both
    (and_both (le-leb _ _ h.southwest) (le-leb _ _ h.southeast))
    (and_both (le-leb _ _ h.northwest) (le-leb _ _ h.northeast))
