-- The rows and the columns of a plane as grid lines, the values of a line in an image, questions 21 and 22 of two sides, and that lines lie
-- in the image.
use Rattle.std.specs.Prelude.{Bool, ◌&&◌, List, ℕ, ◌+◌, ◌-◌, ◌*◌, ◌≤◌, ◌<◌, ℤ}
use Rattle.rules.specs.declared.Plane.{Plane}
use Rattle.rules.specs.declared.Run.{Run}
use Rattle.rules.specs.Units.{longitude_limit, within}
use Rattle.rules.specs.Image.{columns}
use Rattle.rules.specs.Limits.{AxisPasses}
use Rattle.rules.specs.Check.{both_zero}
use Rattle.steps.specs.Walk.{run_value}
use Rattle.returning.specs.Sides.{sides_agree}
use Rattle.border.specs.declared.Lines.{Lines}

abbrev pub rows_of : Plane → Lines
rows_of p =
    record {
      across = p.geometry.latitude;
      along = p.geometry.longitude;
      first = p.first;
      apart = p.stride * columns p.geometry;
      stride = p.stride;
    }

abbrev pub columns_of : Plane → Lines
columns_of p =
    record {
      across = p.geometry.longitude;
      along = p.geometry.latitude;
      first = p.first;
      apart = p.stride;
      stride = p.stride * columns p.geometry;
    }

-- Where the values of a line lie, and the values by line and node.
abbrev pub line_run : Lines → (line : ℕ) → Run
line_run l line = record { first = l.first + l.apart * line; stride = l.stride }

abbrev pub line_value : List ℕ → Lines → (line node : ℕ) → ℤ
line_value b l line = run_value b (line_run l line)

-- The first and the last of the dense lines agree with the coarse ones on which they lie.
abbrev pub lines_agree : List ℕ → (coarse dense : Lines) → Bool
lines_agree b c d = sides_agree c.across d.across c.along d.along (line_value b c) (line_value b d)

-- A node's values on two runs are zero.
abbrev pub are_zero : List ℕ → (first last : Run) (node : ℕ) → Bool
are_zero b first last node = within 0 (run_value b first node) && within 0 (run_value b last node)

-- The first and the last line are zero.
abbrev pub sides_zero : List ℕ → Lines → Bool
sides_zero b l = both_zero l.along.count (line_value b l 0) (line_value b l (l.across.count - 1))

-- In an image of `size` bytes: both axes pass questions 3 to 5, and the four bytes of each value are in the image.
pub record LinesInside (size : ℕ) (l : Lines) : Type 0 where
  pub across : AxisPasses longitude_limit l.across
  pub along : AxisPasses longitude_limit l.along
  pub bytes : (line node : ℕ) → line < l.across.count → node < l.along.count
      → l.first + l.apart * line + l.stride * node + 4 ≤ size
