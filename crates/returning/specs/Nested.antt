-- The corrections of an image with a dense grid that passes the check: they are answered everywhere in the coarse bounds, by the dense grid
-- in its own, and are steady across its border.
use Rattle.std.specs.Prelude.{cond, ℕ, ℤ}
use Rattle.rules.specs.declared.Point.{Point}
use Rattle.rules.specs.declared.Correction.{Correction}
use Rattle.rules.specs.Image.{Grid}
use Rattle.rules.specs.Bilinear.{value_at}
use Rattle.rules.specs.Lookup.{inside}

-- One correction, and both: in the dense bounds, all four included, that of the dense grid, else the coarse one.
abbrev pub nested_value : Grid → (coarse dense : ℕ → ℕ → ℤ) → Point → ℤ
nested_value g e f q = cond (inside g.dense q) (value_at g.dense f q) (value_at g.corrections e q)

abbrev pub nested_corrections : Grid → Point → Correction
nested_corrections g q =
    record { latitude = nested_value g g.latitude g.dense_latitude q; longitude = nested_value g g.longitude g.dense_longitude q }
