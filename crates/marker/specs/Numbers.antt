-- The numbers that a call hands out of what it found, each in the order of include/marker.h.
use Rattle.std.specs.Prelude.{List, [], ◌∷◌, ◌++◌, ℕ, ℤ, pos}
use Rattle.rules.specs.declared.Findings.{Findings}
use Rattle.rules.specs.declared.Notation.{Notation}
use Rattle.rules.specs.declared.FileGrids.{FileGrids}
use Rattle.rules.specs.Files.{geometry_numbers}

-- Of a passed grid check.
abbrev pub findings_numbers : Findings → List ℤ
findings_numbers f =
    pos f.latitude.northward ∷ pos f.latitude.eastward
    ∷ pos f.longitude.northward ∷ pos f.longitude.eastward
    ∷ pos f.height.northward ∷ pos f.height.eastward ∷ []

-- Of a written notation.
abbrev pub notation_numbers : Notation → List ℕ
notation_numbers n = n.degrees ∷ n.minutes ∷ n.fraction ∷ n.letter ∷ []

-- Of an NTv2 file's grids.
abbrev pub grids_numbers : FileGrids → List ℤ
grids_numbers g = geometry_numbers g.coarse ++ geometry_numbers g.dense
