-- Document 02, notes 2, 4 and 5: what the two grid files have in common, a number that must not be negative, the bytes of the nodes that
-- are written into a lent buffer, and what a conversion hands back.
use Rattle.std.specs.Prelude.{List, [], ◌∷◌, ◌++◌, ℕ, zero, suc, ◌-◌, ◌/◌, ◌%◌, ℤ, pos, negsuc}
use Rattle.rules.specs.declared.Geometry.{Geometry}
use Rattle.rules.specs.declared.FileGrids.{FileGrids}
use Rattle.rules.specs.Answers.{Outcome, values, number}
use Rattle.rules.specs.Image.{south, west, rows, columns}

-- A spacing, a count or a difference of bounds as a natural number. A negative one becomes 0, which questions 3 and 4 refuse alike.
abbrev pub natural : ℤ → ℕ
natural (pos n) = n
natural (negsuc n) = 0

-- The four bytes of a number, as an image has them: its two's complement, the lowest byte first.
abbrev pub bits_of : ℤ → ℕ
bits_of (pos n) = n
bits_of (negsuc n) = 4294967295 - n

abbrev pub bytes_of : ℤ → List ℕ
bytes_of z = let n = bits_of z in (n % 256) ∷ (n / 256 % 256) ∷ (n / 65536 % 256) ∷ (n / 16777216 % 256) ∷ []

-- The bytes of the first so many nodes, or rows of nodes, one after another.
unfoldable pub in_sequence : (ℕ → List ℕ) → ℕ → List ℕ
in_sequence part zero = []
in_sequence part (suc n) = in_sequence part n ++ part n

-- What a conversion over C leaves in its lent array: the geometry in the trailer's order, of an NTv2 file that of the first grid and then
-- that of the dense one; or with a number what was there before.
abbrev pub geometry_numbers : Geometry → List ℤ
geometry_numbers g = south g ∷ west g ∷ pos g.latitude.spacing ∷ pos g.longitude.spacing ∷ pos (rows g) ∷ pos (columns g) ∷ []

abbrev pub geometry_after : Outcome Geometry → List ℤ → List ℤ
geometry_after (values g) before = geometry_numbers g
geometry_after (number n) before = before

abbrev pub geometries_after : Outcome FileGrids → List ℤ → List ℤ
geometries_after (values g) before = geometry_numbers g.coarse ++ geometry_numbers g.dense
geometries_after (number n) before = before
