-- What the code asks of a grid: that its bytes have its nodes, and of a shift that it becomes a correction within the limit.
use Rattle.std.specs.Prelude.{Bool, true, ◌&&◌, List, ◌≡◌, ℕ, ◌-◌, ◌*◌, ◌≤◌, ◌<◌, length}
use Rattle.rules.specs.Units.{within, correction_limit}
use Rattle.rules.specs.Floats.{binary32, finite, value_of}
use Rattle.rules.specs.Ntv2.{arcseconds, turned, shifts_fit, file_node}

-- So many nodes after a grid's header, of sixteen bytes each.
abbrev pub HasNodes : List ℕ → (nodes : ℕ) → Type 0
HasNodes g nodes = 16 * nodes ≤ length g - 176

-- A shift by its bits, finite and with a correction within the limit.
unfoldable pub shift_fits : (bits : ℕ) → Bool
shift_fits bits = finite binary32 bits && within correction_limit (arcseconds (value_of binary32 bits))

-- The same of one whose sign is turned.
unfoldable pub turned_fits : (bits : ℕ) → Bool
turned_fits bits = finite binary32 bits && within correction_limit (arcseconds (turned (value_of binary32 bits)))

-- All shifts of a row are.
unfoldable pub RowFits : List ℕ → (columns row : ℕ) → Type 0
RowFits b columns row = (column : ℕ) → column < columns → shifts_fit b (file_node columns row column) ≡ true
