-- Document 02, note 8: the conversion of an image of kind 0 into one of kind 3, and back: its refusals, and what it leaves in the lent
-- buffer.
use Rattle.std.specs.Prelude.{Bool, ◌&&◌, List, ◌++◌, ℕ, ◌+◌, ◌-◌, ◌*◌, eqb, length, take, drop, set}
use Rattle.rules.specs.declared.Plane.{Plane}
use Rattle.rules.specs.declared.Layout.{Layout}
use Rattle.rules.specs.Answers.{Outcome, values, ask, and_then, after}
use Rattle.rules.specs.Image.{edition_of, two_grid_trailer_of, node_count}
use Rattle.rules.specs.Questions.{opening}
use Rattle.rules.specs.Files.{in_sequence}

-- An image is of edition 2 and of this kind.
unfoldable pub is_of_kind : (kind : ℕ) → List ℕ → Bool
is_of_kind kind b = eqb (edition_of b) 2 && eqb (two_grid_trailer_of b).kind kind

-- The bytes from the first node to the image's end.
abbrev pub bytes_from_nodes : List ℕ → Layout → ℕ
bytes_from_nodes b l = length b - l.latitude.first

-- The refusals, in their order, for a buffer of `room` bytes: the image's number, 2 for another kind or edition, 14 for the buffer; or
-- where the image's values lie.
unfoldable pub convertible : (kind : ℕ) → List ℕ → (room : ℕ) → Outcome Layout
convertible kind b room =
    and_then (opening b) (λ l.
    ask (is_of_kind kind b) 2
    (ask (eqb room (bytes_from_nodes b l)) 14
    (values l)))

-- The four bytes of a plane's value n, counted from 0.
abbrev pub value_bytes : List ℕ → Plane → (n : ℕ) → List ℕ
value_bytes b p n = take 4 (drop (p.first + p.stride * n) b)

-- All of them, one after another.
abbrev pub plane_bytes : List ℕ → Plane → List ℕ
plane_bytes b p = in_sequence (value_bytes b p) (node_count p.geometry)

-- The bytes of node n, in two planes: both values.
abbrev pub node_bytes : List ℕ → (latitude longitude : Plane) → (n : ℕ) → List ℕ
node_bytes b p q n = value_bytes b p n ++ value_bytes b q n

-- The corrections of an image in planes, all latitude corrections and then all longitude corrections; and the same in nodes.
unfoldable pub corrections_in_planes : List ℕ → Layout → List ℕ
corrections_in_planes b l = plane_bytes b l.latitude ++ plane_bytes b l.longitude

unfoldable pub corrections_in_nodes : List ℕ → Layout → List ℕ
corrections_in_nodes b l = in_sequence (node_bytes b l.latitude l.longitude) (node_count l.latitude.geometry)

-- What follows them, the heights and the trailer, with another kind. Of its four bytes, 8 before the end, the first is changed: kinds 0 and
-- 3 both have zeros in the others.
unfoldable pub rest_with_kind : (kind : ℕ) → List ℕ → Layout → List ℕ
rest_with_kind kind b l = drop l.height.first (set b (length b - 8) kind)

-- Kind 3 from kind 0, in a buffer of `room` bytes: the image from its first node to its end, or a number.
unfoldable pub planes_from_nodes : List ℕ → (room : ℕ) → Outcome (List ℕ)
planes_from_nodes b room = and_then (convertible 0 b room) (λ l. values (corrections_in_planes b l ++ rest_with_kind 3 b l))

-- Kind 0 from kind 3.
unfoldable pub nodes_from_planes : List ℕ → (room : ℕ) → Outcome (List ℕ)
nodes_from_planes b room = and_then (convertible 3 b room) (λ l. values (corrections_in_nodes b l ++ rest_with_kind 0 b l))

-- What the buffer holds after each.
abbrev pub planes_after : List ℕ → (buffer : List ℕ) → List ℕ
planes_after b buffer = after (planes_from_nodes b (length buffer)) buffer

abbrev pub nodes_after : List ℕ → (buffer : List ℕ) → List ℕ
nodes_after b buffer = after (nodes_from_planes b (length buffer)) buffer
