-- The corrections of an image of kind 0 or 3 as a conversion writes them, in planes or in nodes: where each of them stands in an image that
-- has them anywhere; and written in the image's own layout they are the bytes that it has.
use Rattle.std.specs.Prelude.{Bool, List, ◌++◌, ◌≡◌, ℕ, zero, suc, ◌+◌, ◌-◌, ◌*◌, ◌≤◌, ◌<◌, length, take, drop}
use Rattle.std.proofs.Math.Bool.{true, false}
use Rattle.std.proofs.Common.{append_assoc, ◌∙◌, arith, take_at, drop_at, take-add, drop-drop}
use Rattle.std.proofs.Math.ListN.{length-append}
use Rattle.rules.specs.declared.Geometry.{Geometry}
use Rattle.rules.specs.Image.{rows, columns, correction_back_of, correction_stride, to_longitudes, node_count}
use Rattle.rules.specs.Files.{in_sequence}
use Rattle.rules.specs.Planes.{value_bytes, corrections_in_planes, corrections_in_nodes}
use Rattle.rules.proofs.Lent.{taken_length}
use Rattle.rules.proofs.Buffer.{first_parts_long, part_among, parts_same}
use Rattle.layouts.specs.Directions.{corrections_in}
use Rattle.layouts.specs.Corrections.{layout_in}

-- ---- parts of one size that stand one after another in a list
consecutive : (size at : ℕ) (b : List ℕ) (n : ℕ) → in_sequence (λ i. take size (drop (at + size * i) b)) n ≡ take (size * n) (drop at b)
unfolding in_sequence
consecutive size at b zero = let none : size * 0 ≡ 0 = omega arith in rw none
consecutive size at b (suc n) =
    let more : size * suc n ≡ size * n + size = omega arith in
    rw (consecutive size at b n, more, take-add (size * n) size (drop at b), drop-drop (size * n) at b)

-- The n elements from `at` on are w, which stands there after u.
stands : (l u w v : List ℕ) (at n : ℕ) → u ++ (w ++ v) ≡ l → length u ≡ at → length w ≡ n → take n (drop at l) ≡ w
stands l u w v at n e long wide = rw (← e, drop_at u (w ++ v) at long, take_at w v n wide)

-- Each value is four bytes long.
module _ (b : List ℕ) (c h : Geometry) (fits : correction_back_of c h ≤ length b) (n : ℕ) (l : n < node_count c) where
  latitudes_long : (in_planes : Bool) → length (value_bytes b (layout_in in_planes b c h).latitude n) ≡ 4
  latitudes_long true = taken_length 4 b (length b - correction_back_of c h + 4 * n) (omega arith)
  latitudes_long false = taken_length 4 b (length b - correction_back_of c h + 8 * n) (omega arith)

  longitudes_long : (in_planes : Bool) → length (value_bytes b (layout_in in_planes b c h).longitude n) ≡ 4
  longitudes_long true = taken_length 4 b (length b - correction_back_of c h + 4 * rows c * columns c + 4 * n) (omega arith)
  longitudes_long false = taken_length 4 b (length b - correction_back_of c h + 4 + 8 * n) (omega arith)

-- The first n of them, one after another, and the first n nodes;
module _ (in_planes : Bool) (b : List ℕ) (c h : Geometry) (fits : correction_back_of c h ≤ length b) where
  abbrev latitudes : ℕ → List ℕ
  latitudes = value_bytes b (layout_in in_planes b c h).latitude

  abbrev longitudes : ℕ → List ℕ
  longitudes = value_bytes b (layout_in in_planes b c h).longitude

  abbrev nodes : ℕ → List ℕ
  nodes n = latitudes n ++ longitudes n

  latitudes_first : (n : ℕ) → n ≤ node_count c → length (in_sequence latitudes n) ≡ 4 * n
  latitudes_first n m = first_parts_long 4 latitudes n (λ i l. latitudes_long b c h fits i (omega arith) in_planes)

  longitudes_first : (n : ℕ) → n ≤ node_count c → length (in_sequence longitudes n) ≡ 4 * n
  longitudes_first n m = first_parts_long 4 longitudes n (λ i l. longitudes_long b c h fits i (omega arith) in_planes)

  nodes_first : (n : ℕ) → n ≤ node_count c → length (in_sequence nodes n) ≡ 8 * n
  nodes_first n m =
      first_parts_long 8 nodes n (λ i l.
      let k : i < node_count c = omega arith in
      rw length-append (omega (arith, latitudes_long b c h fits i k in_planes, longitudes_long b c h fits i k in_planes)))

  -- all of them, as long in either layout.
  pub corrections_long : (written : Bool) → length (corrections_in written b (layout_in in_planes b c h)) ≡ 8 * node_count c
  unfolding corrections_in_planes corrections_in_nodes
  corrections_long true =
      rw length-append (omega (arith, latitudes_first (node_count c) (omega arith), longitudes_first (node_count c) (omega arith)))
  corrections_long false = nodes_first (node_count c) (omega arith)

  -- Where value n stands in an image that has them between anything.
  module _ (before rest : List ℕ) (n : ℕ) (l : n < node_count c) where
    abbrev written : Bool → List ℕ
    written layout = before ++ (corrections_in layout b (layout_in in_planes b c h) ++ rest)

    pub latitude_written : (layout : Bool) → take 4 (drop (length before + correction_stride layout * n) (written layout)) ≡ latitudes n
    unfolding corrections_in_planes corrections_in_nodes
    latitude_written true =
        let r = part_among 4 latitudes (node_count c) n l in
        stands (written true) (before ++ in_sequence latitudes n) (latitudes n) (r.0 ++ (in_sequence longitudes (node_count c) ++ rest))
        (length before + 4 * n) 4
        (rw r.1 (simp append_assoc))
        (rw length-append (omega (arith, latitudes_first n (omega arith))))
        (latitudes_long b c h fits n l in_planes)
    latitude_written false =
        let r = part_among 8 nodes (node_count c) n l in
        stands (written false) (before ++ in_sequence nodes n) (latitudes n) (longitudes n ++ (r.0 ++ rest))
        (length before + 8 * n) 4
        (rw r.1 (simp append_assoc))
        (rw length-append (omega (arith, nodes_first n (omega arith))))
        (latitudes_long b c h fits n l in_planes)

    pub longitude_written : (layout : Bool)
        → take 4 (drop (length before + to_longitudes layout c + correction_stride layout * n) (written layout)) ≡ longitudes n
    unfolding corrections_in_planes corrections_in_nodes
    longitude_written true =
        let r = part_among 4 longitudes (node_count c) n l in
        let all = in_sequence latitudes (node_count c) in
        stands (written true) (before ++ (all ++ in_sequence longitudes n)) (longitudes n) (r.0 ++ rest)
        (length before + 4 * rows c * columns c + 4 * n) 4
        (rw r.1 (simp append_assoc))
        (simp length-append (omega (arith, latitudes_first (node_count c) (omega arith), longitudes_first n (omega arith))))
        (longitudes_long b c h fits n l in_planes)
    longitude_written false =
        let r = part_among 8 nodes (node_count c) n l in
        stands (written false) (before ++ (in_sequence nodes n ++ latitudes n)) (longitudes n) (r.0 ++ rest)
        (length before + 4 + 8 * n) 4
        (rw r.1 (simp append_assoc))
        (simp length-append (omega (arith, nodes_first n (omega arith), latitudes_long b c h fits n l in_planes)))
        (longitudes_long b c h fits n l in_planes)

-- In the image's own layout.
pub own_corrections : (in_planes : Bool) (b : List ℕ) (c h : Geometry)
    → corrections_in in_planes b (layout_in in_planes b c h) ≡ take (8 * node_count c) (drop (length b - correction_back_of c h) b)
unfolding corrections_in_planes corrections_in_nodes
own_corrections true b c h =
    let first = length b - correction_back_of c h in
    let both : 4 * node_count c + 4 * node_count c ≡ 8 * node_count c = omega arith in
    let between : first + 4 * rows c * columns c ≡ first + 4 * node_count c = omega arith in
    rw (
      consecutive 4 first b (node_count c),
      between,
      consecutive 4 (first + 4 * node_count c) b (node_count c),
      ← both,
      take-add (4 * node_count c) (4 * node_count c) (drop first b),
      drop-drop (4 * node_count c) first b,
    )
own_corrections false b c h =
    let first = length b - correction_back_of c h in
    let node : (i : ℕ) → take 4 (drop (first + 8 * i) b) ++ take 4 (drop (first + 4 + 8 * i) b) ≡ take 8 (drop (first + 8 * i) b) =
    λ i.
    let place : first + 4 + 8 * i ≡ first + 8 * i + 4 = omega arith in
    rw (place, take-add 4 4 (drop (first + 8 * i) b), drop-drop 4 (first + 8 * i) b) in
    parts_same (node_count c) (λ i l. node i) ∙ consecutive 8 first b (node_count c)
