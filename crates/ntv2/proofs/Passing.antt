-- What refusal 18 lets pass: the lengths of the file and of both buffers, and geometries that pass or are none.
use mathlib.Core.Bool.{Bool, true, false, ◌&&◌}
use mathlib.Core.List.{List}
use mathlib.Core.Path.{◌≡◌, refl, subst}
use Prim.Native.Nat.{ℕ, ◌+◌, ◌-◌, ◌*◌, ◌≤◌}
use native.Mathlib.Nat.{mul-le-mul}
use native.Mathlib.Omega.{arith}
use lib.Dec.{leb, eqb}
use lib.ListN.{length, drop, length-drop}
use borrow.Author.Tests.{leb-true, eqb-true}
use Rattle.std.proofs.lemmas.Grind.{common_steps}
use Rattle.integers.specs.Booleans.{and_left, and_right}
use Rattle.rules.specs.declared.FileGrids.{FileGrids}
use Rattle.rules.specs.Answers.{ask, values, number}
use Rattle.rules.specs.Units.{count_most}
use Rattle.rules.specs.Image.{rows, columns, node_count}
use Rattle.rules.specs.Limits.{GeometryPasses, SmallGeometry, BothHandedBack}
use Rattle.rules.specs.Ntv2.{none_text, overview_passes, name_of, parent_of, grid_header_of, header_passes, grid_passes, closed}
use Rattle.rules.specs.Ntv2.{first_grid, subgrid_after, has_subgrid, subgrid_passes, rest_passes, question18, subgrid_header_of, grids_of}
use Rattle.rules.specs.Ntv2.{question19, corrections_from}
use Rattle.rules.proofs.Answers.{asked}
use Rattle.rules.proofs.Files.{passes_small, none_small, both_handed_back}
use Rattle.ntv2_headers.proofs.Header.{header_establishes}

-- A grid that passes.
pub record GridIs (g : List ℕ) (room : ℕ) : Type 0 where
  pub long : 176 ≤ length g
  pub geometry : GeometryPasses (grid_header_of g)
  pub room_is : room ≡ 8 * node_count (grid_header_of g)

pub grid_is : (g : List ℕ) (parent room : ℕ) → grid_passes g parent room ≡ true → GridIs g room
unfolding grid_passes
grid_is g parent room h =
    let named = eqb (parent_of g) parent in
    let space = eqb room (8 * node_count (grid_header_of g)) in
    let i = and_right (leb 176 (length g)) (named && (header_passes g && space)) h in
    let j = and_right named (header_passes g && space) i in
    record {
      long = leb-true 176 (length g) (and_left (leb 176 (length g)) _ h);
      geometry = header_establishes g (and_left (header_passes g) space j);
      room_is = eqb-true room (8 * node_count (grid_header_of g)) (and_right (header_passes g) space j);
    }

-- So it has no more nodes than a grid may have, as a header that passes.
pub header_sized : (g : List ℕ) → header_passes g ≡ true → let h = grid_header_of g in (rows h ≤ count_most) × (columns h ≤ count_most)
header_sized g h = let p = header_establishes g h in (p.latitude.sized.count_most, p.longitude.sized.count_most)

pub grid_sized : (g : List ℕ) (parent room : ℕ) → grid_passes g parent room ≡ true → let h = grid_header_of g in
    (176 ≤ length g) × (rows h ≤ count_most) × (columns h ≤ count_most)
grid_sized g parent room h =
    let i = grid_is g parent room h in
    (i.long, i.geometry.latitude.sized.count_most, i.geometry.longitude.sized.count_most)

pub nodes_most : (rows columns : ℕ) → rows ≤ count_most → columns ≤ count_most → rows * columns ≤ count_most * count_most
nodes_most rows columns h k = mul-le-mul {n₂ = count_most} {m₂ = count_most} h k

-- A file that ends before a grid begins has none there; one with an overview, and with a first grid, is as long.
pub too_short : (b : List ℕ) (n parent room : ℕ) → length b ≤ n → grid_passes (drop n b) parent room ≡ false
unfolding grid_passes
too_short b n parent room h = grind (arith, common_steps, length-drop n b)

pub overview_long : (b : List ℕ) → overview_passes b ≡ true → 176 ≤ length b
unfolding overview_passes
overview_long b h = grind (arith, common_steps)

pub first_long : (b : List ℕ) (parent room : ℕ) → grid_passes (first_grid b) parent room ≡ true → 352 ≤ length b
first_long b parent room h = omega (arith, (grid_is (first_grid b) parent room h).long, length-drop 176 b)

-- What follows the first grid in a file that passes: its nodes end where a subgrid or END begins, and a subgrid has room for its own.
pub record RestIs (b : List ℕ) (nodes room : ℕ) : Type 0 where
  pub geometry : SmallGeometry (subgrid_header_of b nodes)
  pub size : 352 + 16 * nodes ≤ length b
  pub dense_size : 16 * node_count (subgrid_header_of b nodes) ≤ length b - (528 + 16 * nodes)
  pub room_is : room ≡ 8 * node_count (subgrid_header_of b nodes)

closed_long : (g : List ℕ) (nodes : ℕ) → closed g nodes ≡ true → length g ≡ 192 + 16 * nodes
unfolding closed
closed_long g nodes h = eqb-true (length g) (192 + 16 * nodes) (and_left (eqb (length g) (192 + 16 * nodes)) _ h)

pub rest_is : (b : List ℕ) (nodes room : ℕ) → rest_passes b nodes room ≡ true → RestIs b nodes room
unfolding rest_passes subgrid_passes
rest_is b nodes room h = by (has_subgrid b) refl
  where
    by : (t : Bool) → has_subgrid b ≡ t → RestIs b nodes room
    by true e =
        let g = subgrid_after b nodes in
        let k : (grid_passes g (name_of (first_grid b)) room && closed g (node_count (grid_header_of g))) ≡ true = rw e at h in
        let i = grid_is g (name_of (first_grid b)) room (and_left (grid_passes g (name_of (first_grid b)) room) _ k) in
        let long = closed_long g _ (and_right (grid_passes g (name_of (first_grid b)) room) _ k) in
        let cut = length-drop (352 + 16 * nodes) b in
        record {
          geometry = rw e (passes_small (grid_header_of g) i.geometry);
          size = omega (arith, cut, long);
          dense_size = rw e (omega (arith, cut, long));
          room_is = rw e i.room_is;
        }
    by false e =
        let k : (eqb room 0 && closed (first_grid b) nodes) ≡ true = rw e at h in
        let long = closed_long (first_grid b) nodes (and_right (eqb room 0) _ k) in
        let cut = length-drop 176 b in
        record {
          geometry = rw e none_small;
          size = omega (arith, cut, long);
          dense_size = rw e (omega arith);
          room_is = rw e (eqb-true room 0 (and_left (eqb room 0) _ k));
        }

-- What a file that passes has: both grids.
pub record FileIs (b : List ℕ) (room dense_room : ℕ) : Type 0 where
  pub coarse : GridIs (first_grid b) room
  pub rest : RestIs b (node_count (grid_header_of (first_grid b))) dense_room

pub file_is : (b : List ℕ) (room dense_room : ℕ) → question18 b room dense_room ≡ true → FileIs b room dense_room
unfolding question18
file_is b room dense_room h =
    let g = first_grid b in
    let n = node_count (grid_header_of g) in
    let i = and_right (overview_passes b) (grid_passes g none_text room && rest_passes b n dense_room) h in
    record {
      coarse = grid_is g none_text room (and_left (grid_passes g none_text room) (rest_passes b n dense_room) i);
      rest = rest_is b n dense_room (and_right (grid_passes g none_text room) (rest_passes b n dense_room) i);
    }

-- What a conversion tells: a file that passes, of nodes that pass, and its geometries.
pub converted : (b : List ℕ) (room dense_room : ℕ) (g : FileGrids) → corrections_from b room dense_room ≡ values g
    → FileIs b room dense_room × (question19 b (node_count g.coarse) (node_count g.dense) ≡ true) × (grids_of b ≡ g)
unfolding corrections_from
converted b room dense_room g h =
    let q = asked (question18 b room dense_room) 18 _ g h in
    let n = asked (question19 b (node_count (grids_of b).coarse) (node_count (grids_of b).dense)) 19 _ g q.1 in
    let same : grids_of b ≡ g = cc in (
      file_is b room dense_room q.0,
      subst (λ (g : FileGrids). question19 b (node_count g.coarse) (node_count g.dense) ≡ true) same n.0,
      same,
    )

-- The geometries that are handed back have small numbers.
pub converted_small : (b : List ℕ) (room dense_room : ℕ) → BothHandedBack (corrections_from b room dense_room)
converted_small b room dense_room = both_handed_back (corrections_from b room dense_room) by
  where
    by : (g : FileGrids) → corrections_from b room dense_room ≡ values g → SmallGeometry g.coarse × SmallGeometry g.dense
    by g h =
        let c = converted b room dense_room g h in
        let i = c.0 in
        subst (λ (g : FileGrids). SmallGeometry g.coarse × SmallGeometry g.dense) c.2
        (passes_small (grid_header_of (first_grid b)) i.coarse.geometry, i.rest.geometry)

-- Tests of which the first fails are refused with its number.
pub first_refused : {A B : Type 0} (s t : Bool) (n m : ℕ) (a : A) (b : B) → ask s n (values a) ≡ number m → ask (s && t) n (values b) ≡ number m
first_refused true t n m a b e = let z : ◌≡◌ {A = ℕ} 0 1 = cc in absurd (omega arith)
first_refused false t n m a b e = cc
