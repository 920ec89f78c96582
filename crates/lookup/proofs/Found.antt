-- The lookups in terms of the held cell around a point, the limits that question 9 establishes of the values there, and the cell held for a
-- further point.
use Rattle.std.specs.Prelude.{Some}
use mathlib.Core.Bool.{Bool, true, false, cond, ◌&&◌}
use mathlib.Core.List.{List}
use mathlib.Core.Path.{◌≡◌, refl, sym, ap, subst, ◌∙◌}
use Prim.Native.Nat.{ℕ, ◌-◌, ◌*◌, ◌≤◌}
use native.Mathlib.Nat.{mul-pos}
use native.Mathlib.Omega.{arith}
use lib.Dec.{leb, ltb}
use lib.IntN.{ℤ, nat_abs}
use Rattle.integers.specs.Booleans.{and_left, and_right, all_three}
use Rattle.integers.specs.Machine.{zarith}
use Rattle.rules.specs.declared.Geometry.{Geometry}
use Rattle.rules.specs.declared.Layout.{Layout}
use Rattle.rules.specs.declared.Point.{Point}
use Rattle.rules.specs.declared.Square.{Square}
use Rattle.rules.specs.declared.Correction.{Correction}
use Rattle.rules.specs.Units.{correction_limit, quasi_geoid_limit}
use Rattle.rules.specs.Answers.{Outcome, values, ask}
use Rattle.rules.specs.Image.{Grid, grid_of}
use Rattle.rules.specs.Limits.{OpenAround, CornersWithin, CorrectionWithin}
use Rattle.rules.specs.Bilinear.{corners_for, value_at}
use Rattle.rules.specs.Lookup.{inside, square_passes, question9, corrections_pass, corrections_at, correction_lookup}
use Rattle.rules.specs.Lookup.{correction_grid_lookup}
use Rattle.rules.specs.Lookup.{height_lookup, grid_for}
use Rattle.rules.specs.Ways.{bounded_source}
use Rattle.rules.proofs.Answers.{asked}
use Rattle.rules.proofs.Cells.{on_latitude, on_longitude}
use Rattle.rules.proofs.Limits.{corners_within}
use Rattle.rules.proofs.Weights.{value_within}
use Rattle.axis.specs.Place.{reaches}
use Rattle.rules.specs.declared.Spacings.{Spacings}
use Rattle.lookup.specs.declared.HeldCell.{HeldCell}
use Rattle.lookup.specs.declared.CellCorners.{CellCorners}
use Rattle.rules.specs.declared.PlaceInCell.{PlaceInCell}
use Rattle.bilinear.specs.Mean.{InCell}
use Rattle.lookup.specs.declared.Placed.{Placed}
use Rattle.lookup.specs.Held.{Bounded, spacings_of, offsets_of, cell_place, zeros, cell_corners, corners_pass, placed_cell, held_at}
use Rattle.lookup.specs.Held.{no_cell, lies_in, place_in, Holds, value_in, corrections_in, height_in, values_in}
use Rattle.lookup.proofs.Covering.{Serves, serves, bounded_around, part_in, side_is, same_along}
use Rattle.lookup.proofs.Places.{in_cell}

-- ---- what question 9 says of corners that pass it
pub record Passing (c : CellCorners) : Type 0 where
  pub latitude : CornersWithin correction_limit c.latitude
  pub longitude : CornersWithin correction_limit c.longitude
  pub height : CornersWithin quasi_geoid_limit c.height

pub passing_corners : {c : CellCorners} → corners_pass c ≡ true → Passing c
unfolding corners_pass
passing_corners {c} t =
    let latitude = square_passes correction_limit c.latitude in
    let longitude = square_passes correction_limit c.longitude in
    let a = all_three latitude longitude (square_passes quasi_geoid_limit c.height) t in
    record { latitude = corners_within _ _ a.0; longitude = corners_within _ _ a.1; height = corners_within _ _ a.2 }

pub passing : {h : HeldCell} {bounds : Geometry} {p : Point} → Holds h bounds p → h.passes ≡ true → Passing h.corners
passing k t = passing_corners (sym k.asked ∙ t)

-- Heights within their limit are within that of corrections, which the weighting asks for.
pub heights_within : {c : Square} → CornersWithin quasi_geoid_limit c → CornersWithin correction_limit c
heights_within w = omega arith

-- A value between corners is within their limit.
pub between_within : {M : ℕ} (c : Square) {s : Spacings} {at : PlaceInCell} → CornersWithin M c → InCell s at
    → nat_abs (value_in c s at) ≤ M
unfolding value_in
between_within c w at =
    value_within c w at.u_most at.v_most (mul-pos at.latitude_spacing.least at.longitude_spacing.least)

pub corrections_within : {h : HeldCell} {bounds : Geometry} {p : Point} → h.passes ≡ true → Holds h bounds p
    → CorrectionWithin (corrections_in h bounds p)
corrections_within {h} t k =
    let w = passing k t in
    record {
      latitude = between_within h.corners.latitude w.latitude k.place;
      longitude = between_within h.corners.longitude w.longitude k.place;
    }

-- A height that is found in a held cell is within question 9's limit.
pub height_in_within : (h : HeldCell) (bounds : Geometry) (p : Point) (z : ℤ) → Holds h bounds p
    → height_in h bounds p ≡ values (Some z) → nat_abs z ≤ quasi_geoid_limit
height_in_within h bounds p z k e =
    let t = asked h.passes 9 _ (Some z) e in
    let v : value_in h.corners.height h.spacings (place_in h bounds p) ≡ z = cc t.1 in
    rw v at (between_within _ (passing k t.0).height k.place)

-- No point lies in the cell before one is read.
pub none_lies : (bounds : Geometry) (p : Point) → lies_in no_cell bounds p ≡ true → ⊥
unfolding lies_in reaches
none_lies bounds p lies =
    let x = (offsets_of bounds p).northing in
    let below = and_right (leb 0 x) (ltb (x - 0) 0) (and_left (reaches 0 0 x) _ lies) in
    omega zarith

-- ---- the cell of a grid g around a point that it serves
module _ (bounds : Geometry) (g : Grid) (p : Point) (s : Serves bounds g.corrections p) where
  -- The point's place in the held cell is its place in the grid's.
  pub place_is : place_in (held_at bounds g p) bounds p ≡ (cell_place g.corrections p).at
  unfolding held_at
  place_is =
      let at = (cell_place g.corrections p).at in
      let north = part_in s.covers.latitude p.latitude (on_latitude g.corrections p s.bounded.point) in
      let east = part_in s.covers.longitude p.longitude (on_longitude g.corrections p s.bounded.point) in
      let u : (offsets_of bounds p).northing - ((offsets_of bounds p).northing - at.u) ≡ at.u = omega (arith, north) in
      let v : (offsets_of bounds p).easting - ((offsets_of bounds p).easting - at.v) ≡ at.v = omega (arith, east) in
      λ i. record { u = u i; v = v i }

  -- So it holds the point.
  pub cell_holds : Bounded bounds p → (h : HeldCell) → h ≡ held_at bounds g p → Holds h bounds p
  unfolding held_at
  cell_holds b h e =
      let place = subst (InCell (spacings_of g.corrections)) (sym place_is) (in_cell s.bounded) in
      rw e (record { bounded = b; south = omega arith; west = omega arith; place = place; asked = refl })

  -- It is also the cell around a further point that the grid serves, and that lies in it.
  pub same_cell : (q : Point) → Bounded g.corrections q → (h : HeldCell) → h ≡ held_at bounds g p → lies_in h bounds q ≡ true
      → h ≡ held_at bounds g q
  unfolding held_at lies_in
  same_cell q b h e lies =
      let c = g.corrections in
      let t = rw e at lies in
      let p-north = on_latitude c p s.bounded.point in
      let p-east = on_longitude c p s.bounded.point in
      let q-north = on_latitude c q b.point in
      let q-east = on_longitude c q b.point in
      let north = s.covers.latitude in
      let east = s.covers.longitude in
      let first = reaches (held_at bounds g p).south c.latitude.spacing (offsets_of bounds q).northing in
      let row = same_along north b.geometry.latitude.sized p.latitude q.latitude p-north q-north (and_left first _ t) in
      let column = same_along east b.geometry.longitude.sized p.longitude q.longitude p-east q-east (and_right first _ t) in
      let rows = ap (λ (n : ℕ). n * c.latitude.spacing) row in
      let south : (held_at bounds g p).south ≡ (held_at bounds g q).south =
      omega (arith, side_is north p.latitude p-north, side_is north q.latitude q-north, rows) in
      let columns = ap (λ (n : ℕ). n * c.longitude.spacing) column in
      let west : (held_at bounds g p).west ≡ (held_at bounds g q).west =
      omega (arith, side_is east p.longitude p-east, side_is east q.longitude q-east, columns) in
      e ∙ (λ i. let corners : CellCorners = cell_corners g (sym row i) (sym column i) in
      record { south = south i; west = west i; spacings = spacings_of c; corners = corners; passes = corners_pass corners })

-- ---- the lookups by the corners of the point's cell
-- Question 9 of a cell's corners: zeros for heights pass it.
and_true : (a : Bool) → (a && true) ≡ a
and_true true = refl
and_true false = refl

corners_asked : (separate : Bool) (latitude longitude height : Square) →
    let a = square_passes correction_limit latitude in
    let o = square_passes correction_limit longitude in
    corners_pass (record { latitude = latitude; longitude = longitude; height = cond separate zeros height })
    ≡ cond separate (a && o) (a && (o && square_passes quasi_geoid_limit height))
unfolding corners_pass square_passes
corners_asked false latitude longitude height = refl
corners_asked true latitude longitude height = rw (and_true (square_passes correction_limit longitude))

-- One question or another.
asked_either : {A : Type 0} (t s r : Bool) (n : ℕ) (next : Outcome A) → cond t (ask s n next) (ask r n next) ≡ ask (cond t s r) n next
asked_either true s r n next = refl
asked_either false s r n next = refl

module _ (bounds : Geometry) (g : Grid) (p : Point) (s : Serves bounds g.corrections p) where
  -- The cell's answer to question 9 is the grid's, and the corrections at the point's place in it are the grid's.
  cell_asked : (held_at bounds g p).passes ≡ cond g.separate (corrections_pass g p) (question9 g p)
  unfolding held_at question9 corrections_pass
  cell_asked = corners_asked g.separate _ _ _

  cell_corrections : corrections_in (held_at bounds g p) bounds p ≡ corrections_at g p
  unfolding held_at value_at value_in
  cell_corrections =
      let c = corners_for g.corrections in
      let at = place_is bounds g p s in
      λ i. record {
        latitude = value_in (c g.latitude p) (spacings_of g.corrections) (at i);
        longitude = value_in (c g.longitude p) (spacings_of g.corrections) (at i);
      }

  grid_lookup : ask (held_at bounds g p).passes 9 (values (corrections_in (held_at bounds g p) bounds p))
      ≡ cond g.separate (correction_grid_lookup g p) (correction_lookup g p)
  unfolding correction_lookup correction_grid_lookup
  grid_lookup =
      (λ i. ask (cell_asked i) 9 (values (cell_corrections i)))
      ∙ sym (asked_either g.separate (corrections_pass g p) (question9 g p) 9 (values (corrections_at g p)))

  -- Where heights stand at the corrections' nodes, the height at that place is the grid's too.
  pub height_from : g.separate ≡ false → g.heights ≡ g.corrections → height_in (held_at bounds g p) bounds p ≡ height_lookup g p
  unfolding height_lookup held_at value_at value_in
  height_from one same =
      let f = corners_for g.corrections g.height p in
      let passes = cell_asked ∙ (λ i. cond (one i) (corrections_pass g p) (question9 g p)) in
      let corners : (held_at bounds g p).corners.height ≡ f = λ i. cond (one i) zeros f in
      (λ i. ask (passes i) 9 (values (Some (value_in (corners i) (spacings_of g.corrections) (place_is bounds g p s i)))))
      ∙ (λ i. ask (question9 g p) 9 (values (Some (value_at (sym same i) g.height p))))

-- Where heights stand at the corrections' nodes, the corners of a point's cell answer question 9, and have all values.
module _ (g : Grid) (p : Point) (one : g.separate ≡ false) where
  pub node_asked : corners_pass (placed_cell g p).corners ≡ question9 g p
  unfolding corners_pass question9
  node_asked = rw one

  pub node_values_lem : values_in (placed_cell g p)
      ≡ record { correction = corrections_at g p; height = value_at g.corrections g.height p }
  unfolding value_at value_in
  node_values_lem = rw one

-- What question 9 says of the point's cell there, where its corners were answered.
pub record Passed (g : Grid) (p : Point) (cell : Placed CellCorners) : Type 0 where
  pub answer : question9 g p ≡ true
  pub cell_is : placed_cell g p ≡ cell
  pub corners : corners_pass cell.corners ≡ true
  pub place : InCell cell.spacings cell.at

pub passed : (g : Grid) (p : Point) {cell : Placed CellCorners} → Bounded g.corrections p → g.separate ≡ false
    → ask (question9 g p) 9 (values (placed_cell g p)) ≡ values cell → Passed g p cell
passed g p b one e =
    let t = asked (question9 g p) 9 _ _ e in
    let same : placed_cell g p ≡ _ = cc t.1 in
    record {
      answer = t.0;
      cell_is = same;
      corners = subst (λ (k : Placed CellCorners). corners_pass k.corners ≡ true) same (node_asked g p one ∙ t.0);
      place = subst (λ (k : Placed CellCorners). InCell k.spacings k.at) same (in_cell b);
    }

-- The grid that serves a point answers as the source does: a dense grid has its heights on a separate one.
by_its_grid : (b : List ℕ) (l : Layout) (p : Point) → OpenAround b l p → let k = grid_for (grid_of b l) p in
    cond k.separate (correction_grid_lookup k p) (correction_lookup k p) ≡ (bounded_source (grid_of b l)).corrections p
by_its_grid b l p o = by (l.nested && inside l.dense.geometry p) refl
  where
    by : (t : Bool) → (l.nested && inside l.dense.geometry p) ≡ t → let k = grid_for (grid_of b l) p in
        cond k.separate (correction_grid_lookup k p) (correction_lookup k p) ≡ (bounded_source (grid_of b l)).corrections p
    by true t = rw (t, (o.layout.nests (and_left _ _ t)).separate)
    by false t = rw t

-- So the source's lookup puts question 9 to the corners of the held cell, and weighs the corrections there.
pub corrections_from_lem : (b : List ℕ) (l : Layout) (p : Point) (h : HeldCell) → OpenAround b l p
    → h ≡ held_at l.latitude.geometry (grid_for (grid_of b l) p) p
    → (bounded_source (grid_of b l)).corrections p ≡ ask h.passes 9 (values (corrections_in h l.latitude.geometry p))
corrections_from_lem b l p h o e =
    rw e (sym (grid_lookup l.latitude.geometry (grid_for (grid_of b l) p) p (serves b l p o) ∙ by_its_grid b l p o))

-- Corrections that are found are within their limit.
pub found_within : (b : List ℕ) (l : Layout) (p : Point) (c : Correction) → OpenAround b l p
    → (bounded_source (grid_of b l)).corrections p ≡ values c → CorrectionWithin c
found_within b l p c o e =
    let bounds = l.latitude.geometry in
    let g = grid_for (grid_of b l) p in
    let h = held_at bounds g p in
    let t = asked h.passes 9 _ c (sym (corrections_from_lem b l p h o refl) ∙ e) in
    let k : corrections_in h bounds p ≡ c = cc t.1 in
    rw k at (corrections_within t.0 (cell_holds bounds g p (serves b l p o) (bounded_around o) h refl))
