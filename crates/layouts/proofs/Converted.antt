-- An image of kind 0 or 3, and the image that has what a conversion into either layout makes of it, after anything: it opens with the same
-- geometries and in that layout, and has the same nodes; and written in the layout of the first image again it gives the bytes of that one.
use Rattle.std.specs.Prelude.{Bool, ◌≡◌, ℕ, ◌+◌, ◌-◌, ◌*◌, ◌≤◌, ◌<◌, set}
use Rattle.std.proofs.Math.Bool.{true, false}
use mathlib.Core.List.{List, ◌++◌, append_assoc}
use Rattle.std.proofs.Math.Path.{refl, ap, ap₂}
use Rattle.std.proofs.Common.{sym, ◌∙◌, mul-le-mul_right, length-drop, length-set, take-append-drop, get_or-set_other, drop-drop}
use native.Mathlib.Omega.{arith}
use Rattle.std.proofs.Math.ListN.{length, get_or, drop, length-append}
use Rattle.std.proofs.Math.Seq.{get_or-drop, get_or-set_same, drop_at, drop-set-add, set-set}
use Rattle.std.proofs.lemmas.List.{set-get_or}
use Rattle.rules.specs.declared.Geometry.{Geometry}
use Rattle.rules.specs.declared.TwoGridTrailer.{TwoGridTrailer}
use Rattle.rules.specs.declared.Layout.{Layout}
use Rattle.rules.specs.Image.{edition_of, two_grid_trailer_of, height_back_of, correction_back_of, rows, columns, plane, grid_of, node_count}
use Rattle.rules.specs.Planes.{value_bytes, corrections_in_planes, corrections_in_nodes, rest_with_kind}
use Rattle.rules.proofs.Buffer.{parts_same}
use Rattle.layouts.specs.SameNodes.{SameNodes}
use Rattle.layouts.specs.Bytes.{SameBytes, SameGrids}
use Rattle.layouts.proofs.Bytes.{bytes_from, u32_same, i32_same, trailers_same}
use Rattle.layouts.specs.Directions.{kind_in, corrections_in, converted_to}
use Rattle.layouts.specs.Corrections.{layout_in}
use Rattle.layouts.proofs.Corrections.{corrections_long, latitude_written, longitude_written, own_corrections}
use Rattle.layouts.specs.Kinds.{OpenIn}

-- A number of four bytes that is at most 3 has zeros after the first.
low_byte : (w x y z k : ℕ) → w + 256 * x + 65536 * y + 16777216 * z ≡ k → k ≤ 3 → (w ≡ k) × (x ≡ 0) × (y ≡ 0) × (z ≡ 0)
low_byte w x y z k e l = (omega arith, omega arith, omega arith, omega arith)

kind_most : (in_planes : Bool) → kind_in in_planes ≤ 3
kind_most true = omega arith
kind_most false = omega arith

-- The four bytes of an image's kind.
kind_bytes : {in_planes : Bool} {b : List ℕ} {c h : Geometry} → OpenIn in_planes b c h →
    let at = length b - 80 + 72 in
    (get_or b at 0 ≡ kind_in in_planes) × (get_or b (at + 1) 0 ≡ 0) × (get_or b (at + 2) 0 ≡ 0) × (get_or b (at + 3) 0 ≡ 0)
unfolding two_grid_trailer_of
kind_bytes {in_planes} {b} o =
    let at = length b - 80 + 72 in
    low_byte (get_or b at 0) (get_or b (at + 1) 0) (get_or b (at + 2) 0) (get_or b (at + 3) 0) (kind_in in_planes)
    (ap (λ (t : TwoGridTrailer). t.kind) o.trailer) (kind_most in_planes)

-- The nodes are counted row by row.
index_below : (g : Geometry) (row column : ℕ) → row < rows g → column < columns g → row * columns g + column < node_count g
index_below g row column i j = omega (arith, mul-le-mul_right {m = row + 1} {n = rows g} (columns g) (omega arith))

module _ {in_planes : Bool} {b : List ℕ} {c h : Geometry} (o : OpenIn in_planes b c h) (written : Bool) (before : List ℕ) where
  abbrev layout : Layout
  layout = layout_in in_planes b c h

  abbrev pub image : List ℕ
  image = before ++ converted_to written b layout

  -- Where the heights begin in b and in the image, and how far from there the kind stands.
  abbrev first_height : ℕ
  first_height = length b - height_back_of h

  abbrev new_first_height : ℕ
  new_first_height = length before + 8 * node_count c

  abbrev to_kind : ℕ
  to_kind = 4 * rows h * columns h + 72

  -- All parts are as long as they were,
  corrections_fit : length (corrections_in written b layout) ≡ 8 * node_count c
  corrections_fit = corrections_long in_planes b c h o.fits written

  rest_long : length (rest_with_kind (kind_in written) b layout) ≡ height_back_of h
  unfolding rest_with_kind
  rest_long = let fits = o.fits in rw (length-drop, length-set) (omega arith)

  image_long : length image ≡ length before + correction_back_of c h
  image_long = simp length-append (omega (arith, corrections_fit, rest_long))

  -- and the rest is that of b, with the new kind.
  abbrev with_new_kind : List ℕ
  with_new_kind = set b (length b - 8) (kind_in written)

  rest_is : drop new_first_height image ≡ drop first_height with_new_kind
  unfolding rest_with_kind
  rest_is =
      let corrections = corrections_in written b layout in
      let rest = rest_with_kind (kind_in written) b layout in
      ap (λ (l : List ℕ). drop new_first_height l) (sym (append_assoc before corrections rest))
      ∙ drop_at (before ++ corrections) rest new_first_height (rw length-append (omega (arith, corrections_fit)))

  rest_byte : (i : ℕ) → get_or image (new_first_height + i) 0 ≡ get_or with_new_kind (first_height + i) 0
  rest_byte i =
      sym (get_or-drop new_first_height image i 0) ∙ ap (λ (l : List ℕ). get_or l i 0) rest_is ∙ get_or-drop first_height with_new_kind i 0

  -- A byte at place x of the image is that at place y of b, where both are as far from the first height, and it is not the kind's.
  byte_kept : (x y i : ℕ) → x ≡ new_first_height + i → y ≡ first_height + i → (i ≡ to_kind → ⊥) → get_or image x 0 ≡ get_or b y 0
  byte_kept x y i at place other =
      let fits = o.fits in
      let elsewhere : first_height + i ≡ length b - 8 → ⊥ = λ e. other (omega arith) in
      rw (at, place) (rest_byte i ∙ get_or-set_other b (length b - 8) (first_height + i) (kind_in written) 0 elsewhere)

  bytes_kept : (n x y j : ℕ) → x ≡ new_first_height + j → y ≡ first_height + j → ((i : ℕ) → i < n → j + i ≡ to_kind → ⊥)
      → SameBytes n image x b y
  bytes_kept n x y j at place others =
      record { each = λ i l. byte_kept (x + i) (y + i) (j + i) (omega arith) (omega arith) (others i l) }

  -- So it has the same trailer but for the kind,
  grids_kept : SameGrids (two_grid_trailer_of image) (two_grid_trailer_of b)
  grids_kept =
      let fits = o.fits in
      let long = image_long in
      let heights = 4 * rows h * columns h in
      trailers_same image b (bytes_kept 72 (length image - 80) (length b - 80) heights (omega arith) (omega arith) (λ i l e. omega arith))

  edition_kept : edition_of image ≡ 2
  unfolding edition_of
  edition_kept =
      let fits = o.fits in
      let long = image_long in
      let place = 4 * rows h * columns h + 76 in
      u32_same (bytes_kept 4 (length image - 4) (length b - 4) place (omega arith) (omega arith) (λ i l e. omega arith)) ∙ o.edition

  -- which is the new one,
  kind_changed : (two_grid_trailer_of image).kind ≡ kind_in written
  unfolding two_grid_trailer_of
  kind_changed =
      let fits = o.fits in
      let long = image_long in
      let at = length image - 80 + 72 in
      let place = length b - 80 + 72 in
      let zeros = kind_bytes o in
      let kept : (j : ℕ) → 1 ≤ j → get_or image (at + j) 0 ≡ get_or b (place + j) 0 =
      λ j l. byte_kept (at + j) (place + j) (to_kind + j) (omega arith) (omega arith) (λ e. omega arith) in
      let there : first_height + to_kind ≡ length b - 8 = omega arith in
      let here : at ≡ new_first_height + to_kind = omega arith in
      let new = get_or-set_same b (length b - 8) (kind_in written) 0 (omega arith) in
      let first : get_or image at 0 ≡ kind_in written = rw here (rest_byte to_kind ∙ rw there new) in
      omega (arith, first, kept 1 (omega arith), kept 2 (omega arith), kept 3 (omega arith))

  -- and it opens.
  pub opens_converted : OpenIn written image c h
  opens_converted =
      let kept = grids_kept in
      let was = o.trailer in
      record {
        edition = edition_kept;
        trailer =
            λ i. record {
              corrections = (kept.corrections ∙ ap (λ (t : TwoGridTrailer). t.corrections) was) i;
              heights = (kept.heights ∙ ap (λ (t : TwoGridTrailer). t.heights) was) i;
              kind = kind_changed i;
            };
        counts = o.counts;
        spacings = o.spacings;
        bounds = o.bounds;
        fits = omega (arith, image_long);
      }

  -- Its layout has the same four bytes for each value of each node,
  abbrev pub new_layout : Layout
  new_layout = layout_in written image c h

  first_is : length image - correction_back_of c h ≡ length before
  first_is = omega (arith, image_long)

  latitude_kept : (n : ℕ) → n < node_count c → value_bytes image new_layout.latitude n ≡ value_bytes b layout.latitude n
  latitude_kept n l = rw first_is (latitude_written in_planes b c h o.fits before _ n l written)

  longitude_kept : (n : ℕ) → n < node_count c → value_bytes image new_layout.longitude n ≡ value_bytes b layout.longitude n
  longitude_kept n l = rw first_is (longitude_written in_planes b c h o.fits before _ n l written)

  height_kept : (n : ℕ) → n < node_count h → SameBytes 4 image (new_layout.height.first + 4 * n) b (layout.height.first + 4 * n)
  height_kept n l =
      let long = image_long in
      bytes_kept 4 _ _ (4 * n) (omega arith) refl (λ i k e. omega arith)

  -- so the nodes are the same.
  pub nodes_kept : SameNodes (grid_of image new_layout) (grid_of b layout)
  unfolding plane
  nodes_kept =
      record {
        one = record { separate = refl; nested = refl; unbounded = refl };
        other = record { separate = refl; nested = refl; unbounded = refl };
        corrections = refl;
        heights = refl;
        latitude = λ row column i j. i32_same (bytes_from 4 _ _ _ _ (latitude_kept _ (index_below c row column i j)));
        longitude = λ row column i j. i32_same (bytes_from 4 _ _ _ _ (longitude_kept _ (index_below c row column i j)));
        height = λ row column i j. i32_same (height_kept _ (index_below h row column i j));
      }

  -- ---- written in the first layout again
  corrections_kept : (inLayout : Bool) → corrections_in inLayout image new_layout ≡ corrections_in inLayout b layout
  unfolding corrections_in_planes corrections_in_nodes
  corrections_kept true = ap₂ ◌++◌ (parts_same (node_count c) latitude_kept) (parts_same (node_count c) longitude_kept)
  corrections_kept false = parts_same (node_count c) (λ n l. ap₂ ◌++◌ (latitude_kept n l) (longitude_kept n l))

  rest_kept : rest_with_kind (kind_in in_planes) image new_layout ≡ drop first_height b
  unfolding rest_with_kind
  rest_kept =
      let fits = o.fits in
      let long = image_long in
      let kind = kind_in in_planes in
      let first : length image - height_back_of h ≡ new_first_height = omega arith in
      let here : length image - 8 ≡ new_first_height + to_kind = omega arith in
      let there : length b - 8 ≡ first_height + to_kind = omega arith in
      let place : length b - 80 + 72 ≡ first_height + to_kind = omega arith in
      let was : get_or (drop first_height b) to_kind 0 ≡ kind = get_or-drop first_height b to_kind 0 ∙ (rw place at (kind_bytes o).0) in
      rw (
        first,
        here,
        drop-set-add new_first_height image to_kind kind,
        rest_is,
        there,
        drop-set-add first_height b to_kind (kind_in written),
        set-set,
        ← was,
      ) (set-get_or (drop first_height b) to_kind 0)

  pub back_again : converted_to in_planes image new_layout ≡ drop (length b - correction_back_of c h) b
  back_again =
      let fits = o.fits in
      let first = length b - correction_back_of c h in
      let size = 8 * node_count c in
      let next : first_height ≡ first + size = omega arith in
      let rest : drop first_height b ≡ drop size (drop first b) = rw (drop-drop size first b, next) in
      ap₂ ◌++◌ (corrections_kept in_planes ∙ own_corrections in_planes b c h) (rest_kept ∙ rest) ∙ take-append-drop size (drop first b)
