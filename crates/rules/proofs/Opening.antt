-- What questions 1 to 6, and 20, establish in both editions: each question before the layout was answered yes.
use mathlib.Core.Bool.{Bool, true, false, cond, false≢true}
use mathlib.Core.List.{List}
use mathlib.Core.Path.{◌≡◌, refl, sym, ap, subst, ◌∙◌}
use Prim.Native.Nat.{ℕ, ◌+◌, ◌-◌, ◌*◌, ◌≤◌}
use native.Mathlib.Nat.{mul-le-mul, mul-le-mul_left, mul-le-mul_right}
use native.Mathlib.Omega.{arith}
use lib.Dec.{leb, eqb}
use lib.ListN.{length}
use borrow.Author.Tests.{leb-true, eqb-true}
use Rattle.integers.specs.Booleans.{and_left, and_right, branched}
use Rattle.rules.specs.declared.Axis.{Axis}
use Rattle.rules.specs.declared.Geometry.{Geometry}
use Rattle.rules.specs.declared.Trailer.{Trailer}
use Rattle.rules.specs.declared.GridTrailer.{GridTrailer}
use Rattle.rules.specs.declared.TwoGridTrailer.{TwoGridTrailer}
use Rattle.rules.specs.declared.Layout.{Layout}
use Rattle.rules.specs.Units.{latitude_limit, count_most, spacing_most, between, within}
use Rattle.rules.specs.Answers.{values}
use Rattle.rules.specs.Image.{trailer_of, edition_of, two_grid_trailer_of, is_nested, is_unbounded, is_in_planes, dense_trailer_of}
use Rattle.rules.specs.Image.{far_bound, rows, columns, correction_stride, to_longitudes}
use Rattle.rules.specs.Image.{back_of, height_back_of, correction_back_of, dense_back_of, layout_of, two_grid_layout_of}
use Rattle.rules.specs.Image.{nested_layout_of, layout_for}
use Rattle.rules.specs.Dense.{question20}
use Rattle.rules.proofs.Answers.{asked}
use Rattle.rules.specs.Questions.{question1, question2, question3, question4, bounds_within, question5, back_passes, question6, judge}
use Rattle.rules.specs.Questions.{length_of_two, kind_known, of_both, backs_pass, judge_two, opening_two, opening}
use Rattle.rules.specs.Questions.{length_of_nested, of_all, all_backs_pass, judge_nested, opening_nested}
use Rattle.rules.specs.Limits.{Sized, AxisPasses, GeometryPasses, InImage, Open}

between_low : (low high n : ℕ) → between low high n ≡ true → low ≤ n
between_low low high n h = leb-true low n (and_left (leb low n) (leb n high) h)

between_high : (low high n : ℕ) → between low high n ≡ true → n ≤ high
between_high low high n h = leb-true n high (and_right (leb low n) (leb n high) h)

axis : (a : Axis) → between 2 count_most a.count ≡ true → between 1 spacing_most a.spacing ≡ true → Sized a
axis a h k =
    record {
      count_least = between_low 2 count_most a.count h;
      count_most = between_high 2 count_most a.count h;
      spacing_least = between_low 1 spacing_most a.spacing k;
      spacing_most_lem = between_high 1 spacing_most a.spacing k;
    }

-- After questions 3 and 4, both axes are sized.
pub latitude_sized : (g : Geometry) → question3 g ≡ true → question4 g ≡ true → Sized g.latitude
unfolding question3 question4
latitude_sized g h k = axis g.latitude (and_left _ _ h) (and_left _ _ k)

pub longitude_sized : (g : Geometry) → question3 g ≡ true → question4 g ≡ true → Sized g.longitude
unfolding question3 question4
longitude_sized g h k =
    axis g.longitude (and_right (between 2 count_most (rows g)) _ h) (and_right (between 1 spacing_most g.latitude.spacing) _ k)

-- After question 3 there are at most 4,096 rows and columns, so at most 4,096 × 4,096 nodes.
pub rows_most : (g : Geometry) → question3 g ≡ true → rows g ≤ count_most
unfolding question3
rows_most g h = between_high 2 count_most (rows g) (and_left _ _ h)

pub nodes_most : (g : Geometry) → question3 g ≡ true → rows g * columns g ≤ count_most * count_most
unfolding question3
nodes_most g h =
    let columns_most = between_high 2 count_most (columns g) (and_right (between 2 count_most (rows g)) _ h) in
    mul-le-mul {n₂ = count_most} {m₂ = count_most} (rows_most g h) columns_most

bounds : (limit : ℕ) (a : Axis) → Sized a → bounds_within limit a ≡ true → AxisPasses limit a
unfolding bounds_within
bounds limit a s h =
    record {
      sized = s;
      start_within = leb-true _ _ (and_left (within limit a.start) (within limit (far_bound a)) h);
      far_within = leb-true _ _ (and_right (within limit a.start) (within limit (far_bound a)) h);
    }

-- After question 5, the geometry passes.
pub geometry_passes : (g : Geometry) → question3 g ≡ true → question4 g ≡ true → question5 g ≡ true → GeometryPasses g
unfolding question5
geometry_passes g h3 h4 h5 =
    record {
      latitude = bounds _ g.latitude (latitude_sized g h3 h4) (and_left (bounds_within latitude_limit g.latitude) _ h5);
      longitude = bounds _ g.longitude (longitude_sized g h3 h4) (and_right (bounds_within latitude_limit g.latitude) _ h5);
    }

-- The value that begins k bytes into each node lies in the image, where all nodes do.
in_nodes_lem : (size first k width : ℕ) (g : Geometry) → GeometryPasses g → first + width * (rows g * columns g) ≤ size → k + 4 ≤ width
    → InImage size (record { geometry = g; first = first + k; stride = width })
in_nodes_lem size first k width g passes h l =
    record {
      geometry = passes;
      bytes = λ row column i j.
          let before = mul-le-mul_right {m = row + 1} {n = rows g} (columns g) (omega arith) in
          let nodes : row * columns g + column + 1 ≤ rows g * columns g = omega (arith, before) in
          omega (arith, mul-le-mul_left width nodes);
    }

-- The same of the value with which a node begins.
at_nodes : (size first width : ℕ) (g : Geometry) → GeometryPasses g → first + width * (rows g * columns g) ≤ size → 4 ≤ width
    → InImage size (record { geometry = g; first = first; stride = width })
at_nodes size first width g passes h l =
    let zero : first + 0 ≡ first = omega arith in
    rw zero at (in_nodes_lem size first 0 width g passes h (omega arith))

laid : (size : ℕ) (g : Geometry) → GeometryPasses g → back_of g ≤ size → Open size (layout_of size g)
laid size g passes h =
    let first = size - back_of g in
    let nodes : first + 12 * (rows g * columns g) ≤ size = omega arith in
    record {
      latitude = at_nodes size first 12 g passes nodes (omega arith);
      longitude = in_nodes_lem size first 4 12 g passes nodes (omega arith);
      height = in_nodes_lem size first 8 12 g passes nodes (omega arith);
      dense = at_nodes size first 12 g passes nodes (omega arith);
      dense_longitude = in_nodes_lem size first 4 12 g passes nodes (omega arith);
      longitude_geometry = refl;
      height_geometry = λ one. refl;
      nests = λ k. absurd (false≢true k);
      apart = λ k. absurd (false≢true k);
      not_nested = λ k. refl;
    }

-- Edition 2's corrections, node by node and in planes: the latitude corrections are in the image, so are the longitude corrections, and so
-- is the value 4 bytes after each latitude correction.
record CorrectionsLaid (in_planes : Bool) (size first : ℕ) (c : Geometry) : Type 0 where
  latitude : InImage size (record { geometry = c; first = first; stride = correction_stride in_planes })
  longitude : InImage size (record { geometry = c; first = first + to_longitudes in_planes c; stride = correction_stride in_planes })
  beside : InImage size (record { geometry = c; first = first + 4; stride = correction_stride in_planes })

laid_corrections : (in_planes : Bool) (size first : ℕ) (c : Geometry) → GeometryPasses c → first + 8 * (rows c * columns c) ≤ size
    → CorrectionsLaid in_planes size first c
laid_corrections false size first c passes nodes =
    let longitude = in_nodes_lem size first 4 8 c passes nodes (omega arith) in
    record { latitude = at_nodes size first 8 c passes nodes (omega arith); longitude = longitude; beside = longitude }
laid_corrections true size first c passes nodes =
    let row : 1 ≤ rows c = omega (arith, passes.latitude.sized.count_least) in
    let column : 1 ≤ columns c = omega (arith, passes.longitude.sized.count_least) in
    let node : 1 ≤ rows c * columns c = mul-le-mul {n₁ = 1} {m₁ = 1} row column in
    record {
      latitude = at_nodes size first 4 c passes (omega arith) (omega arith);
      longitude = at_nodes size (first + 4 * rows c * columns c) 4 c passes (omega arith) (omega arith);
      beside = at_nodes size (first + 4) 4 c passes (omega arith) (omega arith);
    }

laid_two : (in_planes unbounded : Bool) (size : ℕ) (c h : Geometry) → GeometryPasses c → GeometryPasses h → correction_back_of c h ≤ size
    → Open size (two_grid_layout_of in_planes unbounded size c h)
laid_two in_planes unbounded size c h c-passes h-passes l =
    let first = size - correction_back_of c h in
    let corrections = laid_corrections in_planes size first c c-passes (omega arith) in
    let heights : size - height_back_of h + 4 * (rows h * columns h) ≤ size = omega arith in
    record {
      latitude = corrections.latitude;
      longitude = corrections.longitude;
      height = at_nodes size (size - height_back_of h) 4 h h-passes heights (omega arith);
      dense = corrections.latitude;
      dense_longitude = corrections.beside;
      longitude_geometry = refl;
      height_geometry = λ one. absurd (false≢true (sym one));
      nests = λ k. absurd (false≢true k);
      apart = λ k. refl;
      not_nested = λ k. refl;
    }

laid_nested : (size : ℕ) (d c h : Geometry) → GeometryPasses d → GeometryPasses c → GeometryPasses h → dense_back_of d c h ≤ size
    → question20 c d ≡ true → Open size (nested_layout_of size d c h)
laid_nested size d c h d-passes c-passes h-passes l aligned =
    let two = laid_two false false size c h c-passes h-passes (omega arith) in
    let first = size - dense_back_of d c h in
    let nodes : first + 8 * (rows d * columns d) ≤ size = omega arith in
    record {
      latitude = two.latitude;
      longitude = two.longitude;
      height = two.height;
      dense = at_nodes size first 8 d d-passes nodes (omega arith);
      dense_longitude = in_nodes_lem size first 4 8 d d-passes nodes (omega arith);
      longitude_geometry = refl;
      height_geometry = two.height_geometry;
      nests = λ k. record { separate = refl; beside = refl; aligned = aligned };
      apart = λ k. refl;
      not_nested = λ k. absurd (false≢true k);
    }

-- What question 6 says of back.
pub back_is : (back wanted size : ℕ) → back_passes back wanted size ≡ true → (back ≡ wanted) × (back ≤ size)
unfolding back_passes
back_is back wanted size h =
    (eqb-true _ _ (and_left (eqb back wanted) (leb back size) h), leb-true _ _ (and_right (eqb back wanted) (leb back size) h))

-- And in edition 2 of both backs.
pub backs_are : (t : TwoGridTrailer) (size : ℕ) → backs_pass t size ≡ true
    → let c = t.corrections in
    let h = t.heights in
    ((c.back ≡ correction_back_of c.geometry h.geometry) × (c.back ≤ size))
    × ((h.back ≡ height_back_of h.geometry) × (h.back ≤ size))
unfolding backs_pass
backs_are t size h =
    let first = back_passes t.corrections.back (correction_back_of t.corrections.geometry t.heights.geometry) size in
    (back_is _ _ size (and_left first _ h), back_is _ _ size (and_right first _ h))

-- And in kind 1 of all three.
pub all_backs_are : (d : GridTrailer) (t : TwoGridTrailer) (size : ℕ) → all_backs_pass d t size ≡ true
    → (backs_pass t size ≡ true)
    × ((d.back ≡ dense_back_of d.geometry t.corrections.geometry t.heights.geometry) × (d.back ≤ size))
unfolding all_backs_pass
all_backs_are d t size h = (and_left (backs_pass t size) _ h, back_is _ _ size (and_right (backs_pass t size) _ h))

-- An edition 1 image that opens: its layout, and question 6 answered yes.
pub record OpenedOne (t : Trailer) (size : ℕ) (l : Layout) : Type 0 where
  pub is_open : Open size l
  pub layout : layout_of size t.geometry ≡ l
  pub bytes : question6 t size ≡ true

judged : (t : Trailer) (size : ℕ) (l : Layout) → judge t size ≡ values l → OpenedOne t size l
unfolding judge question6
judged t size l h =
    let g = t.geometry in
    let h2 = asked (question2 t) 2 _ l h in
    let h3 = asked (question3 g) 3 _ l h2.1 in
    let h4 = asked (question4 g) 4 _ l h3.1 in
    let h5 = asked (question5 g) 5 _ l h4.1 in
    let h6 = asked (question6 t size) 6 _ l h5.1 in
    let e : layout_of size g ≡ l = cc in
    let o = laid size g (geometry_passes g h3.0 h4.0 h5.0) (omega (arith, back_is _ _ size h6.0)) in
    record { is_open = subst (Open size) e o; layout = e; bytes = h6.0 }

-- What questions 3 to 5 establish of both grids.
both_pass : (t : TwoGridTrailer) → of_both question3 t ≡ true → of_both question4 t ≡ true → of_both question5 t ≡ true
    → GeometryPasses t.corrections.geometry × GeometryPasses t.heights.geometry
both_pass t h3 h4 h5 =
    let c = t.corrections.geometry in
    let h = t.heights.geometry in (
      geometry_passes c (and_left (question3 c) _ h3) (and_left (question4 c) _ h4) (and_left (question5 c) _ h5),
      geometry_passes h (and_right (question3 c) _ h3) (and_right (question4 c) _ h4) (and_right (question5 c) _ h5),
    )

-- And in kind 1 of all three.
pub all_pass_lem : (d : GridTrailer) (t : TwoGridTrailer) → of_all question3 d t ≡ true → of_all question4 d t ≡ true → of_all question5 d t ≡ true
    → (GeometryPasses t.corrections.geometry × GeometryPasses t.heights.geometry) × GeometryPasses d.geometry
all_pass_lem d t h3 h4 h5 =
    let b3 = of_both question3 t in
    let b4 = of_both question4 t in
    let b5 = of_both question5 t in (
      both_pass t (and_left b3 _ h3) (and_left b4 _ h4) (and_left b5 _ h5),
      geometry_passes d.geometry (and_right b3 _ h3) (and_right b4 _ h4) (and_right b5 _ h5),
    )

-- An edition 2 image that opens.
pub record OpenedTwo (t : TwoGridTrailer) (size : ℕ) (l : Layout) : Type 0 where
  pub is_open : Open size l
  pub layout : two_grid_layout_of (is_in_planes t) (is_unbounded t) size t.corrections.geometry t.heights.geometry ≡ l
  pub bytes : backs_pass t size ≡ true

judged_two : (t : TwoGridTrailer) (size : ℕ) (l : Layout) → judge_two t size ≡ values l → OpenedTwo t size l
unfolding judge_two
judged_two t size l k =
    let c = t.corrections.geometry in
    let h = t.heights.geometry in
    let h2 = asked (kind_known t) 2 _ l k in
    let h3 = asked (of_both question3 t) 3 _ l h2.1 in
    let h4 = asked (of_both question4 t) 4 _ l h3.1 in
    let h5 = asked (of_both question5 t) 5 _ l h4.1 in
    let h6 = asked (backs_pass t size) 6 _ l h5.1 in
    let e : two_grid_layout_of (is_in_planes t) (is_unbounded t) size c h ≡ l = cc in
    let both = both_pass t h3.0 h4.0 h5.0 in
    let o = laid_two (is_in_planes t) (is_unbounded t) size c h both.0 both.1 (omega (arith, (backs_are t size h6.0).0)) in
    record { is_open = subst (Open size) e o; layout = e; bytes = h6.0 }

-- A kind 1 image that opens.
pub record OpenedNested (d : GridTrailer) (t : TwoGridTrailer) (size : ℕ) (l : Layout) : Type 0 where
  pub is_open : Open size l
  pub layout : nested_layout_of size d.geometry t.corrections.geometry t.heights.geometry ≡ l
  pub enough : 36 + t.corrections.back ≤ size
  pub bytes : all_backs_pass d t size ≡ true

judged_nested : (d : GridTrailer) (t : TwoGridTrailer) (size : ℕ) (l : Layout)
    → 36 + t.corrections.back ≤ size → judge_nested d t size ≡ values l → OpenedNested d t size l
unfolding judge_nested
judged_nested d t size l enough k =
    let c = t.corrections.geometry in
    let h = t.heights.geometry in
    let h3 = asked (of_all question3 d t) 3 _ l k in
    let h4 = asked (of_all question4 d t) 4 _ l h3.1 in
    let h5 = asked (of_all question5 d t) 5 _ l h4.1 in
    let h6 = asked (all_backs_pass d t size) 6 _ l h5.1 in
    let h20 = asked (question20 c d.geometry) 20 _ l h6.1 in
    let e : nested_layout_of size d.geometry c h ≡ l = cc in
    let all = all_pass_lem d t h3.0 h4.0 h5.0 in
    let back : dense_back_of d.geometry c h ≤ size = omega (arith, (all_backs_are d t size h6.0).1) in
    let o = laid_nested size d.geometry c h all.1 all.0.0 all.0.1 back h20.0 in
    record { is_open = subst (Open size) e o; layout = e; enough = enough; bytes = h6.0 }

-- Edition 2: an image that opens is of kind 0, 2 or 3, or of kind 1.
by_kind : {G : Type 0} (b : List ℕ) (l : Layout) → opening_two b ≡ values l
    → (80 ≤ length b → is_nested (two_grid_trailer_of b) ≡ false → OpenedTwo (two_grid_trailer_of b) (length b) l → G)
    → (80 ≤ length b → is_nested (two_grid_trailer_of b) ≡ true → OpenedNested (dense_trailer_of b) (two_grid_trailer_of b) (length b) l → G) → G
unfolding opening_two opening_nested
by_kind b l h two nested =
    let t = two_grid_trailer_of b in
    let k = asked (length_of_two (length b)) 1 _ l h in
    let long = leb-true 80 (length b) k.0 in
    branched (is_nested t) _ _ _ k.1
    (λ one e.
    let m = asked (length_of_nested t (length b)) 1 _ l e in
    nested long one (judged_nested (dense_trailer_of b) t (length b) l (leb-true _ (length b) m.0) m.1))
    (λ none e. two long none (judged_two t (length b) l e))

-- An image that opens is of edition 1 or of edition 2; by its layout's flag it is known which.
by_edition : {G : Type 0} (b : List ℕ) (l : Layout) → opening b ≡ values l
    → (eqb (edition_of b) 2 ≡ false → 40 ≤ length b → OpenedOne (trailer_of b) (length b) l → G)
    → (eqb (edition_of b) 2 ≡ true → opening_two b ≡ values l → G) → G
unfolding opening
by_edition b l h one two =
    let k = asked (question1 (length b)) 1 _ l h in
    branched (eqb (edition_of b) 2) _ _ _ k.1
    two (λ first e. one first (leb-true 40 (length b) k.0) (judged (trailer_of b) (length b) l e))

pub opened : (b : List ℕ) (l : Layout) → opening b ≡ values l → Open (length b) l
opened b l h = by_edition b l h (λ _ _ o. o.is_open) (λ _ e. by_kind b l e (λ _ _ o. o.is_open) (λ _ _ o. o.is_open))

-- Edition 2's heights stand on a separate grid.
two_separate : (b : List ℕ) (l : Layout) → opening_two b ≡ values l → true ≡ l.separate
two_separate b l k =
    by_kind b l k (λ _ _ o. ap (λ (l : Layout). l.separate) o.layout) (λ _ _ o. ap (λ (l : Layout). l.separate) o.layout)

pub two_layout_separate : (b : List ℕ) → (layout_for b true).separate ≡ true
two_layout_separate b = by (is_nested (two_grid_trailer_of b)) _ _ refl refl
  where
    by : (t : Bool) (x y : Layout) → x.separate ≡ true → y.separate ≡ true → (cond t x y).separate ≡ true
    by true x y h k = h
    by false x y h k = k

-- What the functions that read the layout ask of an image that opened, of each edition and kind.
pub opened_one : (b : List ℕ) (l : Layout) → opening b ≡ values l → l.separate ≡ false
    → (40 ≤ length b) × (question6 (trailer_of b) (length b) ≡ true)
opened_one b l h e =
    by_edition b l h (λ _ enough o. (enough, o.bytes)) (λ _ k. absurd (false≢true (sym (two_separate b l k ∙ e))))

-- The edition, by the flag.
pub edition_is : (b : List ℕ) (l : Layout) → opening b ≡ values l → eqb (edition_of b) 2 ≡ l.separate
edition_is b l h =
    by_edition b l h (λ first _ o. first ∙ ap (λ (l : Layout). l.separate) o.layout) (λ second k. second ∙ two_separate b l k)

-- Where edition 2's first nodes lie: as far from the image's end as the trailer says, all corrections before the heights.
pub record FirstNodes (t : TwoGridTrailer) (size : ℕ) (l : Layout) : Type 0 where
  pub corrections : l.latitude.first ≡ size - t.corrections.back
  pub heights : l.height.first ≡ size - t.heights.back
  pub between : t.corrections.back ≡ 8 * (rows l.latitude.geometry * columns l.latitude.geometry) + t.heights.back
  pub enough : t.corrections.back ≤ size
  pub trailer : 80 ≤ t.heights.back

nodes_placed : (t : TwoGridTrailer) (size : ℕ) (l : Layout) → backs_pass t size ≡ true →
    let c = t.corrections.geometry in
    let h = t.heights.geometry in
    l.latitude.geometry ≡ c → l.latitude.first ≡ size - correction_back_of c h → l.height.first ≡ size - height_back_of h
    → FirstNodes t size l
nodes_placed t size l passes g x y =
    let backs = backs_are t size passes in
    record {
      corrections = rw backs.0.0 x;
      heights = rw backs.1.0 y;
      between = rw g (omega (arith, backs));
      enough = backs.0.1;
      trailer = omega (arith, backs);
    }

module _ (b : List ℕ) (l : Layout) (h : opening b ≡ values l) (e : l.separate ≡ true) where
  of_two : opening_two b ≡ values l
  of_two =
      by_edition b l h (λ _ _ o. absurd (false≢true (ap (λ (l : Layout). l.separate) o.layout ∙ e))) (λ _ k. k)

  pub opened_long : 80 ≤ length b
  opened_long = by_kind b l of_two (λ long _ _. long) (λ long _ _. long)

  pub opened_two : is_nested (two_grid_trailer_of b) ≡ false → backs_pass (two_grid_trailer_of b) (length b) ≡ true
  opened_two none = by_kind b l of_two (λ _ _ o. o.bytes) (λ _ one _. absurd (false≢true (sym none ∙ one)))

  pub opened_nested : is_nested (two_grid_trailer_of b) ≡ true → OpenedNested (dense_trailer_of b) (two_grid_trailer_of b) (length b) l
  opened_nested one = by_kind b l of_two (λ _ none _. absurd (false≢true (sym none ∙ one))) (λ _ _ o. o)

  pub first_nodes : FirstNodes (two_grid_trailer_of b) (length b) l
  first_nodes =
      by_kind b l of_two
      (λ _ _ o. subst (FirstNodes (two_grid_trailer_of b) (length b)) o.layout (nodes_placed _ _ _ o.bytes refl refl refl))
      (λ _ _ o.
      let passes = (all_backs_are _ _ _ o.bytes).0 in
      subst (FirstNodes (two_grid_trailer_of b) (length b)) o.layout (nodes_placed _ _ _ passes refl refl refl))
