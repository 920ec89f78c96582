-- A header as the code tests it: what questions 4 and 5 let pass is within 180 degrees and has a spacing above zero, so both may be tested
-- of an axis before them.
use mathlib.Core.Bool.{Bool, true, false, ◌&&◌}
use mathlib.Core.List.{List}
use mathlib.Core.Path.{◌≡◌, refl, sym, ap, ◌∙◌}
use Prim.Native.Nat.{ℕ, ◌+◌, ◌-◌, ◌*◌, ◌/◌, ◌%◌, ◌≤◌}
use native.Mathlib.Nat.{div-add-mod', mul-le-mul}
use native.Mathlib.Omega.{arith}
use lib.Dec.{ltb, eqb}
use lib.IntN.{ℤ, pos, negsuc, nat_abs, ◌+ℤ◌, ◌-ℤ◌}
use borrow.Author.Tests.{le-leb, lt-ltb, eqb-true}
use Rattle.integers.specs.Booleans.{and_left, and_right, and_both, and_false}
use Rattle.integers.specs.Difference.{var, lit, ◌⊖◌, ◌⊕◌}
use Rattle.integers.specs.Machine.{zarith}
use Rattle.std.specs.Prelude.{Some}
use Rattle.rules.specs.declared.Geometry.{Geometry}
use Rattle.rules.specs.Units.{count_most, latitude_limit, longitude_limit, spacing_most}
use Rattle.rules.specs.Image.{rows, columns, node_count}
use Rattle.rules.specs.Questions.{question3, questions_3_to_5}
use Rattle.rules.specs.Limits.{AxisPasses, GeometryPasses}
use Rattle.rules.specs.Files.{natural}
use Rattle.rules.specs.Ntv2.{count_at, labelled, arcseconds, Extent, latitude_extent, longitude_extent, spacing_of, difference_of, axis_of}
use Rattle.rules.specs.Ntv2.{grid_header_of, whole, three_finite, header_passes}
use Rattle.rules.proofs.Files.{kept, natural_most, questions_establish, both_axes}
use Rattle.rules.proofs.Opening.{nodes_most}
use Rattle.ntv2_headers.specs.Reading.{angle_within, extent_fits, geometry_read}

-- ---- an axis

-- Bounds that are a whole number of spacings apart, at least one, are those of the axis between them.
natural_is : (z : ℤ) → 1 ≤ natural z → z ≡ pos (natural z)
natural_is (pos n) h = refl
natural_is (negsuc n) h = absurd (omega arith)

far_is : (start end : ℤ) (p : ℕ) → 1 ≤ p → let d = natural (end -ℤ start) in d % p ≡ 0 → 2 ≤ d / p + 1
    → end ≡ start +ℤ pos ((d / p + 1 - 1) * p)
far_is start end p h w l =
    let d = natural (end -ℤ start) in
    let m : d / p * p + d % p ≡ d = div-add-mod' d p in
    let k : d / p + 1 - 1 ≡ d / p = omega arith in
    let far : (d / p + 1 - 1) * p ≡ d = rw k (omega (arith, m, w)) in
    let least = mul-le-mul {n₁ = 1} {m₁ = 1} {n₂ = d / p} {m₂ = p} (omega arith) h in
    let one : 1 ≤ d = omega (arith, m, w, least) in
    rw far (omega (zarith, natural_is (end -ℤ start) one, var end ⊖ var start, var start ⊕ lit d))

-- So an axis that passes has numbers within 180 degrees, where its bounds are so apart.
all_within_lem : (e : Extent) (limit : ℕ) → limit ≤ longitude_limit → AxisPasses limit (axis_of e) → whole e ≡ true → extent_fits e ≡ true
unfolding extent_fits
all_within_lem e limit l a h =
    let p = spacing_of e in
    let apart = eqb-true (difference_of e % p) 0 h in
    let end_is = far_is (arcseconds e.start) (arcseconds e.end) p a.sized.spacing_least apart a.sized.count_least in
    let far : nat_abs (arcseconds e.end) ≤ limit = rw end_is a.far_within in
    let most = natural_most (arcseconds e.spacing) spacing_most a.sized.spacing_least a.sized.spacing_most_lem in
    and_both
    (and_both (le-leb (nat_abs (arcseconds e.start)) longitude_limit (omega (arith, a.start_within)))
    (and_both (le-leb (nat_abs (arcseconds e.end)) longitude_limit (omega (arith, far)))
    (le-leb (nat_abs (arcseconds e.spacing)) longitude_limit (omega (arith, most)))))
    (and_both (lt-ltb 0 p a.sized.spacing_least) h)

not_whole : (e : Extent) → whole e ≡ false → extent_fits e ≡ false
unfolding extent_fits
not_whole e h =
    rw (h, and_false (ltb 0 (spacing_of e))) (and_false (angle_within e.start && (angle_within e.end && angle_within e.spacing)))

axis_tested : (f : Bool) (e : Extent) (limit : ℕ) → limit ≤ longitude_limit → AxisPasses limit (axis_of e)
    → (f && whole e) ≡ (f && extent_fits e)
axis_tested f e limit l a = ap (λ (t : Bool). f && t) (by (whole e) refl)
  where
    by : (t : Bool) → whole e ≡ t → whole e ≡ extent_fits e
    by true h = h ∙ sym (all_within_lem e limit l a h)
    by false h = h ∙ sym (not_whole e h)

-- ---- the header

-- The code's tests of the header are the rule's.
pub header_tested : (b : List ℕ) → let g = grid_header_of b in
    header_passes b
    ≡ (labelled b 11
    && ((three_finite b 72 88 136 && extent_fits (latitude_extent b))
    && ((three_finite b 120 104 152 && extent_fits (longitude_extent b))
    && (questions_3_to_5 g && eqb (count_at b 168) (node_count g)))))
unfolding header_passes
header_tested b =
    let g = grid_header_of b in
    both_axes (labelled b 11) _ _ _ _ (questions_3_to_5 g) _
    (λ h.
    let p = questions_establish g h in (
      axis_tested (three_finite b 72 88 136) (latitude_extent b) latitude_limit (omega arith) p.latitude,
      axis_tested (three_finite b 120 104 152) (longitude_extent b) longitude_limit (omega arith) p.longitude,
    ))

-- A header that passes has a geometry that does.
pub header_establishes : (b : List ℕ) → header_passes b ≡ true → GeometryPasses (grid_header_of b)
unfolding header_passes
header_establishes b h =
    let g = grid_header_of b in
    let latitude = three_finite b 72 88 136 && whole (latitude_extent b) in
    let longitude = three_finite b 120 104 152 && whole (longitude_extent b) in
    let q = questions_3_to_5 g in
    let n = eqb (count_at b 168) (node_count g) in
    let i = and_right (labelled b 11) (latitude && (longitude && (q && n))) h in
    let j = and_right latitude (longitude && (q && n)) i in
    questions_establish g (and_left q n (and_right longitude (q && n) j))

-- A geometry that passes has not too many nodes.
pub counted : (g : Geometry) → questions_3_to_5 g ≡ true → rows g * columns g ≤ count_most * count_most
unfolding questions_3_to_5
counted g h = nodes_most g (and_left (question3 g) _ h)

-- So with the labels and a geometry that was read, the last two tests decide.
pub header_read : (b : List ℕ) (g : Geometry) → labelled b 11 ≡ true → geometry_read b ≡ Some g
    → (grid_header_of b ≡ g) × (header_passes b ≡ (questions_3_to_5 g && eqb (count_at b 168) (node_count g)))
header_read b g l r =
    let latitude = three_finite b 72 88 136 && extent_fits (latitude_extent b) in
    let longitude = three_finite b 120 104 152 && extent_fits (longitude_extent b) in
    let k = kept (latitude && longitude) (grid_header_of b) g r in
    let last : Geometry → Bool = λ g. questions_3_to_5 g && eqb (count_at b 168) (node_count g) in
    (k.1, header_tested b ∙ rw (l, and_left latitude longitude k.0, and_right latitude longitude k.0) (ap last k.1))
