-- Refusal 16 as the code tests it: what questions 4 and 5 let pass is within 180 degrees, so a number of the header may be held to that
-- limit before them.
use mathlib.Core.Bool.{Bool, true, false, ◌&&◌}
use mathlib.Core.List.{List}
use mathlib.Core.Path.{◌≡◌, refl, subst}
use Prim.Native.Nat.{ℕ, ◌+◌, ◌*◌, ◌≤◌}
use native.Mathlib.Omega.{arith}
use lib.Dec.{leb, eqb}
use lib.IntN.{nat_abs}
use lib.ListN.{length}
use borrow.Author.Tests.{le-leb, eqb-true}
use Rattle.integers.specs.Booleans.{and_left, and_right}
use Rattle.rules.specs.declared.Geometry.{Geometry}
use Rattle.rules.specs.Units.{within, latitude_limit, longitude_limit, spacing_most, count_most}
use Rattle.rules.specs.Answers.{values}
use Rattle.rules.specs.Image.{rows, columns}
use Rattle.rules.specs.Questions.{question3, questions_3_to_5}
use Rattle.rules.specs.Limits.{AxisPasses, GeometryPasses}
use Rattle.rules.specs.Vdatum.{degrees_at, header_axis, header_of, axis_finite, height_bytes, question16, question17, heights_from}
use Rattle.rules.specs.Floats.{binary64, finite}
use Rattle.rules.specs.Vdatum.{big_u64_at}
use Rattle.rules.proofs.Answers.{asked}
use Rattle.rules.proofs.Files.{natural_most, questions_establish, both_axes}
use Rattle.rules.proofs.Opening.{nodes_most}
use Rattle.vdatum.specs.Reading.{degrees_fit, axis_fits}

both_fit : (f w g v : Bool) → w ≡ true → v ≡ true → (f && g) ≡ ((f && w) && (g && v))
both_fit true w true v h k = rw (h, k)
both_fit true w false v h k = rw h
both_fit false w g v h k = refl

axis_fits_lem : (b : List ℕ) (start spacing count limit : ℕ) → limit ≤ longitude_limit
    → AxisPasses limit (header_axis b start spacing count)
    → axis_finite b start spacing ≡ axis_fits b start spacing
unfolding degrees_fit
axis_fits_lem b start spacing count limit l a =
    let most = natural_most (degrees_at b spacing) spacing_most a.sized.spacing_least a.sized.spacing_most_lem in
    both_fit (finite binary64 (big_u64_at b start)) (within longitude_limit (degrees_at b start))
    (finite binary64 (big_u64_at b spacing)) (within longitude_limit (degrees_at b spacing))
    (le-leb (nat_abs (degrees_at b start)) longitude_limit (omega (arith, a.start_within)))
    (le-leb (nat_abs (degrees_at b spacing)) longitude_limit (omega (arith, most)))

-- The code's tests are refusal 16's.
pub header_tested : (b : List ℕ) (room : ℕ) → let g = header_of b in
    question16 b room
    ≡ (leb 40 (length b)
    && (axis_fits b 0 16
    && (axis_fits b 8 24
    && (questions_3_to_5 g
    && (eqb (length b) (40 + height_bytes g) && eqb room (height_bytes g))))))
unfolding question16
header_tested b room =
    let g = header_of b in
    both_axes (leb 40 (length b)) (axis_finite b 0 16) (axis_fits b 0 16) (axis_finite b 8 24) (axis_fits b 8 24) (questions_3_to_5 g) _
    (λ h.
    let p = questions_establish g h in
    (axis_fits_lem b 0 16 32 latitude_limit (omega arith) p.latitude, axis_fits_lem b 8 24 36 longitude_limit (omega arith) p.longitude))

-- A geometry that passes has not too many nodes.
pub counted : (g : Geometry) → questions_3_to_5 g ≡ true → rows g * columns g ≤ count_most * count_most
unfolding questions_3_to_5
counted g h = nodes_most g (and_left (question3 g) _ h)

-- Its last tests, of the geometry and of both lengths.
abbrev lengths_pass : (size room : ℕ) → Geometry → Bool
lengths_pass size room g = eqb size (40 + height_bytes g) && eqb room (height_bytes g)

last_tests : (b : List ℕ) (room : ℕ) → question16 b room ≡ true → let g = header_of b in
    (questions_3_to_5 g ≡ true) × (lengths_pass (length b) room g ≡ true)
unfolding question16
last_tests b room h =
    let g = header_of b in
    let q = questions_3_to_5 g in
    let l = lengths_pass (length b) room g in
    let i = and_right (leb 40 (length b)) (axis_finite b 0 16 && (axis_finite b 8 24 && (q && l))) h in
    let j = and_right (axis_finite b 0 16) (axis_finite b 8 24 && (q && l)) i in
    let k = and_right (axis_finite b 8 24) (q && l) j in
    (and_left q l k, and_right q l k)

pub lengths_are : (b : List ℕ) (room : ℕ) → question16 b room ≡ true → let g = header_of b in
    (length b ≡ 40 + 4 * (rows g * columns g)) × (room ≡ 4 * (rows g * columns g))
lengths_are b room h =
    let g = header_of b in
    let size_is = eqb (length b) (40 + height_bytes g) in
    let room_is = eqb room (height_bytes g) in
    let l = (last_tests b room h).1 in (
      omega (arith, eqb-true (length b) (40 + height_bytes g) (and_left size_is room_is l)),
      omega (arith, eqb-true room (height_bytes g) (and_right size_is room_is l)),
    )

-- A geometry that is handed back passes questions 3 to 5.
pub converted_passes : (b : List ℕ) (room : ℕ) (g : Geometry) → heights_from b room ≡ values g → GeometryPasses g
unfolding heights_from
converted_passes b room g h =
    let q = asked (question16 b room) 16 _ g h in
    let n = asked (question17 b (rows (header_of b) * columns (header_of b))) 17 _ g q.1 in
    let e : header_of b ≡ g = cc in
    subst GeometryPasses e (questions_establish (header_of b) (last_tests b room q.0).0)
