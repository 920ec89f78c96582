-- Document 01, "Questions in order": questions 1 to 6, which every call that takes an image puts first; and notes 1, 5, 6 and 8 of
-- document 02: edition 2 puts them to both of its grids, the correction grid first in each and a dense grid last, and then question 20.
use Rattle.std.specs.Prelude.{Bool, cond, ◌&&◌, ◌||◌, List, ℕ, ◌+◌, leb, eqb, length}
use Rattle.rules.specs.declared.Axis.{Axis}
use Rattle.rules.specs.declared.Geometry.{Geometry}
use Rattle.rules.specs.declared.Trailer.{Trailer}
use Rattle.rules.specs.declared.GridTrailer.{GridTrailer}
use Rattle.rules.specs.declared.TwoGridTrailer.{TwoGridTrailer}
use Rattle.rules.specs.declared.Layout.{Layout}
use Rattle.rules.specs.Units.{latitude_limit, longitude_limit, count_most, spacing_most, between, within}
use Rattle.rules.specs.Answers.{Outcome, values, ask}
use Rattle.rules.specs.Image.{trailer_of, edition_of, two_grid_trailer_of, is_nested, is_unbounded, is_in_planes, dense_trailer_of}
use Rattle.rules.specs.Image.{far_bound, rows, columns}
use Rattle.rules.specs.Image.{back_of, height_back_of, correction_back_of, dense_back_of}
use Rattle.rules.specs.Image.{layout_of, two_grid_layout_of, nested_layout_of, layout_for}
use Rattle.rules.specs.Dense.{question20}

-- 1. Is the length at least 40?
abbrev pub question1 : ℕ → Bool
question1 size = leb 40 size

-- 2. Is the edition 1?
abbrev pub question2 : Trailer → Bool
question2 t = eqb t.edition 1

-- 3. Are rows and columns each from 2 to 4,096?
unfoldable pub question3 : Geometry → Bool
question3 g = between 2 count_most (rows g) && between 2 count_most (columns g)

-- 4. Is each spacing from 1 to 100,000,000?
unfoldable pub question4 : Geometry → Bool
question4 g = between 1 spacing_most g.latitude.spacing && between 1 spacing_most g.longitude.spacing

-- 5. Are south and north bound from −90 to 90 degrees, west and east bound from −180 to 180?
unfoldable pub bounds_within : ℕ → Axis → Bool
bounds_within limit a = within limit a.start && within limit (far_bound a)

unfoldable pub question5 : Geometry → Bool
question5 g = bounds_within latitude_limit g.latitude && bounds_within longitude_limit g.longitude

-- 3 to 5 together, as the refusals of grid files (document 02, notes 2 and 4) take them.
unfoldable pub questions_3_to_5 : Geometry → Bool
questions_3_to_5 g = question3 g && (question4 g && question5 g)

-- 6. Is back equal to 12 × rows × columns + 40, and not above the length?
unfoldable pub back_passes : (back wanted size : ℕ) → Bool
back_passes back wanted size = eqb back wanted && leb back size

unfoldable pub question6 : Trailer → ℕ → Bool
question6 t size = back_passes t.back (back_of t.geometry) size

-- Edition 1's questions 2 to 6, of a trailer and the image's length: the layout, or a number.
unfoldable pub judge : Trailer → ℕ → Outcome Layout
judge t size =
    ask (question2 t) 2
    (ask (question3 t.geometry) 3
    (ask (question4 t.geometry) 4
    (ask (question5 t.geometry) 5
    (ask (question6 t size) 6
    (values (layout_of size t.geometry))))))

-- Edition 2. Below 80 bytes is a 1, an unknown kind a 2; kind 1 has its own questions, below.
abbrev pub length_of_two : ℕ → Bool
length_of_two size = leb 80 size

abbrev pub kind_known : TwoGridTrailer → Bool
kind_known t = eqb t.kind 0 || (is_unbounded t || is_in_planes t)

-- A question of the correction grid, and the same of the height grid.
abbrev pub of_both : (Geometry → Bool) → TwoGridTrailer → Bool
of_both question t = question t.corrections.geometry && question t.heights.geometry

-- 6 of each: the correction nodes, then the height nodes, then the trailer touch each other.
unfoldable pub backs_pass : TwoGridTrailer → ℕ → Bool
backs_pass t size =
    let c = t.corrections in
    let h = t.heights in
    back_passes c.back (correction_back_of c.geometry h.geometry) size && back_passes h.back (height_back_of h.geometry) size

-- Edition 2's questions 2 to 6, of kinds 0, 2 and 3.
unfoldable pub judge_two : TwoGridTrailer → ℕ → Outcome Layout
judge_two t size =
    ask (kind_known t) 2
    (ask (of_both question3 t) 3
    (ask (of_both question4 t) 4
    (ask (of_both question5 t) 5
    (ask (backs_pass t size) 6
    (values (two_grid_layout_of (is_in_planes t) (is_unbounded t) size t.corrections.geometry t.heights.geometry))))))

-- Kind 1. A length below 36 plus the correction nodes' back, as the trailer has it, is a 1.
abbrev pub length_of_nested : TwoGridTrailer → ℕ → Bool
length_of_nested t size = leb (36 + t.corrections.back) size

-- A question of the correction grid, of the height grid, and of the dense grid d.
abbrev pub of_all : (Geometry → Bool) → GridTrailer → TwoGridTrailer → Bool
of_all question d t = of_both question t && question d.geometry

-- 6 of each: the dense nodes, then the 36 bytes, then the correction nodes touch each other too.
unfoldable pub all_backs_pass : GridTrailer → TwoGridTrailer → ℕ → Bool
all_backs_pass d t size =
    backs_pass t size && back_passes d.back (dense_back_of d.geometry t.corrections.geometry t.heights.geometry) size

-- Kind 1's questions 3 to 6, then 20.
unfoldable pub judge_nested : GridTrailer → TwoGridTrailer → ℕ → Outcome Layout
judge_nested d t size =
    ask (of_all question3 d t) 3
    (ask (of_all question4 d t) 4
    (ask (of_all question5 d t) 5
    (ask (all_backs_pass d t size) 6
    (ask (question20 t.corrections.geometry d.geometry) 20
    (values (nested_layout_of size d.geometry t.corrections.geometry t.heights.geometry))))))

-- The same of an image's bytes, question 1 first.
unfoldable pub opening_nested : List ℕ → Outcome Layout
opening_nested b =
    let t = two_grid_trailer_of b in
    ask (length_of_nested t (length b)) 1 (judge_nested (dense_trailer_of b) t (length b))

-- Edition 2, question 1 first; a kind that is not 1 is judged as kinds 0, 2 and 3 are.
unfoldable pub opening_two : List ℕ → Outcome Layout
opening_two b =
    let t = two_grid_trailer_of b in
    ask (length_of_two (length b)) 1 (cond (is_nested t) (opening_nested b) (judge_two t (length b)))

-- Questions 1 to 6, of an image's bytes: where its values lie, or a number. An image of 40 bytes or more has an edition; edition 2 is
-- judged by its own trailer, and any other as edition 1, whose question 2 it then meets.
unfoldable pub opening : List ℕ → Outcome Layout
opening b = ask (question1 (length b)) 1 (cond (eqb (edition_of b) 2) (opening_two b) (judge (trailer_of b) (length b)))
