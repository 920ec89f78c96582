-- Questions 3 to 5 of all grids at once, in the questions of a trailer, and what they establish.
use mathlib.Core.Bool.{Bool, true, false, ◌&&◌}
use mathlib.Core.List.{List, [], ◌∷◌}
use mathlib.Core.Path.{◌≡◌, refl, sym, ◌∙◌}
use Prim.Native.Nat.{ℕ}
use Rattle.std.specs.Prelude.{Result}
use Rattle.std.specs.List.{list_all}
use Rattle.rules.specs.declared.Refusal.{Refusal}
use Rattle.rules.specs.declared.Geometry.{Geometry}
use Rattle.rules.specs.declared.Trailer.{Trailer}
use Rattle.rules.specs.declared.GridTrailer.{GridTrailer}
use Rattle.rules.specs.declared.TwoGridTrailer.{TwoGridTrailer}
use Rattle.rules.specs.Answers.{Outcome, values, number, ask, and_then, outcome_of, mapped}
use Rattle.rules.specs.Image.{is_unbounded, is_in_planes, layout_of, two_grid_layout_of, nested_layout_of}
use Rattle.rules.specs.Questions.{question2, question3, question4, question5, question6, judge}
use Rattle.rules.specs.Questions.{kind_known, of_both, backs_pass, judge_two, of_all, all_backs_pass, judge_nested}
use Rattle.rules.specs.Dense.{question20}
use Rattle.rules.proofs.Answers.{asked, asked_no}
use Rattle.verdicts.specs.Verdict.{judge_grids}

-- A question of one grid, of two and of three.
one : (a : Bool) → (a && true) ≡ a
one true = refl
one false = refl

two : (a b : Bool) → (a && (b && true)) ≡ (a && b)
two true b = one b
two false b = refl

three : (a b c : Bool) → (a && (b && (c && true))) ≡ (a && b && c)
three true b c = two b c
three false b c = refl

-- What comes after the three questions.
after : {A : Type 0} (a b c : Bool) (next : Outcome A)
    → and_then (ask a 3 (ask b 4 (ask c 5 (values (tt {0}))))) (λ _. next) ≡ ask a 3 (ask b 4 (ask c 5 next))
after true true true next = refl
after true true false next = refl
after true false c next = refl
after false b c next = refl

-- The grids of each trailer.
abbrev pub grid_of_one : Trailer → List Geometry
grid_of_one t = t.geometry ∷ []

abbrev pub grids_of_two : TwoGridTrailer → List Geometry
grids_of_two t = t.corrections.geometry ∷ t.heights.geometry ∷ []

abbrev pub grids_nested : GridTrailer → TwoGridTrailer → List Geometry
grids_nested d t = t.corrections.geometry ∷ t.heights.geometry ∷ d.geometry ∷ []

-- The questions of each, with those of its grids at once.
pub judge_is : (t : Trailer) (size : ℕ) → judge t size
    ≡ ask (question2 t) 2 (and_then (judge_grids (grid_of_one t)) (λ _. ask (question6 t size) 6 (values (layout_of size t.geometry))))
unfolding judge judge_grids
judge_is t size =
    let g = t.geometry in
    let next = ask (question6 t size) 6 (values (layout_of size g)) in
    rw (one (question3 g), one (question4 g), one (question5 g), after (question3 g) (question4 g) (question5 g) next)

pub judge_two_is : (t : TwoGridTrailer) (size : ℕ) → judge_two t size
    ≡ ask (kind_known t) 2 (and_then (judge_grids (grids_of_two t)) (λ _. ask (backs_pass t size) 6
    (values (two_grid_layout_of (is_in_planes t) (is_unbounded t) size t.corrections.geometry t.heights.geometry))))
unfolding judge_two judge_grids
judge_two_is t size =
    let c = t.corrections.geometry in
    let h = t.heights.geometry in
    let next = ask (backs_pass t size) 6 (values (two_grid_layout_of (is_in_planes t) (is_unbounded t) size c h)) in
    rw (
      two (question3 c) (question3 h),
      two (question4 c) (question4 h),
      two (question5 c) (question5 h),
      after (of_both question3 t) (of_both question4 t) (of_both question5 t) next,
    )

pub judge_nested_is : (d : GridTrailer) (t : TwoGridTrailer) (size : ℕ) → judge_nested d t size
    ≡ and_then (judge_grids (grids_nested d t)) (λ _. ask (all_backs_pass d t size) 6
    (ask (question20 t.corrections.geometry d.geometry) 20
    (values (nested_layout_of size d.geometry t.corrections.geometry t.heights.geometry))))
unfolding judge_nested judge_grids
judge_nested_is d t size =
    let c = t.corrections.geometry in
    let h = t.heights.geometry in
    let g = d.geometry in
    let next = ask (all_backs_pass d t size) 6 (ask (question20 c g) 20 (values (nested_layout_of size g c h))) in
    rw (
      three (question3 c) (question3 h) (question3 g),
      three (question4 c) (question4 h) (question4 g),
      three (question5 c) (question5 h) (question5 g),
      after (of_all question3 d t) (of_all question4 d t) (of_all question5 d t) next,
    )

-- A question that passed, and one that did not.
pub passed : (t : Bool) (n : ℕ) → values (tt {0}) ≡ ask t n (values (tt {0})) → t ≡ true
passed t n h = (asked t n _ (tt {0}) (sym h)).0

pub stopped : {A : Type 0} (t : Bool) (n m : ℕ) (next : Outcome A) → number m ≡ ask t n (values (tt {0})) → number m ≡ ask t n next
stopped t n m next h =
    let no = asked_no t n (tt {0}) m (sym h) in
    rw (no.0, no.1)

-- The last question.
answered : {A : Type 0} (t : Bool) (n : ℕ) (a : A) → mapped (λ _. a) (ask t n (values (tt {0}))) ≡ ask t n (values a)
answered true n a = refl
answered false n a = refl

pub last : {A : Type 0} (r : Result Unit Refusal) (t u : Bool) (n : ℕ) (a : A) → outcome_of r ≡ ask t n (values (tt {0})) → t ≡ u
    → mapped (λ _. a) (outcome_of r) ≡ ask u n (values a)
last r t u n a h e = rw (h, e) (answered u n a)

-- What grids establish that pass.
pub grids_pass : (grids : List Geometry) → values (tt {0}) ≡ judge_grids grids
    → (list_all question3 grids ≡ true) × (list_all question4 grids ≡ true) × (list_all question5 grids ≡ true)
unfolding judge_grids
grids_pass grids h =
    let h3 = asked (list_all question3 grids) 3 _ (tt {0}) (sym h) in
    let h4 = asked (list_all question4 grids) 4 _ (tt {0}) h3.1 in
    let h5 = asked (list_all question5 grids) 5 _ (tt {0}) h4.1 in
    (h3.0, h4.0, h5.0)

pub of_one_pass : (question : Geometry → Bool) (t : Trailer) → list_all question (grid_of_one t) ≡ true → question t.geometry ≡ true
of_one_pass question t h = sym (one (question t.geometry)) ∙ h

pub of_both_pass : (question : Geometry → Bool) (t : TwoGridTrailer) → list_all question (grids_of_two t) ≡ true → of_both question t ≡ true
of_both_pass question t h = sym (two (question t.corrections.geometry) (question t.heights.geometry)) ∙ h

pub of_all_pass : (question : Geometry → Bool) (d : GridTrailer) (t : TwoGridTrailer) → list_all question (grids_nested d t) ≡ true
    → of_all question d t ≡ true
of_all_pass question d t h =
    sym (three (question t.corrections.geometry) (question t.heights.geometry) (question d.geometry)) ∙ h
