-- What the check asks after its walk over the nodes, without a dense grid and with one; and that steps are small where question 9 passed.
use mathlib.Core.Bool.{Bool, true, false, false≢true, ◌&&◌}
use mathlib.Core.List.{List}
use mathlib.Core.Path.{◌≡◌, refl, sym, ap, ◌∙◌}
use Prim.Native.Nat.{ℕ, ◌≤◌}
use native.Mathlib.Omega.{arith}
use lib.IntN.{ℤ}
use Rattle.std.specs.Prelude.{Option, Some, None, Result}
use Rattle.std.specs.Option.{ok_or}
use Rattle.integers.specs.Booleans.{and_left, and_right, all_three}
use Rattle.rules.specs.declared.Geometry.{Geometry}
use Rattle.rules.specs.declared.Layout.{Layout}
use Rattle.rules.specs.declared.Findings.{Findings}
use Rattle.rules.specs.Units.{correction_limit, quasi_geoid_limit}
use Rattle.rules.specs.declared.Refusal.{Refusal}
use Rattle.rules.specs.declared.Refusal.TheVariants.{NodeLimits}
use Rattle.rules.specs.Answers.{Outcome, values, number, ask, and_then, outcome_of}
use Rattle.rules.specs.Image.{Grid, grid_of}
use Rattle.rules.specs.Limits.{Open}
use Rattle.rules.specs.Questions.{opening}
use Rattle.rules.specs.Check.{all_within, all_pass, steps_of, question12, findings_of, dense_passes, dense_slopes_pass}
use Rattle.rules.specs.Check.{question21, question22, where_nested, where_unbounded, check, grid_check}
use Rattle.rules.proofs.Answers.{asked, asked_no, followed, asked_then}
use Rattle.rules.proofs.Slopes.{all_within_lem, north_most, east_most}
use Rattle.steps.specs.declared.CorrectionSteps.{CorrectionSteps}
use Rattle.steps.specs.Walk.{walked_of}
use Rattle.walks.specs.Rows.{corrections_walk, grid_walk}
use Rattle.slopes.specs.Slopes.{slopes_pass, both_slopes_pass, LayoutPasses, step_most, StepsWithin, FindingsWithin}

-- ---- the questions after the walk that left findings f
abbrev after_walk : Grid → Findings → Outcome Findings
after_walk g f =
    ask (where_nested g (dense_passes g)) 9
    (ask (where_unbounded g (question22 g)) 22
    (ask (question12 g f) 12
    (ask (where_nested g (dense_slopes_pass g)) 12
    (ask (where_nested g (question21 g)) 21
    (values f)))))

check_next : (g : Grid) → check g ≡ and_then (grid_walk g) (after_walk g)
unfolding check grid_walk
check_next g = sym (asked_then (all_pass g) 9 (findings_of g) (after_walk g))

-- Two questions of one number in a row are one.
asked_both : {A : Type 0} (s t : Bool) (n : ℕ) (next : Outcome A) → ask s n (ask t n next) ≡ ask (s && t) n next
asked_both true t n next = refl
asked_both false t n next = refl

-- What a walk found, or the refusal of question 9, is what its outcome says.
pub limited : {A : Type 0} (o : Option A) {r : Result A Refusal} → r ≡ ok_or o NodeLimits → outcome_of r ≡ walked_of o
limited (Some found) e = ap outcome_of e
limited None e = ap outcome_of e

-- Where question 9 refuses a node, nothing is asked any more.
pub none_left : (g : Grid) {n : ℕ} → grid_walk g ≡ number n → check g ≡ number n
none_left g h = rw (check_next g, h)

module _ {size : ℕ} (b : List ℕ) {l : Layout} (o : Open size l) {f : Findings} (h : grid_walk (grid_of b l) ≡ values f) where
  abbrev g : Grid
  g = grid_of b l

  -- Question 12 is that of the layout's planes.
  slopes_asked : question12 g f ≡ slopes_pass l f
  unfolding question12 slopes_pass
  slopes_asked = rw o.longitude_geometry

  pub plain_left : l.nested ≡ false → check g ≡ ask (where_unbounded g (question22 g)) 22 (ask (slopes_pass l f) 12 (values f))
  plain_left none = rw (check_next g, h, slopes_asked, none)

  -- With a dense grid question 22 is not put.
  bounded : l.nested ≡ true → l.unbounded ≡ false
  bounded one = by l.unbounded o.not_nested
    where
      by : (t : Bool) → (t ≡ true → l.nested ≡ false) → t ≡ false
      by true none = absurd (false≢true (sym (none refl) ∙ one))
      by false none = refl

  one_by_one : l.nested ≡ true
      → check g ≡ ask (dense_passes g) 9 (ask (slopes_pass l f) 12 (ask (dense_slopes_pass g) 12 (ask (question21 g) 21 (values f))))
  one_by_one one = rw (check_next g, h, slopes_asked, one, bounded one)

  pub nested_left : l.nested ≡ true
      → check g ≡ ask (dense_passes g) 9 (ask (slopes_pass l f && dense_slopes_pass g) 12 (ask (question21 g) 21 (values f)))
  nested_left one = one_by_one one ∙ ap (ask (dense_passes g) 9) (asked_both (slopes_pass l f) (dense_slopes_pass g) 12 _)

-- ---- after question 9 no step is larger than twice the limit
steps_small : (limit : ℕ) (g : Geometry) (f : ℕ → ℕ → ℤ) → limit ≤ correction_limit → all_within limit g f ≡ true
    → StepsWithin step_most (steps_of g f)
unfolding steps_of
steps_small limit g f l h =
    let n = north_most g f limit (all_within_lem limit g f h) in
    let e = east_most g f limit (all_within_lem limit g f h) in
    record { north_most = omega arith; east_most = omega arith }

-- So what the walk over a grid finds is small,
pub found_small : (g : Grid) (f : Findings) → grid_walk g ≡ values f → FindingsWithin step_most f
unfolding grid_walk all_pass findings_of
found_small g f h =
    let w = asked (all_pass g) 9 _ f h in
    let corrections : (ℕ → ℕ → ℤ) → Bool = all_within correction_limit g.corrections in
    let a = all_three (corrections g.latitude) (corrections g.longitude) _ w.0 in
    let e : findings_of g ≡ f = cc w.1 in
    rw (← e) (record {
      latitude_most = steps_small correction_limit _ _ (omega arith) a.0;
      longitude_most = steps_small correction_limit _ _ (omega arith) a.1;
      height_most = steps_small quasi_geoid_limit _ _ (omega arith) a.2;
    })

-- and so is what a passed check reports: after the walk come questions alone.
pub passed_small : (b : List ℕ) (f : Findings) → grid_check b ≡ values f → FindingsWithin step_most f
unfolding grid_check
passed_small b f h =
    let o = followed (opening b) _ f h in
    let g = grid_of b o.0 in
    let w = followed (grid_walk g) _ f (sym (check_next g) ∙ o.2) in
    let q9 = asked (where_nested g (dense_passes g)) 9 _ f w.2 in
    let q22 = asked (where_unbounded g (question22 g)) 22 _ f q9.1 in
    let q12 = asked (question12 g w.0) 12 _ f q22.1 in
    let d12 = asked (where_nested g (dense_slopes_pass g)) 12 _ f q12.1 in
    let q21 = asked (where_nested g (question21 g)) 21 _ f d12.1 in
    let e : w.0 ≡ f = cc q21.1 in
    rw e at (found_small g w.0 w.1)

-- ---- the walk over the dense nodes: question 9 of them, and steps that are small and that question 12 is put with
abbrev pub dense_walk : Grid → Outcome CorrectionSteps
dense_walk g = corrections_walk g.dense g.dense_latitude g.dense_longitude

pub record DenseWalked (g : Grid) (s : CorrectionSteps) : Type 0 where
  pub passes : dense_passes g ≡ true
  pub slopes : dense_slopes_pass g ≡ both_slopes_pass g.dense s
  pub latitude_most : StepsWithin step_most s.latitude
  pub longitude_most : StepsWithin step_most s.longitude

pub dense_walked : (g : Grid) (s : CorrectionSteps) → dense_walk g ≡ values s → DenseWalked g s
unfolding corrections_walk dense_passes dense_slopes_pass both_slopes_pass
dense_walked g s h =
    let w = asked (dense_passes g) 9 _ s h in
    let latitude = all_within correction_limit g.dense g.dense_latitude in
    let steps = steps_of g.dense in
    let e : record { latitude = steps g.dense_latitude; longitude = steps g.dense_longitude } ≡ s = cc w.1 in
    rw (← e) (record {
      passes = w.0;
      slopes = refl;
      latitude_most = steps_small correction_limit _ _ (omega arith) (and_left latitude _ w.0);
      longitude_most = steps_small correction_limit _ _ (omega arith) (and_right latitude _ w.0);
    })

pub dense_stopped : (g : Grid) {n : ℕ} → dense_walk g ≡ number n → (dense_passes g ≡ false) × (n ≡ 9)
unfolding corrections_walk dense_passes
dense_stopped g {n} h = asked_no (dense_passes g) 9 _ n h

pub layout_passes : {size : ℕ} {l : Layout} → Open size l → LayoutPasses l
layout_passes o = record { latitude = o.latitude.geometry; longitude = o.longitude.geometry; height = o.height.geometry }
