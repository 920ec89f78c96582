-- The count of every answer is at most five: one more with each evaluation, of which the way out makes five at most.
use mathlib.Core.Bool.{true}
use mathlib.Core.Path.{◌≡◌, sym, ap, ◌∙◌}
use Prim.Native.Nat.{◌≤◌}
use native.Mathlib.Omega.{arith}
use lib.IntN.{ℤ, ◌+ℤ◌, ◌-ℤ◌}
use Rattle.rules.specs.declared.Point.{Point}
use Rattle.rules.specs.declared.Way.{Way}
use Rattle.rules.specs.declared.Way.TheVariants as way
use Rattle.rules.specs.Units.{most_evaluations}
use Rattle.rules.specs.Answers.{Outcome, values, number}
use Rattle.rules.specs.Ways.{Source, Accepted, answer_at, question7, plus, iterate, back, out, height_limit, way_of, convert_over}
use Rattle.rules.proofs.Accepted.{answer_count}
use Rattle.rules.proofs.Answers.{asked, followed}
use Rattle.rules.proofs.Evaluations.{counted}
use Rattle.fixes.specs.Fix.{CountAtMostFive}

-- either way, of a point in the bounds
way_count : (w : Way) (s : Source) (p : Point) (h : ℤ) (v : Accepted) → s.inside p ≡ true → way_of w s p h ≡ values v
    → v.position.count ≤ 5
unfolding out back
way_count way.Out s p h v i e =
    let f = followed (iterate s s.stop p most_evaluations 0 p) _ v e in
    let g = followed (s.height f.0.point) _ v f.2 in
    let a : answer_at f.0.point (λ z. h -ℤ z) f.0.count g.0 ≡ v = cc g.2 in
    let m = sym (answer_count f.0.point (λ z. h -ℤ z) f.0.count g.0) ∙ ap (λ (v : Accepted). v.position.count) a in
    omega (arith, (counted s s.stop p most_evaluations 0 p i f.0 f.1).1)
way_count way.Back s q H v i e =
    let f = followed (s.corrections q) _ v e in
    let g = followed (s.height q) _ v f.2 in
    let a : answer_at (plus q f.0) (λ z. H +ℤ z) 1 g.0 ≡ v = cc g.2 in
    let m = sym (answer_count (plus q f.0) (λ z. H +ℤ z) 1 g.0) ∙ ap (λ (v : Accepted). v.position.count) a in
    omega arith

pub count_fits : (w : Way) (s : Source) (p : Point) (h : ℤ) (o : Outcome Accepted) → o ≡ convert_over w s p h → CountAtMostFive o
unfolding convert_over
count_fits w s p h (values v) e =
    let a = asked (s.inside p) 8 _ v (asked (question7 (height_limit w) p h) 7 _ v (sym e)).1 in
    way_count w s p h v a.0 a.1
count_fits w s p h (number n) e = tt
