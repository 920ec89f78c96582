-- `anywhere::out_anywhere` meets its contract. The loop's invariant: the iteration from the start equals the iteration from here.
use mathlib.Core.Bool.{Bool, cond}
use mathlib.Core.Path.{◌≡◌, sym, ap, ◌∙◌}
use Prim.Native.Nat.{◌+◌, ◌<◌, ◌≤◌}
use native.Mathlib.Omega.{arith}
use mir.Syntax.{w64}
use mir.Val.{SFits, to_z, of_z}
use mir.Facts.{to_z-of_z}
use lib.IntN.{ℤ, nat_abs}
use Rattle.std.specs.Prelude.{Result}
use Rattle.std.proofs.lemmas.Result.{err_from_is_err_and}
use Rattle.integers.specs.Machine.{zarith}
use Rattle.integers.specs.Distance.{abs_is}
use Rattle.integers.specs.Difference.{var}
use Rattle.rules.specs.declared.Point.{Point}
use Rattle.rules.specs.declared.Correction.{Correction}
use Rattle.rules.specs.declared.Refusal.{Refusal}
use Rattle.rules.specs.Units.{stop_distance, most_evaluations, out_height_limit}
use Rattle.rules.specs.Answers.{Outcome, values, and_then, outcome_of}
use Rattle.rules.specs.Limits.{PointReached, CorrectionWithin}
use Rattle.rules.specs.Ways.{Settled, settled, out}
use Rattle.rules.proofs.Limits.{moved_reached}
use Rattle.image.specs.Fit.{grid_in}
use Rattle.source.proofs.Sources.{height_anywhere, found_anywhere}
use Rattle.anywhere.proofs.Evaluations.{correction_within, from, one_evaluation, onward, spent}
use Rattle.anywhere.proofs.out_anywhere.Goals as goal
use Rattle.anywhere.proofs.out_anywhere.Goals.{After-corrections_or_zero, After-is_settled, After-moved-q, In_ok-corrections_or_zero}

-- the iteration from the start, by the corrections looked up
led : (c : After-corrections_or_zero) (found : Result Correction Refusal) → c.corrections_or_zero.result ≡ found →
    let s = c.args in
    let g = grid_in s.image.now in
    from g s.fix.point 0 s.fix.point ≡ and_then (outcome_of found) (onward g s.fix.point c.loop-n.r c.loop-n.n)
led c found e =
    let s = c.args in
    let g = grid_in s.image.now in
    let room : c.loop-n.n < most_evaluations = omega (arith, c.loop-n-test.true) in
    c.loop-n.invariant.same ∙ one_evaluation g s.fix.point c.loop-n.r c.loop-n.n room
    ∙ ap (λ (o : Outcome Correction). and_then o (onward g s.fix.point c.loop-n.r c.loop-n.n)) (sym c.corrections_or_zero.ensures ∙ ap outcome_of e)

pub returns-in_err-corrections_or_zero : goal.returns-in_err-corrections_or_zero
unfolding out
returns-in_err-corrections_or_zero c =
    let r = err_from_is_err_and c.from_residual.result c.from_residual.ensures.1 in
    rw (r.1, r.2, led (goal.at.returns-in_err-corrections_or_zero c).After-corrections_or_zero _ c.in_err-corrections_or_zero.was)

-- the corrections are within their limit, so the next point is not far
limits : (c : In_ok-corrections_or_zero) → CorrectionWithin c.in_ok-corrections_or_zero.field-0
limits c = correction_within _ _ _ c.args.image.now.fits.latitude.geometry c.in_ok-corrections_or_zero.ensures

pub moved-q-requires : goal.moved-q-requires
moved-q-requires c = (c.requires.0, limits (goal.at.moved-q-requires c).In_ok-corrections_or_zero)

next_reached : (c : After-moved-q) → PointReached c.moved-q.result
next_reached c =
    rw c.moved-q.ensures (moved_reached c.requires.0 (limits (goal.at.After-moved-q c).In_ok-corrections_or_zero))

pub is_settled-requires : goal.is_settled-requires
is_settled-requires c = (next_reached (goal.at.is_settled-requires c).After-moved-q, c.loop-n.invariant.reached)

-- the iteration from the start, by the answer of the stop rule
turned : (c : After-is_settled) (t : Bool) → c.is_settled.result ≡ t →
    let s = c.args in
    let g = grid_in s.image.now in
    let n = c.loop-n.n + 1 in
    let q = c.moved-q.result in
    from g s.fix.point 0 s.fix.point ≡ cond t (values (record { point = q; count = n })) (from g s.fix.point n q)
turned c t e =
    let s = c.args in
    let g = grid_in s.image.now in
    let n = c.loop-n.n + 1 in
    let k = led (goal.at.After-is_settled c).After-corrections_or_zero _ c.in_ok-corrections_or_zero.was in
    let then : Point → Bool → Outcome Settled = λ q t. cond t (values (record { point = q; count = n })) (from g s.fix.point n q) in
    let q = sym c.moved-q.ensures in
    k ∙ (λ i. then (q i) (settled stop_distance (q i) c.loop-n.r)) ∙ ap (then c.moved-q.result) (sym c.is_settled.ensures ∙ e)

pub returns-in_err-found : goal.returns-in_err-found
unfolding out
returns-in_err-found c =
    let r = err_from_is_err_and c.from_residual-in_err-found.result c.from_residual-in_err-found.ensures.1 in
    let g = grid_in c.args.image.now in
    rw (
      r.1,
      r.2,
      turned (goal.at.returns-in_err-found c).After-is_settled _ c.if-is_settled.true,
      height_anywhere g c.moved-q.result,
      ← c.in_err-found.ensures,
    )

read : (z : ℤ) → nat_abs z ≤ out_height_limit → to_z w64 (of_z w64 z) ≡ z
read z h = let f : SFits w64 z = omega (zarith, abs_is (var z)) in to_z-of_z f

pub answer_with-requires : goal.answer_with-requires
answer_with-requires c =
    let h = c.requires.1 in
    (found_anywhere _ _ _ _ c.args.image.now.fits.height.geometry c.in_ok-found.ensures, rw (read c.args.fix.height h) h)

pub returns-then-is_settled : goal.returns-then-is_settled
unfolding out
returns-then-is_settled c =
    let g = grid_in c.args.image.now in
    rw (
      turned (goal.at.returns-then-is_settled c).After-is_settled _ c.if-is_settled.true,
      height_anywhere g c.moved-q.result,
      ← c.in_ok-found.ensures,
    )
    (ap values (rw (read c.args.fix.height c.requires.1) at c.answer_with.ensures))

pub loop-n-preserved : goal.loop-n-preserved
loop-n-preserved c =
    let at = goal.at.loop-n-preserved c in
    record { reached = next_reached at.After-moved-q; same = turned at.After-is_settled _ c.if-is_settled.false }

pub returns : goal.returns
unfolding out
returns c = rw (c.loop-n.invariant.same ∙ spent (grid_in c.args.image.now) c.args.fix.point _ c.loop-n.n (omega arith))
