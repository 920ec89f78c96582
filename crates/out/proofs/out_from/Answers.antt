-- `out::out_from` meets its contract. The loop's invariant: the iteration from the start equals the iteration from here, and the cell
-- held is the one around each point that lies in it and takes its corrections from its grid.
use mathlib.Core.Bool.{true, beq}
use mathlib.Core.Path.{◌≡◌, refl, sym, ap, subst, ◌∙◌}
use Prim.Native.Nat.{ℕ, ◌+◌, ◌<◌, ◌≤◌}
use native.Mathlib.Omega.{arith}
use mir.Syntax.{w64}
use mir.Val.{SFits, to_z, of_z}
use mir.Facts.{to_z-of_z}
use lib.IntN.{ℤ, nat_abs}
use Rattle.std.specs.Prelude.{Result, Ok}
use Rattle.std.proofs.lemmas.Result.{err_from_is_err_and}
use Rattle.integers.specs.Booleans.{and_left, and_right, beq_true}
use Rattle.integers.specs.Machine.{zarith}
use Rattle.integers.specs.Distance.{abs_is}
use Rattle.integers.specs.Difference.{var}
use Rattle.rules.specs.declared.Refusal.{Refusal}
use Rattle.rules.specs.Units.{most_evaluations, out_height_limit}
use Rattle.rules.specs.Answers.{values, and_then, outcome_of}
use Rattle.rules.specs.Limits.{OpenAround}
use Rattle.rules.specs.Lookup.{inside, grid_for}
use Rattle.rules.specs.Ways.{out}
use Rattle.image.specs.Fit.{grid_in}
use Rattle.lookup.specs.Held.{held_at}
use Rattle.lookup.proofs.Covering.{bounded_around, serves}
use Rattle.lookup.proofs.Found.{cell_holds}
use Rattle.grids.specs.Grids.{taken_dense}
use Rattle.source.specs.Asked.{FoundWithin}
use Rattle.source.proofs.Sources.{around, bounded_within}
use Rattle.turns.specs.declared.Turn.{Turn}
use Rattle.turns.specs.Turn.{evaluation_of}
use Rattle.turns.proofs.Turns.{onward, LeadsInside, from, one_turn, spent}
use Rattle.out.proofs.Held.{Holding, none_held, now_held, held_for}
use Rattle.out.proofs.out_from.Goals as goal
use Rattle.out.proofs.out_from.Goals.{After-evaluation, In-Settled, Joined-not-is_held, then-not-is_held, else-not-is_held}

pub loop-n-init : goal.loop-n-init
loop-n-init c = record { in_bounds = c.requires.0; same = refl; holding = none_held c.args.image.now c.no_cell-held.ensures }

-- the cell held there, read or kept, is the one around the point, and is held for others
record Held (c : Joined-not-is_held) : Type 0 where
  there : let g = grid_in c.args.image.now in c.if-not-is_held.held ≡ held_at g.corrections (grid_for g c.loop-n.r) c.loop-n.r
  taken : c.if-not-is_held.dense ≡ taken_dense c.args.image.now.layout c.loop-n.r

held : (c : Joined-not-is_held) → Held c
held c =
    elim c.if-not-is_held.branch [
      | then-not-is_held w ↦
          record {
            there = w.held-is ∙ w.cell_for-held.ensures;
            taken = w.dense-is ∙ c.is_taken_dense-next.ensures;
          }
      | else-not-is_held w ↦
          let still = sym c.is_held.ensures ∙ w.if-not-is_held.false in
          let next = c.is_taken_dense-next.result in
          let same = sym (beq_true next c.loop-n.dense (and_left (beq next c.loop-n.dense) _ still)) ∙ c.is_taken_dense-next.ensures in
          let lies = and_right (beq next c.loop-n.dense) _ still in
          record {
            there = w.held-is ∙ c.loop-n.invariant.holding.around c.loop-n.r c.loop-n.invariant.in_bounds (sym same) lies;
            taken = w.dense-is ∙ same;
          }
    ]

-- the cell held there serves the points that follow
holding : (c : Joined-not-is_held) → Holding c.args.image.now c.if-not-is_held.held c.if-not-is_held.dense
holding c = now_held c.args.image.now c.loop-n.r c.loop-n.invariant.in_bounds (held c).taken (held c).there

-- the point of the evaluation is in the bounds
there_around : (c : Joined-not-is_held) → let i = c.args.image.now in OpenAround i.bytes.now i.layout c.loop-n.r
there_around c = around c.args.image.now c.loop-n.r c.loop-n.invariant.in_bounds

pub evaluation-requires : goal.evaluation-requires
evaluation-requires c =
    let i = c.args.image.now in
    let j = (goal.at.evaluation-requires c).Joined-not-is_held in
    let o = there_around j in
    (c.requires.0, cell_holds _ _ _ (serves i.bytes.now i.layout _ o) (bounded_around o) _ (held j).there)

-- the iteration from the start, by the turn that the evaluation led to
led : (c : After-evaluation) (t : Result Turn Refusal) → c.evaluation.result ≡ t →
    let i = c.args.image.now in
    let p = c.args.fix.point in
    let n = c.loop-n.n in
    let way = from i.bytes.now i.layout p in
    (way 0 p ≡ and_then (outcome_of t) (onward n (way (n + 1)))) × LeadsInside (grid_in i).corrections (outcome_of t)
led c t e =
    let i = c.args.image.now in
    let p = c.args.fix.point in
    let stop = c.stop_distance-stop.ensures in
    let h = c.if-not-is_held.held in
    let v = ap outcome_of (sym e) ∙ c.evaluation.ensures ∙ (λ k. evaluation_of h (grid_in i).corrections (stop k) p c.loop-n.r) in
    let j = (goal.at.After-evaluation c).Joined-not-is_held in
    let room : c.loop-n.n < most_evaluations = omega (arith, c.loop-n-test.true) in
    let u = one_turn i.bytes.now i.layout p c.loop-n.r h _ c.loop-n.n (there_around j) (held j).there v room in
    (c.loop-n.invariant.same ∙ u.0, u.1)

pub returns-in_err-q : goal.returns-in_err-q
unfolding out
returns-in_err-q c =
    let r = err_from_is_err_and c.from_residual.result c.from_residual.ensures.1 in
    rw (r.1, r.2, (led (goal.at.returns-in_err-q c).After-evaluation _ c.in_err-q.was).0)

-- the same where it settled
ended : (c : In-Settled) →
    let i = c.args.image.now in
    let q = c.in-Settled.q in
    (from i.bytes.now i.layout c.args.fix.point 0 c.args.fix.point ≡ values (record { point = q; count = c.loop-n.n + 1 }))
    × (inside (grid_in i).corrections q ≡ true)
ended c = led (goal.at.In-Settled c).After-evaluation _ (c.in_ok-q.was ∙ ap Ok c.in-Settled.is)

pub height_at-requires : goal.height_at-requires
height_at-requires c =
    let j = (goal.at.height_at-requires c).Joined-not-is_held in
    let i = (ended (goal.at.height_at-requires c).In-Settled).1 in
    (i, held_for c.args.image.now c.loop-n.r c.loop-n.invariant.in_bounds (held j).taken _ (holding j) i)

pub returns-in_err-found-in-Settled : goal.returns-in_err-found-in-Settled
unfolding out
returns-in_err-found-in-Settled c =
    let r = err_from_is_err_and c.from_residual-in_err-found-in-Settled.result c.from_residual-in_err-found-in-Settled.ensures.1 in
    rw (r.1, r.2, (ended (goal.at.returns-in_err-found-in-Settled c).In-Settled).0, ← c.in_err-found-in-Settled.ensures)

read : (z : ℤ) → nat_abs z ≤ out_height_limit → to_z w64 (of_z w64 z) ≡ z
read z h = let f : SFits w64 z = omega (zarith, abs_is (var z)) in to_z-of_z f

pub answer_with-requires : goal.answer_with-requires
answer_with-requires c =
    let i = (ended (goal.at.answer_with-requires c).In-Settled).1 in
    (subst FoundWithin (sym c.in_ok-found-in-Settled.ensures) (bounded_within c.args.image.now _ i), rw (read c.args.fix.height c.requires.1) c.requires.1)

pub returns-in-Settled : goal.returns-in-Settled
unfolding out
returns-in-Settled c =
    rw ((ended (goal.at.returns-in-Settled c).In-Settled).0, ← c.in_ok-found-in-Settled.ensures)
    (ap values (rw (read c.args.fix.height c.requires.1) at c.answer_with.ensures))

pub loop-n-preserved : goal.loop-n-preserved
loop-n-preserved c =
    let t = led (goal.at.loop-n-preserved c).After-evaluation _ (c.in_ok-q.was ∙ ap Ok c.in-Next.is) in
    record { in_bounds = t.1; same = t.0; holding = holding (goal.at.loop-n-preserved c).Joined-not-is_held }

pub returns : goal.returns
unfolding out
returns c =
    let i = c.args.image.now in
    rw (c.loop-n.invariant.same ∙ spent i.bytes.now i.layout c.args.fix.point _ c.loop-n.n (omega arith))
