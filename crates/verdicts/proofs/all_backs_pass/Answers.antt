-- `verdicts::all_backs_pass` meets its contract: the correction nodes' back, which passed, is part of the dense nodes' one.
use mathlib.Core.Path.{◌≡◌, sym, ◌∙◌}
use Prim.Native.Nat.{◌+◌}
use native.Mathlib.Omega.{arith}
use Rattle.integers.specs.Booleans.{and_left, and_right, and_next}
use Rattle.rules.specs.Image.{correction_back_of}
use Rattle.rules.specs.Questions.{question3, of_both, back_passes, all_backs_pass}
use Rattle.rules.proofs.Opening.{nodes_most, backs_are}
use Rattle.verdicts.proofs.all_backs_pass.Goals as goal
use Rattle.verdicts.proofs.all_backs_pass.Goals.{Then-backs_pass}

-- the correction nodes' back
back : (c : Then-backs_pass) → let t = c.args.t in
    t.corrections.back ≡ correction_back_of t.corrections.geometry t.heights.geometry
back c = (backs_are _ _ (sym c.backs_pass.ensures ∙ c.if-backs_pass.true)).0.0

pub overflow_add-bytes_of-then-backs_pass : goal.overflow_add-bytes_of-then-backs_pass
overflow_add-bytes_of-then-backs_pass c =
    let h = and_left (of_both question3 c.args.t) _ c.requires in
    let g = c.args.t.corrections.geometry in
    omega (
      arith,
      back (goal.at.overflow_add-bytes_of-then-backs_pass c).Then-backs_pass,
      c.bytes_of.ensures.1,
      nodes_most g (and_left _ _ h),
      nodes_most _ (and_right (question3 g) _ h),
    )

pub returns-then-backs_pass : goal.returns-then-backs_pass
unfolding all_backs_pass
returns-then-backs_pass c =
    let s = c.args in
    and_next c.backs_pass.ensures c.if-backs_pass.true
    (c.back_passes.ensures
    ∙ (λ i. back_passes s.d.back (c.bytes_of.ensures.0 i + 36 + back (goal.at.returns-then-backs_pass c).Then-backs_pass i) s.size))
