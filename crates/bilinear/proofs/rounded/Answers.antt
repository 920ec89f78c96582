-- `bilinear::rounded` meets its contract: each return is one of the six cases.
use mathlib.Core.Bool.{true, false}
use mathlib.Core.Path.{◌≡◌, sym, ◌∙◌}
use Prim.Native.Nat.{◌+◌}
use native.Mathlib.Omega.{arith}
use lib.IntN.{pos, ◌+ℤ◌}
use mir.Syntax.{w64}
use mir.Val.{SFits, to_z, of_z}
use Rattle.integers.specs.Difference.{Difference, lit, ◌⊕◌}
use Rattle.integers.specs.Machine.{zarith, read_cast, read_back_lem, minus_back}
use Rattle.rules.specs.SixCases.{Half, test_for_half, value_in_case, six_cases}
use Rattle.rules.proofs.SixCases.{is_below, is_exactly, is_above, in_case}
use Rattle.bilinear.proofs.rounded.Goals as goal
use Rattle.bilinear.proofs.rounded.Goals.{Else-not-negative, Start, Then-not-negative}

module _ (s : Start) where
  -- The quotient as the machine has it, and one more.
  abbrev value : Difference (to_z w64 s.args.quotient)
  value = read_cast w64 s.args.quotient (omega arith)

  value_is : to_z w64 s.args.quotient ≡ pos s.args.quotient
  value_is = omega (zarith, value)

  more_fits : SFits w64 (to_z w64 s.args.quotient +ℤ pos 1)
  more_fits = omega (zarith, value ⊕ lit 1)

  abbrev more : Difference (to_z w64 (of_z w64 (to_z w64 s.args.quotient +ℤ pos 1)))
  more = read_back_lem more_fits (value ⊕ lit 1)

  more_is : to_z w64 (of_z w64 (to_z w64 s.args.quotient +ℤ pos 1)) ≡ pos (s.args.quotient + 1)
  more_is = omega (zarith, more)

-- The rule's value in a case, by the test of the sign and the test for half.
positive : {t : Half} (c : Then-not-negative) → let a = c.args in
    test_for_half a.remainder a.area ≡ t
    → value_in_case false t a.quotient ≡ six_cases a.negative a.quotient a.remainder a.area
positive c h = let a = c.args in sym (in_case a.quotient a.remainder a.area c.if-not-negative.true h)

negative : {t : Half} (c : Else-not-negative) → let a = c.args in
    test_for_half a.remainder a.area ≡ t
    → value_in_case true t a.quotient ≡ six_cases a.negative a.quotient a.remainder a.area
negative c h = let a = c.args in sym (in_case a.quotient a.remainder a.area c.if-not-negative.false h)

pub returns-then-remainder-missing : goal.returns-then-remainder-missing
returns-then-remainder-missing c =
    value_is (goal.at.returns-then-remainder-missing c).Start
    ∙ positive (goal.at.returns-then-remainder-missing c).Then-not-negative (is_below _ _ (omega arith))

pub returns-then-remainder-missing-2 : goal.returns-then-remainder-missing-2
returns-then-remainder-missing-2 c =
    more_is (goal.at.returns-then-remainder-missing-2 c).Start
    ∙ positive (goal.at.returns-then-remainder-missing-2 c).Then-not-negative (is_exactly _ _ (omega arith))

pub returns-then-not-negative : goal.returns-then-not-negative
returns-then-not-negative c =
    more_is (goal.at.returns-then-not-negative c).Start
    ∙ positive (goal.at.returns-then-not-negative c).Then-not-negative (is_above _ _ (omega arith))

pub returns-then-remainder-missing-3 : goal.returns-then-remainder-missing-3
returns-then-remainder-missing-3 c =
    minus_back w64 (more_is (goal.at.returns-then-remainder-missing-3 c).Start) (omega arith)
    ∙ negative (goal.at.returns-then-remainder-missing-3 c).Else-not-negative (is_above _ _ (omega arith))

pub returns-then-remainder-missing-4 : goal.returns-then-remainder-missing-4
returns-then-remainder-missing-4 c =
    minus_back w64 (value_is (goal.at.returns-then-remainder-missing-4 c).Start) (omega arith)
    ∙ negative (goal.at.returns-then-remainder-missing-4 c).Else-not-negative (is_exactly _ _ (omega arith))

pub returns : goal.returns
returns c =
    minus_back w64 (value_is (goal.at.returns c).Start) (omega arith)
    ∙ negative (goal.at.returns c).Else-not-negative (is_below _ _ (omega arith))
