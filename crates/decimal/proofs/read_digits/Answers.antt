-- `decimal::read_digits` meets its contract: each byte that is taken leaves what is read of the others, and one that is refused ends it.
use mathlib.Core.List.{List, [], ◌∷◌}
use mathlib.Core.Path.{◌≡◌, refl, sym, ap, ◌∙◌}
use Prim.Native.Nat.{ℕ, ◌+◌}
use native.Mathlib.Omega.{arith}
use lib.ListN.{length, drop, get_or}
use lib.Seq.{drop-cons}
use Rattle.std.proofs.Common.{add-one}
use Rattle.std.specs.Prelude.{None}
use Rattle.decimal.specs.Text.{digits_of}
use Rattle.decimal.proofs.Reading.{rest, from_first, next, stopped}
use Rattle.decimal.proofs.read_digits.Goals as goal
use Rattle.decimal.proofs.read_digits.Goals.{After-with_digit}

no_digit : (most : ℕ) (text : List ℕ) → length text ≡ 0 → None ≡ digits_of most text
unfolding digits_of
no_digit most [] h = refl
no_digit most (b ∷ text) h = absurd (omega arith)

pub returns-then-is_empty-clause-number : goal.returns-then-is_empty-clause-number
returns-then-is_empty-clause-number c = no_digit _ _ (grind arith)

pub loop-byte-init : goal.loop-byte-init
loop-byte-init c = (omega arith, from_first _ c.args.text.now (grind arith))

-- the bytes that are not yet read are the next one and those behind it
step : (c : After-with_digit) →
    let s = c.args in
    let at = c.loop-byte.byte-index in
    digits_of s.most s.text.now ≡ rest s.most c.loop-byte.n (get_or s.text.now at 0 ∷ drop (at + 1) s.text.now)
step c =
    let text = c.args.text.now in
    let l = c.loop-byte in
    l.invariant.1 ∙ rw add-one (ap (rest c.args.most l.n) (drop-cons text l.byte-index 0 (omega arith)))

pub returns-in_err-n-clause-number : goal.returns-in_err-n-clause-number
returns-in_err-n-clause-number c =
    let behind = drop (c.loop-byte.byte-index + 1) c.args.text.now in
    rw c.from_residual.ensures
    (stopped _ _ _ behind (sym c.in_err-n.ensures) ∙ sym (step (goal.at.returns-in_err-n-clause-number c).After-with_digit))

pub loop-byte-preserved : goal.loop-byte-preserved
loop-byte-preserved c =
    let k = next _ _ _ _ (drop (c.loop-byte.byte-index + 1) c.args.text.now) (sym c.in_ok-n.ensures) in
    (k.0, step (goal.at.loop-byte-preserved c).After-with_digit ∙ k.1)
