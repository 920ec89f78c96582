-- Reading digit by digit: a text's digits behind those that wrote n.
--     rest         what is read of them
--     from_first   of all digits it is what `digits_of` says
--     next         a digit that is taken: what is read of the others behind it
--     stopped      a byte that is refused: nothing is read
--     at_end       no byte is left
use mathlib.Core.Bool.{Bool, true, false, ◌&&◌}
use mathlib.Core.List.{List, [], ◌∷◌}
use mathlib.Core.Path.{◌≡◌, refl, sym}
use Prim.Native.Nat.{ℕ, ◌≤◌, ◌<◌}
use native.Mathlib.Omega.{arith}
use lib.Dec.{leb}
use lib.ListN.{length}
use borrow.Author.Tests.{leb-true, leb-false, le-leb, lt-leb}
use Rattle.std.specs.Prelude.{Option, Some, None}
use Rattle.std.specs.Bool.{then_some}
use Rattle.std.proofs.lemmas.Bool.{false≢true}
use Rattle.integers.specs.Booleans.{and_left, and_right}
use Rattle.rules.proofs.Files.{kept, not_kept}
use Rattle.decimal.specs.Text.{is_digit, all_digits, longer, number_after, number_if, with_digit, digits_of}

abbrev pub rest : (most n : ℕ) → List ℕ → Option ℕ
rest most n text = number_if (all_digits text) most (number_after n text)

pub from_first : (most : ℕ) (text : List ℕ) → 0 < length text → digits_of most text ≡ rest most 0 text
unfolding digits_of
from_first most [] h = absurd (omega arith)
from_first most (b ∷ text) h = refl

pub next : (most n m b : ℕ) (text : List ℕ) → with_digit most n b ≡ Some m
    → (m ≤ most) × (rest most n (b ∷ text) ≡ rest most m text)
unfolding with_digit
next most n m b text e =
    let k = kept (is_digit b && leb (longer n b) most) (longer n b) m e in
    let fits = and_right (is_digit b) _ k.0 in
    (omega (arith, leb-true (longer n b) most fits, k.1), rw (and_left (is_digit b) _ k.0, k.1) refl)

-- more digits make no smaller number
grows : (n : ℕ) (text : List ℕ) → n ≤ number_after n text
grows n [] = omega arith
grows n (b ∷ text) = omega (arith, grows (longer n b) text)

-- the digit or the number is refused, and with the number every longer one
refused : (d t a u : Bool) (y : ℕ) → d && t ≡ false → (t ≡ false → u ≡ false) → None ≡ then_some ((d && a) && u) y
refused true true a u y e h = absurd (false≢true (sym e))
refused true false true u y e h = rw (h refl) refl
refused true false false u y e h = refl
refused false t a u y e h = refl

pub stopped : (most n b : ℕ) (text : List ℕ) → with_digit most n b ≡ None → None ≡ rest most n (b ∷ text)
unfolding with_digit
stopped most n b text e =
    let m = longer n b in
    refused (is_digit b) (leb m most) (all_digits text) (leb (number_after m text) most) (number_after m text)
    (not_kept (is_digit b && leb m most) m e)
    (λ h. lt-leb (number_after m text) most (omega (arith, leb-false m most h, grows m text)))

pub at_end : (most n : ℕ) → n ≤ most → Some n ≡ rest most n []
at_end most n h = rw (le-leb n most h) refl
