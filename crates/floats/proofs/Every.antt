-- What `all` answers over a range of numbers is what the rules' `every` says of them.
use mathlib.Core.Bool.{Bool, true, false, ◌&&◌}
use mathlib.Core.Path.{◌≡◌, refl, ◌∙◌}
use Prim.Native.Nat.{ℕ, zero, suc, ◌+◌}
use native.Mathlib.Omega.{arith}
use native.Mathlib.Numerals.{add-one}
use Rattle.std.specs.List.{list_all, range_with_len}
use Rattle.rules.specs.Check.{every}

moved : (a b c : Bool) → ((a && b) && c) ≡ (b && (c && a))
moved true true true = refl
moved true true false = refl
moved true false c = refl
moved false true true = refl
moved false true false = refl
moved false false c = refl

after : (n a : ℕ) (t : ℕ → Bool) → (list_all t (range_with_len a n) && every a t) ≡ every (n + a) t
unfolding every
after zero a t = let e : 0 + a ≡ a = omega arith in rw e
after (suc n) a t =
    let e : suc n + a ≡ n + suc a = omega arith in
    moved (t a) (list_all t (range_with_len (a + 1) n)) (every a t) ∙ rw (e, add-one) (after n (suc a) t)

last_true : (a : Bool) → a ≡ (a && true)
last_true true = refl
last_true false = refl

pub all_is_every : (n : ℕ) (t : ℕ → Bool) → list_all t (range_with_len 0 n) ≡ every n t
unfolding every
all_is_every n t = let e : n + 0 ≡ n = omega arith in last_true _ ∙ rw e at (after n 0 t)
