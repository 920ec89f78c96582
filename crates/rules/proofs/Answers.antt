-- Laws of `ask` and `and_then`: what came before values, and how a question goes on.
use mathlib.Core.Bool.{Bool, true, false}
use mathlib.Core.Path.{◌≡◌, refl}
use Prim.Native.Nat.{ℕ}
use native.Mathlib.Omega.{arith}
use Rattle.rules.specs.Answers.{Outcome, values, number, ask, and_then}

-- A question before values was answered yes.
pub asked : {A : Type 0} (t : Bool) (n : ℕ) (next : Outcome A) (a : A) → ask t n next ≡ values a → (t ≡ true) × (next ≡ values a)
asked true n next a h = (refl, h)
asked false n next a h = let z : ◌≡◌ {A = ℕ} 0 1 = cc in absurd (omega arith)

-- Where values would come next, a number is that of the question, which was answered no.
pub asked_no : {A : Type 0} (t : Bool) (n : ℕ) (a : A) (m : ℕ) → ask t n (values a) ≡ number m → (t ≡ false) × (m ≡ n)
asked_no true n a m h = let z : ◌≡◌ {A = ℕ} 0 1 = cc in absurd (omega arith)
asked_no false n a m h = (refl, cc)

-- Where values came next, the step before gave values.
pub followed : {A B : Type 0} (o : Outcome A) (next : A → Outcome B) (b : B) → and_then o next ≡ values b
    → (a : A) × (o ≡ values a) × (next a ≡ values b)
followed (values a) next b h = (a, refl, h)
followed (number n) next b h = let z : ◌≡◌ {A = ℕ} 0 1 = cc in absurd (omega arith)

-- A question answered yes, and one answered no.
pub answered_yes : {A : Type 0} (t : Bool) (n : ℕ) (next : Outcome A) → t ≡ true → ask t n next ≡ next
answered_yes t n next h = rw h

pub answered_no : {A : Type 0} (t : Bool) (n : ℕ) (next : Outcome A) → t ≡ false → ask t n next ≡ number n
answered_no t n next h = rw h

-- What takes the values after a question comes after the question.
pub asked_then : {A B : Type 0} (t : Bool) (n : ℕ) (a : A) (next : A → Outcome B) → and_then (ask t n (values a)) next ≡ ask t n (next a)
asked_then true n a next = refl
asked_then false n a next = refl
