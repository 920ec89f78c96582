-- Tests that compute: conjunctions, their parts, and a branch that is taken.
use Rattle.std.specs.Prelude.{Bool, true, false, cond, ◌&&◌, ◌≡◌, refl}
use Rattle.std.proofs.lemmas.Bool.{false≢true}
use Rattle.std.specs.Bool.{beq}
use Rattle.std.proofs.Common.{sym}

pub and_left : (a b : Bool) → (a && b) ≡ true → a ≡ true
and_left true b h = refl
and_left false b h = absurd (false≢true h)

pub and_right : (a b : Bool) → (a && b) ≡ true → b ≡ true
and_right true b h = h
and_right false b h = absurd (false≢true h)

pub and_both : {a b : Bool} → a ≡ true → b ≡ true → (a && b) ≡ true
and_both h k = rw (h, k)

pub and_false : (a : Bool) → (a && false) ≡ false
and_false true = refl
and_false false = refl

pub all_three : (a b c : Bool) → (a && (b && c)) ≡ true → (a ≡ true) × (b ≡ true) × (c ≡ true)
all_three a b c h = let k = and_right a (b && c) h in (and_left a (b && c) h, and_left b c k, and_right b c k)

-- Tests in a row, as the code runs them: t is the first, whose rule is a, and b is the rule of those after it. Where the first passes,
-- the result r of the others decides; where it does not, the code gives false.
pub and_next : {t a r b : Bool} → t ≡ a → t ≡ true → r ≡ b → r ≡ (a && b)
and_next e h k = rw (← e, h, k)

pub and_stop : {t a : Bool} (b : Bool) → t ≡ a → t ≡ false → false ≡ (a && b)
and_stop b e h = rw (← e, h)

-- A result by a test is that of the one branch or of the other.
pub branched : {A G : Type 0} (t : Bool) (x y z : A) → cond t x y ≡ z → (t ≡ true → x ≡ z → G) → (t ≡ false → y ≡ z → G) → G
branched true x y z h f g = f refl h
branched false x y z h f g = g refl h

-- What is tested to be the same is.
pub beq_true : (a b : Bool) → beq a b ≡ true → a ≡ b
beq_true true true e = refl
beq_true true false e = sym e
beq_true false true e = e
beq_true false false e = refl
