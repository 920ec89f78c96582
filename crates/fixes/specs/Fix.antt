-- A fix of three numbers and its answer; the five numbers of a position; and the limit of an answer's count.
use Rattle.std.specs.Prelude.{List, [], ◌∷◌, ℕ, ◌+◌, ◌*◌, ◌≤◌, ℤ, pos, get_or}
use Rattle.rules.specs.declared.Point.{Point}
use Rattle.rules.specs.declared.Fix.{Fix}
use Rattle.rules.specs.declared.Position.{Position}
use Rattle.rules.specs.Answers.{Outcome, values, number}
use Rattle.rules.specs.Ways.{Accepted}

-- The point and the height of fix k.
abbrev pub fix_point : List ℤ → ℕ → Point
fix_point fixes k = record { latitude = get_or fixes (3 * k) (pos 0); longitude = get_or fixes (3 * k + 1) (pos 0) }

abbrev pub fix_height : List ℤ → ℕ → ℤ
fix_height fixes k = get_or fixes (3 * k + 2) (pos 0)

-- A conversion's answer to fix k.
abbrev pub at_fix : (Point → ℤ → Outcome Accepted) → List ℤ → ℕ → Outcome Accepted
at_fix single fixes k = single (fix_point fixes k) (fix_height fixes k)

-- The fix of three numbers.
abbrev pub fix_of : List ℤ → Fix
fix_of three =
    record {
      point = record { latitude = get_or three 0 (pos 0); longitude = get_or three 1 (pos 0) };
      height = get_or three 2 (pos 0);
    }

-- The numbers of a position, and its number.
abbrev pub numbers_of : Position → ℤ → List ℤ
numbers_of p n = p.latitude ∷ p.longitude ∷ p.height ∷ pos p.count ∷ n ∷ []

-- The count fits an i64: it is at most 5, as either way gives it (proofs/Counts.antt, `count_fits`).
abbrev pub CountAtMostFive : Outcome Accepted → Type 0
CountAtMostFive (values a) = a.position.count ≤ 5
CountAtMostFive (number n) = Unit {0}
