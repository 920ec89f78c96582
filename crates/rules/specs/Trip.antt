-- A trip: grid check, way out and way back in turn, and what the return promise says of one that returns.
use Rattle.std.specs.Prelude.{true, List, Result, Ok, Err, ◌≡◌, ℕ, ◌≤◌, ℤ, nat_abs}
use Rattle.rules.specs.declared.Layout.{Layout}
use Rattle.rules.specs.declared.Findings.{Findings}
use Rattle.rules.specs.declared.Point.{Point}
use Rattle.rules.specs.declared.Refusal.{Refusal}
use Rattle.rules.specs.declared.Returned.{Returned}
use Rattle.rules.specs.declared.Returned.TheVariants as returned
use Rattle.rules.specs.Units.{out_height_limit, fix_margin}
use Rattle.rules.specs.Answers.{Outcome, values, and_then, outcome_of, mapped}
use Rattle.rules.specs.Questions.{opening}
use Rattle.rules.specs.Ways.{Accepted, with_height, without_height, question7, way_back, way_out}
use Rattle.rules.specs.Check.{grid_check}
use Rattle.rules.specs.Promise.{Margins, point_of, Returns, ReturnsAnywhere}

-- The answers of both ways.
pub record BothWays : Type 0 where
  pub outward : Accepted
  pub returned : Accepted

-- The second way takes the two angles and the height that the first one answered.
unfoldable pub taken_back : List ℕ → Accepted → Outcome BothWays
taken_back b a = let q = a.position in and_then (way_back b (point_of q) q.height) (λ r. values (record { outward = a; returned = r }))

-- Out, then back.
unfoldable pub out_then_back : List ℕ → Point → ℤ → Outcome BothWays
out_then_back b p h = and_then (way_out b p h) (λ a. taken_back b a)

-- Grid check, then out and back.
unfoldable pub trip : List ℕ → Point → ℤ → Outcome BothWays
trip b p h = and_then (grid_check b) (λ f. out_then_back b p h)

-- The code's answer, in these terms.
abbrev pub both_ways_of : Returned → BothWays
both_ways_of (returned.WithHeights t) = record { outward = with_height t.outward; returned = with_height t.returned }
both_ways_of (returned.WithoutHeights t) = record { outward = without_height t.outward; returned = without_height t.returned }

abbrev pub trip_of : Result Returned Refusal → Outcome BothWays
trip_of r = mapped both_ways_of (outcome_of r)

-- A trip keeps the promise where it returns as the promise says; one without heights and a refusal do not.
abbrev pub Keeps : List ℕ → Layout → Point → ℤ → Result Returned Refusal → Type 0
Keeps b l p h (Ok (returned.WithHeights t)) = Returns b l p h t.outward t.returned
Keeps b l p h (Ok (returned.WithoutHeights t)) = ⊥
Keeps b l p h (Err r) = ⊥

-- What the promise says of the trip of any fix: it keeps the promise where the image opens and passes the check, the fix is at least
-- 10,000,000 nd inside all four bounds, and its height is in limits.
abbrev pub KeepsWhere : List ℕ → Point → ℤ → Result Returned Refusal → Type 0
KeepsWhere b p h r =
    (l : Layout) (f : Findings) → opening b ≡ values l → grid_check b ≡ values f
    → Margins fix_margin l p → nat_abs h ≤ out_height_limit → Keeps b l p h r

-- The same without a margin, with a height or without one.
abbrev pub KeepsAnywhere : Point → ℤ → Result Returned Refusal → Type 0
KeepsAnywhere p h (Ok (returned.WithHeights t)) = ReturnsAnywhere p h (with_height t.outward) (with_height t.returned)
KeepsAnywhere p h (Ok (returned.WithoutHeights t)) = ReturnsAnywhere p h (without_height t.outward) (without_height t.returned)
KeepsAnywhere p h (Err r) = ⊥

-- What it says of the trip of any fix over an image of kind 2 that passes the check: it returns where the fix is within question 7's
-- limits.
abbrev pub KeepsUnbounded : List ℕ → Point → ℤ → Result Returned Refusal → Type 0
KeepsUnbounded b p h r =
    (l : Layout) (f : Findings) → opening b ≡ values l → l.unbounded ≡ true → grid_check b ≡ values f
    → question7 out_height_limit p h ≡ true → KeepsAnywhere p h r
