-- Document 01, "Questions in order": an answer is its values or a question's number alone, and what the code's results say in these terms.
use Rattle.std.specs.Prelude.{Bool, true, false, Result, Ok, Err, ℕ, ℤ, pos}
use Rattle.rules.specs.declared.Refusal.{Refusal}
use Rattle.rules.specs.declared.Refusal.TheVariants.{ImageLength, Edition, NodeCount, Spacing, GridBounds, NodeBytes}
use Rattle.rules.specs.declared.Refusal.TheVariants.{FixLimits, OutsideBounds, NodeLimits, IterateOutside, NotSettled}
use Rattle.rules.specs.declared.Refusal.TheVariants.{Slope, BadNotation, ListLengths, OffHeightGrid}
use Rattle.rules.specs.declared.Refusal.TheVariants.{VdatumFile, VdatumHeight, Ntv2File, Ntv2Shift}
use Rattle.rules.specs.declared.Refusal.TheVariants.{DenseAlignment, DenseBorder, BorderCorrection}

-- Values, or the number of the question whose answer was no.
pub data Outcome (A : Type 0) : Type 0 where
  values : A → Outcome A
  number : ℕ → Outcome A

-- A question: where its answer is no, its number; else what comes next.
abbrev pub ask : {A : Type 0} → Bool → ℕ → Outcome A → Outcome A
ask true n next = next
ask false n next = number n

-- What comes next takes the values; a number stays.
abbrev pub and_then : {A B : Type 0} → Outcome A → (A → Outcome B) → Outcome B
and_then (values a) next = next a
and_then (number n) next = number n

-- The same values in other terms; a number stays.
abbrev pub mapped : {A B : Type 0} → (A → B) → Outcome A → Outcome B
mapped f (values a) = values (f a)
mapped f (number n) = number n

-- The number of each refusal.
abbrev pub number_of : Refusal → ℕ
number_of ImageLength = 1
number_of Edition = 2
number_of NodeCount = 3
number_of Spacing = 4
number_of GridBounds = 5
number_of NodeBytes = 6
number_of FixLimits = 7
number_of OutsideBounds = 8
number_of NodeLimits = 9
number_of IterateOutside = 10
number_of NotSettled = 11
number_of Slope = 12
number_of BadNotation = 13
number_of ListLengths = 14
number_of OffHeightGrid = 15
number_of VdatumFile = 16
number_of VdatumHeight = 17
number_of Ntv2File = 18
number_of Ntv2Shift = 19
number_of DenseAlignment = 20
number_of DenseBorder = 21
number_of BorderCorrection = 22

-- A result of the code, in these terms.
abbrev pub outcome_of : {A : Type 0} → Result A Refusal → Outcome A
outcome_of (Ok a) = values a
outcome_of (Err r) = number (number_of r)

-- What a call gives: 0 with values, else the number.
abbrev pub status_of : {A : Type 0} → Outcome A → ℤ
status_of (values a) = pos 0
status_of (number n) = pos n

-- What a call leaves where its values go: these, else what was there before.
abbrev pub after : {A : Type 0} → Outcome A → A → A
after (values a) before = a
after (number n) before = before
