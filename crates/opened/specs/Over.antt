-- What the functions over an image's bytes and layout ask of them, and what they answer.
use Rattle.std.specs.Prelude.{List, Option, Result, ◌≡◌, ℕ, ℤ, length}
use Rattle.std.specs.Borrow.{Bor}
use Rattle.rules.specs.declared.Layout.{Layout}
use Rattle.rules.specs.declared.Point.{Point}
use Rattle.rules.specs.declared.Fix.{Fix}
use Rattle.rules.specs.declared.Converted.{Converted}
use Rattle.rules.specs.declared.Refusal.{Refusal}
use Rattle.rules.specs.declared.Way.TheVariants as way
use Rattle.rules.specs.Answers.{Outcome, ask, and_then, mapped, outcome_of}
use Rattle.rules.specs.Image.{grid_of}
use Rattle.rules.specs.Questions.{opening}
use Rattle.rules.specs.Limits.{Open}
use Rattle.rules.specs.Lookup.{Height}
use Rattle.rules.specs.Ways.{Source, source_of, convert_over, answer_of}
use Rattle.opened.specs.declared.OpenedImage.{OpenedImage}

-- The record of the bytes, where they open: these bytes, with the layout found.
abbrev pub opened : Bor (List ℕ) → Outcome OpenedImage
opened bytes = mapped (λ (l : Layout). record { bytes = bytes; layout = l }) (opening bytes.now)

-- The bytes are open with this layout, whatever the fix.
abbrev pub Opens : List ℕ → Layout → Fix → Type 0
Opens b l f = Open (length b) l

-- The answer is the lookup of the quasi-geoid height at the point.
abbrev pub IsLookup : List ℕ → Layout → Point → Result (Option ℤ) Refusal → Type 0
IsLookup b l p r = outcome_of r ≡ (source_of (grid_of b l)).height p

-- The answer is the way out of the fix.
abbrev pub IsOut : List ℕ → Layout → Fix → Result Converted Refusal → Type 0
IsOut b l f r = answer_of r ≡ convert_over way.Out (source_of (grid_of b l)) f.point f.height

-- The quasi-geoid height at any point over any image: questions 1 to 6, then 8, then the lookup, which puts question 9, in edition 2 after
-- 15. Kind 2 puts neither 8 nor 15, and has no height off the height grid.
unfoldable pub quasi_geoid_height : List ℕ → Point → Outcome Height
quasi_geoid_height b q =
    and_then (opening b) (λ l.
    let s : Source = source_of (grid_of b l) in
    ask (s.inside q) 8 (s.height q))
