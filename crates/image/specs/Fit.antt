-- A fit image in the rules' terms: its grid, and what opening answers.
use Rattle.std.specs.Prelude.{Result, Bool, List, ℕ}
use Rattle.rules.specs.declared.Layout.{Layout}
use Rattle.rules.specs.declared.Refusal.{Refusal}
use Rattle.rules.specs.Answers.{Outcome, outcome_of, mapped}
use Rattle.rules.specs.Image.{Grid, grid_of, layout_for}
use Rattle.image.specs.declared.fit.FitImage.{FitImage}

abbrev pub grid_in : FitImage → Grid
grid_in i = grid_of i.bytes.now i.layout

abbrev pub layout_found : Result FitImage Refusal → Outcome Layout
layout_found r = mapped (λ (i : FitImage). i.layout) (outcome_of r)

-- What the questions answer of an image's bytes: the layout by its trailer, with heights on a separate grid or without, or the number.
abbrev pub layout_by : List ℕ → Result Bool Refusal → Outcome Layout
layout_by b r = mapped (layout_for b) (outcome_of r)
