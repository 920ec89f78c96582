-- What judging a trailer answers.
use Rattle.std.specs.Prelude.{Result, List}
use Rattle.std.specs.List.{list_all}
use Rattle.rules.specs.declared.Refusal.{Refusal}
use Rattle.rules.specs.declared.Geometry.{Geometry}
use Rattle.rules.specs.declared.Layout.{Layout}
use Rattle.rules.specs.Answers.{Outcome, values, ask, outcome_of, mapped}
use Rattle.rules.specs.Questions.{question3, question4, question5}

-- The layout where every question has the answer yes, or the number.
abbrev pub verdict_of : Layout → Result Unit Refusal → Outcome Layout
verdict_of l r = mapped (λ _. l) (outcome_of r)

-- Questions 3 to 5, each of all grids.
unfoldable pub judge_grids : List Geometry → Outcome Unit
judge_grids grids =
    ask (list_all question3 grids) 3
    (ask (list_all question4 grids) 4
    (ask (list_all question5 grids) 5
    (values tt)))
