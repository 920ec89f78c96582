-- `opened::quasi_geoid_height` meets its contract: questions 1 to 6, then 8, then the lookup through the record.
use mathlib.Core.Bool.{Bool}
use mathlib.Core.Path.{◌≡◌, sym, ap, ◌∙◌}
use Rattle.std.proofs.lemmas.Result.{err_from_is_err_and}
use Rattle.rules.specs.Answers.{values, ask}
use Rattle.rules.specs.Image.{Grid, grid_of}
use Rattle.rules.specs.Questions.{opening}
use Rattle.rules.specs.Ways.{source_of}
use Rattle.rules.proofs.Opening.{opened}
use Rattle.source.proofs.Sources.{of_bounded, inside_either}
use Rattle.opened.specs.Over.{quasi_geoid_height}
use Rattle.opened.proofs.Opening.{found, refused}
use Rattle.opened.proofs.quasi_geoid_height.Goals as goal
use Rattle.opened.proofs.quasi_geoid_height.Goals.{After-is_inside, In_ok-layout}

pub returns-in_err-layout : goal.returns-in_err-layout
unfolding quasi_geoid_height
returns-in_err-layout c =
    let p = err_from_is_err_and c.from_residual.result c.from_residual.ensures.1 in
    rw (p.1, p.2, refused c.args.bytes _ c.in_err-layout.ensures)

-- the layout that the bounds and the lookup are asked with
laid : (c : In_ok-layout) → opening c.args.bytes.now ≡ values c.in_ok-layout.field-0.layout
laid c = (found c.args.bytes c.in_ok-layout.field-0 c.in_ok-layout.ensures).opens

pub is_inside-requires : goal.is_inside-requires
is_inside-requires c = (opened _ _ (laid (goal.at.is_inside-requires c).In_ok-layout)).latitude.geometry

-- question 8, and the height that is found from its answer
abbrev grid : After-is_inside → Grid
grid c = grid_of c.args.bytes.now c.in_ok-layout.field-0.layout

question8_is : (c : After-is_inside) (b : Bool) → c.is_inside.result ≡ b → (source_of (grid c)).inside c.args.q ≡ b
question8_is c b e = inside_either (grid c) _ ∙ sym c.is_inside.ensures ∙ e

height_is : (c : After-is_inside) (b : Bool) → c.is_inside.result ≡ b →
    let s = c.args in
    quasi_geoid_height s.bytes.now s.q ≡ ask b 8 ((source_of (grid c)).height s.q)
unfolding quasi_geoid_height
height_is c b e =
    let s = c.args in
    rw (laid (goal.at.After-is_inside c).In_ok-layout)
    (ap (λ (inside : Bool). ask inside 8 ((source_of (grid c)).height s.q)) (question8_is c b e))

pub returns-then-not-is_inside : goal.returns-then-not-is_inside
returns-then-not-is_inside c =
    sym (height_is (goal.at.returns-then-not-is_inside c).After-is_inside _ c.if-not-is_inside.true)

pub look_up_through-requires : goal.look_up_through-requires
look_up_through-requires c =
    let k = (goal.at.look_up_through-requires c).After-is_inside in
    record {
      layout = opened _ _ (laid (goal.at.look_up_through-requires c).In_ok-layout);
      point = λ bounds.
          let yes = question8_is k _ c.if-not-is_inside.false in
          sym (λ i. (of_bounded (grid k) bounds i).inside c.args.q) ∙ yes;
    }

pub returns : goal.returns
returns c =
    c.look_up_through.ensures ∙ sym (height_is (goal.at.returns c).After-is_inside _ c.if-not-is_inside.false)
