-- `opened::way_out` meets its contract: questions 1 to 6, then the way out through the record that the layout found makes.
use mathlib.Core.Path.{◌≡◌}
use Rattle.std.proofs.lemmas.Result.{err_from_is_err_and}
use Rattle.rules.specs.Answers.{values}
use Rattle.rules.specs.Questions.{opening}
use Rattle.rules.specs.Ways.{convert}
use Rattle.rules.proofs.Opening.{opened}
use Rattle.opened.proofs.Opening.{found, refused}
use Rattle.opened.proofs.way_out.Goals as goal
use Rattle.opened.proofs.way_out.Goals.{In_ok-layout}

pub returns-in_err-layout : goal.returns-in_err-layout
unfolding convert
returns-in_err-layout c =
    let p = err_from_is_err_and c.from_residual.result c.from_residual.ensures.1 in
    rw (p.1, p.2, refused c.args.bytes _ c.in_err-layout.ensures)

-- the layout that is handed on
laid : (c : In_ok-layout) → opening c.args.bytes.now ≡ values c.in_ok-layout.field-0.layout
laid c = (found c.args.bytes c.in_ok-layout.field-0 c.in_ok-layout.ensures).opens

pub out_through-requires : goal.out_through-requires
out_through-requires c = opened _ _ (laid (goal.at.out_through-requires c).In_ok-layout)

pub returns : goal.returns
unfolding convert
returns c = rw (laid (goal.at.returns c).In_ok-layout) c.out_through.ensures
