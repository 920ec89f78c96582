-- `fixes::convert_list` meets its contract: a question's no gives its number and leaves the answers; else all are written.
use mathlib.Core.Bool.{Bool}
use mathlib.Core.List.{List}
use mathlib.Core.Path.{◌≡◌, sym, ap, ◌∙◌}
use Prim.Native.Nat.{ℕ}
use native.Mathlib.Nat.{le_refl}
use lib.ListN.{length, take}
use lib.Seq.{take_all}
use Rattle.std.proofs.lemmas.Result.{err_from_is_err_and}
use Rattle.rules.specs.Lists.{question14, convert_list}
use Rattle.rules.specs.Questions.{opening}
use Rattle.image.specs.Fit.{layout_found}
use Rattle.fixes.proofs.convert_list.Goals as goal
use Rattle.fixes.proofs.convert_list.Goals.{After-open, After-lengths_pass}

-- a list from its start to its end is the list
whole : (b : List ℕ) → take (length b) b ≡ b
whole b = take_all (length b) b (le_refl (length b))

-- questions 1 to 6 and 14, as the code found them
found : (c : After-open) → layout_found c.«open».result ≡ opening c.args.image.now
found c = rw (whole c.args.image.now) at c.«open».ensures.layout

lengths : (c : After-lengths_pass) (b : Bool) → c.lengths_pass.result ≡ b →
    let s = c.args in question14 (length s.fixes.now) (length s.answers.now) ≡ b
lengths c b e = sym c.lengths_pass.ensures ∙ e

pub returns-in_err-image : goal.returns-in_err-image
unfolding convert_list
returns-in_err-image c =
    let no = sym (found (goal.at.returns-in_err-image c).After-open) ∙ ap layout_found c.in_err-image.was in
    let p = err_from_is_err_and c.from_residual.result c.from_residual.ensures.1 in
    record { number = rw (p.1, p.2, no); answers = rw no }

pub returns-then-not-lengths_pass : goal.returns-then-not-lengths_pass
unfolding convert_list
returns-then-not-lengths_pass c =
    let at = goal.at.returns-then-not-lengths_pass c in
    let open_is = sym (found at.After-open) ∙ ap layout_found c.in_ok-image.was in
    let q = lengths at.After-lengths_pass _ c.if-not-lengths_pass.true in
    record { number = rw (open_is, q); answers = rw (open_is, q) }

pub convert_all-requires : goal.convert_all-requires
convert_all-requires c =
    let at = goal.at.convert_all-requires c in
    let open_is = sym (found at.After-open) ∙ ap layout_found c.in_ok-image.was in
    lengths at.After-lengths_pass _ c.if-not-lengths_pass.false

pub returns : goal.returns
unfolding convert_list
returns c =
    let at = goal.at.returns c in
    let open_is = sym (found at.After-open) ∙ ap layout_found c.in_ok-image.was in
    let q = lengths at.After-lengths_pass _ c.if-not-lengths_pass.false in
    let bytes = rw (c.in_ok-image.ensures.bytes, whole c.args.image.now) at c.convert_all.ensures in
    record { number = rw (open_is, q); answers = rw (open_is, q) bytes }
