-- `trip::taken_back` meets its contract: the way back takes the angles and the height as the way out answered them.
use mathlib.Core.Path.{◌≡◌, sym, ap, ◌∙◌}
use mir.Syntax.{w64}
use Rattle.std.proofs.lemmas.Result.{err_from_is_err_and}
use Rattle.integers.specs.Machine.{reads_back}
use Rattle.rules.specs.declared.Converted.{Converted}
use Rattle.rules.specs.Answers.{values}
use Rattle.rules.specs.Ways.{way_back, accepted_of, answer_of}
use Rattle.rules.specs.Promise.{point_of}
use Rattle.trip.specs.Back.{same_number}
use Rattle.trip.proofs.taken_back.Goals as goal
use Rattle.trip.proofs.taken_back.Goals.{After-convert, In_ok-returned}

went : (c : After-convert) → let s = c.args in
    answer_of c.convert.result ≡ way_back s.image.now (point_of s.outward) s.outward.height
went c =
    let s = c.args in
    let inv = c.type_inv.outward in
    let latitude = reads_back w64 s.outward.latitude inv.0.1 in
    let longitude = reads_back w64 s.outward.longitude inv.1.0.1 in
    let height = reads_back w64 s.outward.height inv.1.1.0.1 in
    c.convert.ensures ∙ (λ i. way_back s.image.now (record { latitude = latitude i; longitude = longitude i }) (height i))

pub returns-in_err-returned : goal.returns-in_err-returned
unfolding same_number
returns-in_err-returned c =
    let p = err_from_is_err_and c.from_residual.result c.from_residual.ensures.1 in
    rw (p.1, p.2, sym (went (goal.at.returns-in_err-returned c).After-convert) ∙ ap answer_of c.in_err-returned.was)

-- what came back
back : (c : In_ok-returned) (a : Converted) → c.in_ok-returned.field-0 ≡ a → let s = c.args in
    way_back s.image.now (point_of s.outward) s.outward.height ≡ values (accepted_of a)
back c a e = sym (went (goal.at.In_ok-returned c).After-convert) ∙ ap answer_of c.in_ok-returned.was ∙ ap (λ v. values (accepted_of v)) e

pub returns-in-WithHeight : goal.returns-in-WithHeight
unfolding same_number
returns-in-WithHeight c = rw (back (goal.at.returns-in-WithHeight c).In_ok-returned _ c.in-WithHeight.is)

pub returns-in-WithoutHeight : goal.returns-in-WithoutHeight
unfolding same_number
returns-in-WithoutHeight c = rw (back (goal.at.returns-in-WithoutHeight c).In_ok-returned _ c.in-WithoutHeight.is)
