-- The conversions between kinds 0 and 3: what one that gave bytes had asked, and that any image of which this holds is converted.
use Rattle.std.specs.Prelude.{Bool, not, List, ◌≡◌, ℕ, ◌-◌, eqb, length}
use Rattle.std.proofs.Common.{sym, ap, ◌∙◌, arith, eqb-true, eq-eqb}
use Rattle.rules.specs.declared.Geometry.{Geometry}
use Rattle.rules.specs.declared.Layout.{Layout}
use Rattle.rules.specs.Answers.{values}
use Rattle.rules.specs.Image.{correction_back_of}
use Rattle.rules.specs.Questions.{opening}
use Rattle.rules.specs.Planes.{is_of_kind, bytes_from_nodes, convertible}
use Rattle.rules.proofs.Answers.{asked, followed}
use Rattle.layouts.specs.Directions.{kind_in, converted_to, conversion_to}
use Rattle.layouts.proofs.Directions.{conversion_is}
use Rattle.layouts.specs.Corrections.{layout_in}
use Rattle.layouts.specs.Kinds.{OpenIn, OpenWith}
use Rattle.layouts.proofs.KindLaws.{open_with, kind_is, opens_again}
use Rattle.layouts.specs.Conversions.{Gave}

with_layout : (written : Bool) (b : List ℕ) (room : ℕ) (x : List ℕ) (l m : Layout) → OpenWith (not written) b l
    → room ≡ bytes_from_nodes b l → values l ≡ values m → values (converted_to written b m) ≡ values x → Gave written b room x
with_layout written b room x l m w fits same made =
    let back = correction_back_of w.c w.h in
    let back_is : length b - (length b - back) ≡ back = omega (arith, w.is_open.fits) in
    let bytes : converted_to written b l ≡ x = cc in
    record {
      c = w.c;
      h = w.h;
      is_open = w.is_open;
      room_is = fits ∙ ap (λ (l : Layout). bytes_from_nodes b l) (sym w.layout) ∙ back_is;
      bytes = ap (λ (l : Layout). converted_to written b l) w.layout ∙ bytes;
    }

pub gave : (written : Bool) (b : List ℕ) (room : ℕ) (x : List ℕ) → conversion_to written b room ≡ values x → Gave written b room x
unfolding convertible
gave written b room x e =
    let kind = kind_in (not written) in
    let made = followed (convertible kind b room) _ x (sym (conversion_is written b room) ∙ e) in
    let m = made.0 in
    let entry = followed (opening b) _ m made.1 in
    let l = entry.0 in
    let right = asked (is_of_kind kind b) 2 _ m entry.2 in
    let fits = asked (eqb room (bytes_from_nodes b l)) 14 _ m right.1 in
    let is_open = open_with (not written) b l entry.1 right.0 in
    with_layout written b room x l m is_open (eqb-true _ _ fits.0) fits.1 made.2

-- And conversely: an image of the one kind that opens is converted into the other.
pub converts : {in_planes : Bool} {b : List ℕ} {c h : Geometry} → (written : Bool) → in_planes ≡ not written → OpenIn in_planes b c h
    → conversion_to written b (correction_back_of c h) ≡ values (converted_to written b (layout_in in_planes b c h))
unfolding convertible
converts {in_planes} {b} {c} {h} written other o =
    let back : correction_back_of c h ≡ length b - (length b - correction_back_of c h) = omega (arith, o.fits) in
    rw (conversion_is written b (correction_back_of c h), ← other, opens_again o, kind_is o, eq-eqb _ _ back)
