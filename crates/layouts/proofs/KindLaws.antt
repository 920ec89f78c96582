-- The images of kinds 0 and 3 that open: what the opening asked of them, and that any image of which this holds opens.
use Rattle.std.specs.Prelude.{Bool, false, ◌&&◌, List, ◌≡◌, refl, ℕ, ◌≤◌, eqb, length}
use Rattle.std.proofs.Math.Bool.{true}
use Rattle.std.proofs.Common.{sym, ap, ◌∙◌, arith}
use Rattle.std.proofs.Math.Dec.{leb}
use borrow.Author.Tests.{eqb-true, eq-eqb, le-leb}
use Rattle.integers.specs.Booleans.{and_left, and_right, and_both}
use Rattle.rules.specs.declared.Geometry.{Geometry}
use Rattle.rules.specs.declared.TwoGridTrailer.{TwoGridTrailer}
use Rattle.rules.specs.declared.Layout.{Layout}
use Rattle.rules.specs.Answers.{values}
use Rattle.rules.specs.Image.{edition_of, two_grid_trailer_of, is_nested, is_unbounded, is_in_planes}
use Rattle.rules.specs.Image.{height_back_of, correction_back_of, two_grid_layout_of}
use Rattle.rules.specs.Questions.{question1, question3, question4, question5, back_passes}
use Rattle.rules.specs.Questions.{length_of_two, kind_known, of_both, backs_pass, judge_two, opening_two, opening}
use Rattle.rules.specs.Planes.{is_of_kind}
use Rattle.rules.proofs.Answers.{asked}
use Rattle.rules.proofs.Opening.{backs_are}
use Rattle.layouts.specs.Directions.{kind_in}
use Rattle.layouts.specs.Corrections.{layout_in}
use Rattle.layouts.specs.Kinds.{OpenIn, OpenWith, trailer_in}

-- What the kind says.
not_nested : (in_planes : Bool) → eqb (kind_in in_planes) 1 ≡ false
not_nested true = refl
not_nested false = refl

known : (in_planes : Bool) (c h : Geometry) → kind_known (trailer_in in_planes c h) ≡ true
known true c h = refl
known false c h = refl

laid : (in_planes : Bool) (size : ℕ) (t : TwoGridTrailer) → t.kind ≡ kind_in in_planes →
    let c = t.corrections.geometry in
    let h = t.heights.geometry in
    two_grid_layout_of (is_in_planes t) (is_unbounded t) size c h ≡ two_grid_layout_of in_planes false size c h
laid true size t e = rw e
laid false size t e = rw e

judged : (in_planes : Bool) (b : List ℕ) (l : Layout) → edition_of b ≡ 2 → (two_grid_trailer_of b).kind ≡ kind_in in_planes
    → judge_two (two_grid_trailer_of b) (length b) ≡ values l → OpenWith in_planes b l
unfolding judge_two
judged in_planes b l edition kind e =
    let t = two_grid_trailer_of b in
    let h2 = asked (kind_known t) 2 _ l e in
    let h3 = asked (of_both question3 t) 3 _ l h2.1 in
    let h4 = asked (of_both question4 t) 4 _ l h3.1 in
    let h5 = asked (of_both question5 t) 5 _ l h4.1 in
    let h6 = asked (backs_pass t (length b)) 6 _ l h5.1 in
    let backs = backs_are t (length b) h6.0 in
    let c = t.corrections.geometry in
    let h = t.heights.geometry in
    let same : two_grid_layout_of (is_in_planes t) (is_unbounded t) (length b) c h ≡ l = cc in
    record {
      c = c;
      h = h;
      is_open =
          record {
            edition = edition;
            trailer =
                λ i. record {
                  corrections = record { geometry = c; back = backs.0.0 i };
                  heights = record { geometry = h; back = backs.1.0 i };
                  kind = kind i;
                };
            counts = h3.0;
            spacings = h4.0;
            bounds = h5.0;
            fits = omega (arith, backs.0);
          };
      layout = sym (laid in_planes (length b) t kind) ∙ same;
    }

pub open_with : (in_planes : Bool) (b : List ℕ) (l : Layout) → opening b ≡ values l → is_of_kind (kind_in in_planes) b ≡ true
    → OpenWith in_planes b l
unfolding opening opening_two is_of_kind
open_with in_planes b l e k =
    let edition = eqb-true (edition_of b) 2 (and_left _ _ k) in
    let kind = eqb-true (two_grid_trailer_of b).kind (kind_in in_planes) (and_right (eqb (edition_of b) 2) _ k) in
    let first = asked (question1 (length b)) 1 _ l e in
    let two : opening_two b ≡ values l = rw edition at first.1 in
    let long = asked (length_of_two (length b)) 1 _ l two in
    let nested : is_nested (two_grid_trailer_of b) ≡ false = rw kind (not_nested in_planes) in
    judged in_planes b l edition kind (rw nested at long.1)

-- ---- and conversely
judged_again : (in_planes : Bool) (c h : Geometry) (size : ℕ) → (question3 c && question3 h) ≡ true → (question4 c && question4 h) ≡ true
    → (question5 c && question5 h) ≡ true → correction_back_of c h ≤ size
    → judge_two (trailer_in in_planes c h) size ≡ values (two_grid_layout_of in_planes false size c h)
unfolding judge_two backs_pass back_passes
judged_again in_planes c h size counts spacings bounds fits =
    let passes : backs_pass (trailer_in in_planes c h) size ≡ true =
    and_both
    (and_both (eq-eqb (correction_back_of c h) _ refl) (le-leb _ _ fits))
    (and_both (eq-eqb (height_back_of h) _ refl) (le-leb (height_back_of h) size (omega arith))) in
    rw (known in_planes c h, counts, spacings, bounds, passes) (ap values (laid in_planes size (trailer_in in_planes c h) refl))

module _ {in_planes : Bool} {b : List ℕ} {c h : Geometry} (o : OpenIn in_planes b c h) where
  pub kind_is : is_of_kind (kind_in in_planes) b ≡ true
  unfolding is_of_kind
  kind_is = and_both (eq-eqb _ _ o.edition) (eq-eqb _ _ (ap (λ (t : TwoGridTrailer). t.kind) o.trailer))

  pub opens_again : opening b ≡ values (layout_in in_planes b c h)
  unfolding opening opening_two
  opens_again =
      let fits = o.fits in
      let long : leb 40 (length b) ≡ true = le-leb 40 (length b) (omega arith) in
      let longer : leb 80 (length b) ≡ true = le-leb 80 (length b) (omega arith) in
      rw (long, o.edition, longer, o.trailer, not_nested in_planes)
      (judged_again in_planes c h (length b) o.counts o.spacings o.bounds fits)
