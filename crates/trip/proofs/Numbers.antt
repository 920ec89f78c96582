-- What is answered going out with a height returns with one, and without one without: both ways look the height up at the same point.
use mathlib.Core.List.{List}
use mathlib.Core.Path.{◌≡◌, refl, sym, ap, ◌∙◌}
use Prim.Native.Nat.{ℕ}
use lib.IntN.{ℤ, ◌+ℤ◌, ◌-ℤ◌}
use Rattle.rules.specs.declared.Point.{Point}
use Rattle.rules.specs.declared.Way.TheVariants as way
use Rattle.rules.specs.Units.{out_height_limit, back_height_limit, most_evaluations, no_height_number}
use Rattle.rules.specs.Answers.{Outcome, values, number, and_then}
use Rattle.rules.specs.Image.{grid_of}
use Rattle.rules.specs.Questions.{opening}
use Rattle.rules.specs.Lookup.{Height}
use Rattle.std.specs.Prelude.{Some, None}
use Rattle.rules.specs.Ways.{Source, Accepted, answer_at, question7, plus, iterate, back, out}
use Rattle.rules.specs.Ways.{convert_over, source_of, convert, way_out, way_back}
use Rattle.rules.specs.Promise.{point_of}
use Rattle.rules.specs.Trip.{taken_back}
use Rattle.rules.proofs.Accepted.{answer_point}
use Rattle.rules.proofs.Answers.{asked, followed}
use Rattle.trip.specs.Back.{same_number}

-- The number of an answer by the height that was looked up.
abbrev height_number : Height → ℕ
height_number (Some z) = 0
height_number None = no_height_number

-- An answer with this lookup at q, the point that it is for.
record AnsweredAt (s : Source) (q : Point) (a : Accepted) : Type 0 where
  found : Height
  is : s.height q ≡ values found
  numbered : a.number ≡ height_number found

answer_number : (p : Point) (makes : ℤ → ℤ) (n : ℕ) (found : Height) → (answer_at p makes n found).number ≡ height_number found
answer_number p makes n (Some z) = refl
answer_number p makes n None = refl

module _ (s : Source) where
  answered_at : (q p : Point) (makes : ℤ → ℤ) (n : ℕ) (a : Accepted)
      → and_then (s.height q) (λ found. values (answer_at p makes n found)) ≡ values a
      → AnsweredAt s q a × (p ≡ point_of a.position)
  answered_at q p makes n a e =
      let z = followed (s.height q) _ a e in
      let k : answer_at p makes n z.0 ≡ a = cc z.2 in (
        record { found = z.0; is = z.1; numbered = sym (ap (λ (a : Accepted). a.number) k) ∙ answer_number p makes n z.0 },
        sym (answer_point p makes n z.0) ∙ ap (λ (a : Accepted). point_of a.position) k,
      )

  out_at : (p : Point) (h : ℤ) (a : Accepted) → convert_over way.Out s p h ≡ values a → AnsweredAt s (point_of a.position) a
  unfolding convert_over out
  out_at p h a e =
      let seven = asked (question7 out_height_limit p h) 7 _ a e in
      let eight = asked (s.inside p) 8 _ a seven.1 in
      let r = followed (iterate s s.stop p most_evaluations 0 p) _ a eight.1 in
      let k = answered_at r.0.point r.0.point (λ z. h -ℤ z) r.0.count a r.2 in
      rw k.1 at k.0

  back_at : (q : Point) (H : ℤ) (a : Accepted) → convert_over way.Back s q H ≡ values a → AnsweredAt s q a
  unfolding convert_over back
  back_at q H a e =
      let seven = asked (question7 back_height_limit q H) 7 _ a e in
      let eight = asked (s.inside q) 8 _ a seven.1 in
      let c = followed (s.corrections q) _ a eight.1 in
      (answered_at q (plus q c.0) (λ z. H +ℤ z) 1 a c.2).0

  same_height : (q : Point) (a r : Accepted) → AnsweredAt s q a → AnsweredAt s q r → r.number ≡ a.number
  same_height q a r x y =
      let k : y.found ≡ x.found = cc (sym y.is ∙ x.is) in
      y.numbered ∙ ap height_number k ∙ sym x.numbered

same_numbers : (b : List ℕ) (p : Point) (h : ℤ) (a r : Accepted) → way_out b p h ≡ values a
    → way_back b (point_of a.position) a.position.height ≡ values r → r.number ≡ a.number
unfolding convert
same_numbers b p h a r e f =
    let o = followed (opening b) _ a e in
    let s = source_of (grid_of b o.0) in
    let again = rw o.1 at f in
    same_height s _ a r (out_at s p h a o.2) (back_at s _ _ r again)

-- So the second half of a trip needs the position alone.
pub position_alone : (b : List ℕ) (p : Point) (h : ℤ) (a : Accepted) → way_out b p h ≡ values a → same_number b a.position ≡ taken_back b a
unfolding same_number taken_back
position_alone b p h a e = by (way_back b (point_of a.position) a.position.height) refl
  where
    by : (o : Outcome Accepted) → way_back b (point_of a.position) a.position.height ≡ o → same_number b a.position ≡ taken_back b a
    by (values r) f =
        let n = same_numbers b p h a r e f in
        rw f (λ i. values (record { outward = record { position = a.position; number = n i }; returned = r }))
    by (number n) f = rw f
