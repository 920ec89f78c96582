-- An evaluation of the way out without bounds, the limit of the corrections that it finds, and the answers outside the bounds.
use mathlib.Core.Bool.{Bool, true, false, cond}
use mathlib.Core.Path.{◌≡◌, refl, sym, ap, subst, ◌∙◌}
use Prim.Native.Nat.{ℕ, suc, ◌+◌, ◌-◌, ◌≤◌, ◌<◌}
use native.Mathlib.Omega.{arith}
use lib.IntN.{ℤ, pos, nat_abs, ◌+ℤ◌, ◌-ℤ◌}
use borrow.Author.Tests.{le-leb}
use Rattle.integers.specs.Booleans.{and_left, and_right, and_both}
use Rattle.integers.specs.Difference.{order, var, lit, ◌⊖◌}
use Rattle.integers.specs.Distance.{abs_is}
use Rattle.rules.specs.declared.Point.{Point}
use Rattle.rules.specs.declared.Correction.{Correction}
use Rattle.rules.specs.declared.Way.{Way}
use Rattle.rules.specs.declared.Way.TheVariants as way
use Rattle.rules.specs.Units.{correction_limit, stop_distance, most_evaluations}
use Rattle.rules.specs.Answers.{Outcome, values, number, and_then}
use Rattle.rules.specs.Image.{Grid}
use Rattle.rules.specs.Limits.{GeometryPasses, CorrectionWithin}
use Rattle.rules.specs.Bilinear.{corners_for, value_at}
use Rattle.rules.specs.Lookup.{inside, square_passes, corrections_pass, corrections_at, correction_grid_lookup, no_correction}
use Rattle.rules.specs.Lookup.{corrections_or_zero}
use Rattle.rules.specs.Ways.{Settled, settled, plus, minus, answer_at, iterate, back, out, way_of, unbounded_source}
use Rattle.rules.proofs.Answers.{asked}
use Rattle.rules.proofs.Limits.{corners_within}
use Rattle.lookup.specs.Held.{value_in}
use Rattle.lookup.proofs.Found.{between_within}
use Rattle.lookup.proofs.Places.{in_cell}
use Rattle.grids.specs.Grids.{height_on_or_none}
use Rattle.source.proofs.Sources.{height_anywhere, found_anywhere}
use Rattle.anywhere.specs.Unbounded.{outside}

-- ---- the corrections found are within question 9's limit
module _ (g : Grid) (r : Point) (c : Correction) (o : GeometryPasses g.corrections) where
  inside_within : inside g.corrections r ≡ true → correction_grid_lookup g r ≡ values c → CorrectionWithin c
  unfolding correction_grid_lookup corrections_pass value_at value_in
  inside_within i e =
      let first = square_passes correction_limit (corners_for g.corrections g.latitude r) in
      let t = asked (corrections_pass g r) 9 _ c e in
      let at = in_cell (record { geometry = o; point = i }) in
      let k : corrections_at g r ≡ c = cc t.1 in
      subst CorrectionWithin k (record {
        latitude = between_within _ (corners_within _ _ (and_left first _ t.0)) at;
        longitude = between_within _ (corners_within _ _ (and_right first _ t.0)) at;
      })

  pub anywhere_limit : corrections_or_zero g r ≡ values c → CorrectionWithin c
  unfolding corrections_or_zero
  anywhere_limit e = by (inside g.corrections r) refl
    where
      by : (t : Bool) → inside g.corrections r ≡ t → CorrectionWithin c
      by true i = inside_within i (rw i at e)
      by false i =
          let k : no_correction ≡ c = cc (rw i at e) in
          subst CorrectionWithin k (record { latitude = omega arith; longitude = omega arith })

pub correction_within : (g : Grid) (r : Point) (c : Correction) → GeometryPasses g.corrections → values c ≡ corrections_or_zero g r
    → CorrectionWithin c
correction_within g r c o e = anywhere_limit g r c o (sym e)

-- ---- the way back, by the lookups as the code makes them
pub back_is : (g : Grid) (q : Point) (H : ℤ) → back (unbounded_source g) q H ≡
    and_then (corrections_or_zero g q) (λ c.
    and_then (height_on_or_none g.heights g.height q) (λ found.
    values (answer_at (plus q c) (λ z. H +ℤ z) 1 found)))
unfolding back
back_is g q H = rw (height_anywhere g q)

pub ruleset back_anywhere = (back_is, correction_within, found_anywhere)

-- ---- the way out of p from r on, after n evaluations of those that it makes at most
module _ (g : Grid) (p : Point) where
  abbrev pub from : ℕ → Point → Outcome Settled
  from n r = iterate (unbounded_source g) stop_distance p (most_evaluations - n) n r

  -- its next evaluation, by the corrections at r
  abbrev pub onward : (r : Point) (n : ℕ) → Correction → Outcome Settled
  onward r n c =
      let q = minus p c in
      cond (settled stop_distance q r) (values (record { point = q; count = n + 1 })) (from (n + 1) q)

  pub one_evaluation : (r : Point) (n : ℕ) → n < most_evaluations → from n r ≡ and_then (corrections_or_zero g r) (onward r n)
  unfolding iterate
  one_evaluation r n m =
      let left : most_evaluations - n ≡ suc (most_evaluations - (n + 1)) = omega arith in
      rw left

  -- With all made, 11.
  pub spent : (r : Point) (n : ℕ) → n ≡ most_evaluations → from n r ≡ number 11
  unfolding iterate
  spent r n e = rw e

-- ---- outside the bounds the corrections are zero, and the way out stops at once
module _ (g : Grid) (p : Point) (o : inside g.corrections p ≡ false) where
  no_correction_lem : corrections_or_zero g p ≡ values no_correction
  unfolding corrections_or_zero
  no_correction_lem = rw o

  not_moved : minus p no_correction ≡ p
  unfolding minus
  not_moved =
      let latitude : p.latitude -ℤ pos 0 ≡ p.latitude = omega (arith, order, var p.latitude ⊖ lit 0) in
      let longitude : p.longitude -ℤ pos 0 ≡ p.longitude = omega (arith, order, var p.longitude ⊖ lit 0) in
      λ i. record { latitude = latitude i; longitude = longitude i }

  stays : settled stop_distance p p ≡ true
  unfolding settled
  stays =
      let same : (z : ℤ) → nat_abs (z -ℤ z) ≤ stop_distance = λ z. omega (arith, abs_is (var z ⊖ var z)) in
      and_both (le-leb _ _ (same p.latitude)) (le-leb _ _ (same p.longitude))

  settles_at_once : from g p 0 p ≡ values (record { point = p; count = 1 })
  settles_at_once =
      one_evaluation g p p 0 (omega arith)
      ∙ ap (λ (o : Outcome Correction). and_then o (onward g p p 0)) no_correction_lem
      ∙ (λ i. cond (settled stop_distance (not_moved i) p) (values (record { point = not_moved i; count = 1 })) (from g p 1 (not_moved i)))
      ∙ (λ i. cond (stays i) (values (record { point = p; count = 1 })) (from g p 1 p))

  pub answered_outside : (w : Way) (h : ℤ) → way_of w (unbounded_source g) p h ≡
      and_then (height_on_or_none g.heights g.height p) (λ found. values (outside w p h found))
  unfolding out back
  answered_outside way.Out h = rw (settles_at_once, height_anywhere g p)
  answered_outside way.Back h = rw (no_correction_lem, height_anywhere g p)

pub ruleset outside_anywhere = (answered_outside, found_anywhere)
