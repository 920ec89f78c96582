-- The way out's iteration over any source of corrections, with any stop distance. Every answer is p minus the corrections at a point within
-- the stop distance; where corrections are limited and change slowly, each step is shorter than the one before, and answers are near each
-- other. With `hundredth` (Interpolation.antt) as the allowed change, this is a contraction with a Lipschitz constant of 1/100.
use Rattle.std.specs.Prelude.{Bool, ◌≡◌, ℕ, zero, suc, ◌+◌, ◌≤◌, ◌<◌, max, nat_abs, ◌-ℤ◌}
use Rattle.std.proofs.Math.Bool.{true, false}
use Rattle.std.proofs.lemmas.Bool.{false≢true}
use Rattle.std.proofs.Math.Path.{refl}
use Rattle.std.proofs.Common.{sym, ◌∙◌}
use native.Mathlib.Omega.{arith}
use Rattle.integers.specs.Difference.{var, ◌⊕◌, ◌⊖◌}
use Rattle.integers.specs.Distance.{Near, size}
use Rattle.rules.specs.declared.Point.{Point}
use Rattle.rules.specs.declared.Correction.{Correction}
use Rattle.rules.specs.Answers.{values}
use Rattle.rules.specs.Ways.{Source, plus, minus, settled, Settled, iterate}
use Rattle.rules.proofs.Evaluations.{every_answer}
use Rattle.returning.specs.Points.{Close}
use Rattle.returning.proofs.Points.{close_within, within_close, settled_close, close_settled, close_self, close_mono}
use Rattle.returning.specs.Points.{Room}
use Rattle.returning.proofs.Points.{room_itself}
use Rattle.returning.specs.Iteration.{Answered, Solution, SteadyCorrections, Sum}

plus_sum : (q : Point) (c : Correction) → Sum q c (plus q c)
unfolding plus
plus_sum q c = omega (arith, var q.latitude ⊕ var c.latitude, var q.longitude ⊕ var c.longitude)

minus_sum : (p : Point) (c : Correction) → Sum (minus p c) c p
unfolding minus
minus_sum p c = omega (arith, var p.latitude ⊖ var c.latitude, var p.longitude ⊖ var c.longitude)

-- A point is a solution for what it goes back to.
pub itself : (s : Source) (q : Point) (c : Correction) → s.inside q ≡ true → s.corrections q ≡ values c → Solution s 0 (plus q c) q
itself s q c i h =
    record {
      in_bounds = i;
      from = q;
      from_in_bounds = i;
      near = close_self 0 q;
      correction = c;
      found = h;
      sum = plus_sum q c;
    }

-- Every answer of the way out is a solution, whatever the corrections.
pub sound : (s : Source) (stop : ℕ) (p : Point) (left n : ℕ) (r : Point) → s.inside r ≡ true → (e : Settled)
    → iterate s stop p left n r ≡ values e → Solution s stop p e.point
sound s stop p =
    every_answer s stop p (λ left n e. Solution s stop p e.point)
    (λ left n r c i f j t.
    record {
      in_bounds = j;
      from = r;
      from_in_bounds = i;
      near = settled_close stop (minus p c) r t;
      correction = c;
      found = f;
      sum = minus_sum p c;
    })
    (λ left n e v. v)

module _ {s : Source} {at : Point → Correction} {allowed : ℕ → ℕ} {M : ℕ} (S : SteadyCorrections s at allowed M) where
  -- A correction moves a point by at most M.
  moved : {p q r : Point} → s.inside r ≡ true → Sum q (at r) p → Close M q p
  moved {r} i h = omega (arith, size (at r).latitude, size (at r).longitude, S.latitude.limit r i, S.longitude.limit r i)

  -- The corrections of points D apart.
  record Alike (D : ℕ) (q r : Point) : Type 0 where
    latitude : Near (allowed D) (at q).latitude (at r).latitude
    longitude : Near (allowed D) (at q).longitude (at r).longitude

  alike : {D : ℕ} {q r : Point} → s.inside q ≡ true → s.inside r ≡ true → Close D q r → Alike D q r
  alike {D} {q} {r} i j h = record { latitude = S.latitude.change q r D i j h; longitude = S.longitude.change q r D i j h }

  -- A solution's correction is the one at the point that it comes from.
  pub solved : {stop : ℕ} {p q : Point} (v : Solution s stop p q) → Sum q (at v.from) p
  solved v = let e : v.correction ≡ at v.from = cc (v.found, S.answered v.from v.from_in_bounds) in rw e at v.sum

  -- A solution lies within M of the given point, and a point goes back to within M of itself.
  pub solution_near : {stop : ℕ} {p q : Point} → Solution s stop p q → Close M q p
  solution_near v = moved v.from_in_bounds (solved v)

  pub back_near : (q : Point) → s.inside q ≡ true → Close M (plus q (at q)) q
  back_near q i = omega (arith, moved i (plus_sum q (at q)))

  -- A solution goes back to within `allowed stop` of the given point.
  pub back_within : {stop : ℕ} {p q : Point} → Solution s stop p q → Close (allowed stop) (plus q (at q)) p
  back_within {q} v = omega (arith, solved v, plus_sum q (at q), alike v.in_bounds v.from_in_bounds v.near)

  -- Given points e apart have solutions E apart, where E bounds every distance D that the corrections allow.
  pub apart : {a b e E : ℕ} {p p' q q' : Point} → ((D : ℕ) → D ≤ e + allowed (a + D + b) → D ≤ E)
      → Solution s a p q → Solution s b p' q' → Close e p p' → Close E q q'
  apart {a} {b} {e} {q} {q'} solve v w h =
      let D = max (nat_abs (q.latitude -ℤ q'.latitude)) (nat_abs (q.longitude -ℤ q'.longitude)) in
      let f : Close D q q' = within_close record { latitude = omega arith; longitude = omega arith } in
      let g : Close (a + D + b) v.from w.from = omega (arith, f, v.near, w.near) in
      let k = alike v.from_in_bounds w.from_in_bounds g in
      let j : Close (e + allowed (a + D + b)) q q' = omega (arith, h, solved v, solved w) in
      let m = close_within j in
      close_mono (solve D (omega arith)) f

  -- Distances that end with the stop distance: corrections of points `reach (k + 1)` apart differ by at most `reach k`.
  module _ (stop : ℕ) (reach : ℕ → ℕ) (stops : reach 0 ≤ stop) (shrinks : (k : ℕ) → allowed (reach (suc k)) ≤ reach k)
      (p : Point) (room : Room s.inside M p)
    where
      -- The next point after r.
      abbrev next : Point → Point
      next r = minus p (at r)

      next_in_bounds : (r : Point) → s.inside r ≡ true → s.inside (next r) ≡ true
      next_in_bounds r i = room (next r) (moved i (minus_sum p (at r)))

      -- One evaluation: the way ends with it, or goes on.
      evaluated : (left n most : ℕ) (r : Point) → n < most → s.inside r ≡ true
          → (settled stop (next r) r ≡ false → Answered (iterate s stop p left (n + 1) (next r)) most)
          → Answered (iterate s stop p (suc left) n r) most
      unfolding iterate
      evaluated left n most r l i on = by (settled stop (next r) r) refl
        where
          by : (t : Bool) → settled stop (next r) r ≡ t → Answered (iterate s stop p (suc left) n r) most
          by true e =
              let end : Settled = record { point = next r; count = n + 1 } in
              record { end = end; is = rw (S.answered r i, next_in_bounds r i, e); at_most = omega arith }
          by false e =
              let a = on e in
              record { end = a.end; is = rw (S.answered r i, next_in_bounds r i, e) a.is; at_most = a.at_most }

      -- Where the next evaluation moves by at most `reach k`, at most k + 1 evaluations are left.
      remaining : (k left n most : ℕ) (r : Point) → k ≤ left → n + k < most → s.inside r ≡ true → Close (reach k) (next r) r
          → Answered (iterate s stop p (suc left) n r) most
      remaining zero left n most r h l i c =
          let t = close_settled stop (next r) r (close_mono stops c) in
          evaluated left n most r (omega arith) i (λ f. absurd (false≢true (sym f ∙ t)))
      remaining (suc k) zero n most r h l i c = absurd (omega arith)
      remaining (suc k) (suc left) n most r h l i c =
          let q = next r in
          let j = next_in_bounds r i in
          evaluated (suc left) n most r (omega arith) i (λ f.
          remaining k left (n + 1) most q (omega arith) (omega arith) j
          (close_mono (shrinks k) (omega (arith, minus_sum p (at q), minus_sum p (at r), alike j i c))))

      -- From the given point itself: at most k + 1 evaluations, where the corrections are at most `reach k`.
      pub settles : (k left : ℕ) → k ≤ left → M ≤ reach k → Answered (iterate s stop p (suc left) 0 p) (suc k)
      settles k left h l =
          let i = room_itself p room in
          remaining k left 0 (suc k) p h (omega arith) i (close_mono l (moved i (minus_sum p (at p))))
