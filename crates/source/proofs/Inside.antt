-- Kind 2 in its bounds: where the way of an image with bounds leaves neither them nor the height grid, kind 2's answer is the same.
use mathlib.Core.Bool.{Bool, true, false, false≢true}
use mathlib.Core.Path.{◌≡◌, refl, sym, ap, subst, ◌∙◌}
use Prim.Native.Nat.{ℕ, zero, suc, ◌+◌}
use lib.IntN.{ℤ, ◌+ℤ◌, ◌-ℤ◌}
use Rattle.rules.specs.declared.Point.{Point}
use Rattle.rules.specs.declared.Correction.{Correction}
use Rattle.rules.specs.declared.Way.{Way}
use Rattle.rules.specs.declared.Way.TheVariants as way
use Rattle.rules.specs.Units.{stop_distance, most_evaluations}
use Rattle.rules.specs.Answers.{Outcome, values, number, and_then}
use Rattle.rules.specs.Image.{Grid}
use Rattle.rules.specs.Lookup.{Height, inside, corrections_or_zero, height_grid_lookup, height_or_none}
use Rattle.rules.specs.Ways.{Source, Accepted, answer_at, Settled, question7, plus, minus, settled, iterate, back, out}
use Rattle.rules.specs.Ways.{height_limit, way_of, convert_over, bounded_source, unbounded_source}
use Rattle.source.specs.Asked.{past_edge}

module _ (g : Grid) (apart : g.separate ≡ true) (alone : g.nested ≡ false) where
  abbrev bounded : Source
  bounded = bounded_source g

  abbrev unbounded : Source
  unbounded = unbounded_source g

  -- The lookups: of corrections in the bounds, of a height on the height grid.
  same_corrections : (r : Point) → inside g.corrections r ≡ true → unbounded.corrections r ≡ bounded.corrections r
  unfolding corrections_or_zero
  same_corrections r i = rw (i, apart, alone)

  same_height : (q : Point) → past_edge (bounded.height q) ≡ false → unbounded.height q ≡ bounded.height q
  unfolding height_or_none height_grid_lookup
  same_height q h = by (inside g.heights q) refl
    where
      by : (t : Bool) → inside g.heights q ≡ t → unbounded.height q ≡ bounded.height q
      by true i = rw (i, apart)
      by false i = absurd (false≢true (sym (rw (apart, i) at h)))

  -- The iteration.
  same_iteration : (p : Point) (left n : ℕ) (r : Point) → inside g.corrections r ≡ true
      → past_edge (iterate bounded stop_distance p left n r) ≡ false
      → iterate unbounded stop_distance p left n r ≡ iterate bounded stop_distance p left n r
  unfolding iterate
  same_iteration p zero n r i h = refl
  same_iteration p (suc left) n r i h =
      by (bounded.corrections r) refl (λ q j k. same_iteration p left (n + 1) q j k)
    where
      More : Type 0
      More = (q : Point) → inside g.corrections q ≡ true → past_edge (iterate bounded stop_distance p left (n + 1) q) ≡ false
          → iterate unbounded stop_distance p left (n + 1) q ≡ iterate bounded stop_distance p left (n + 1) q

      Same : Type 0
      Same = iterate unbounded stop_distance p (suc left) n r ≡ iterate bounded stop_distance p (suc left) n r

      on : More → (c : Correction) → bounded.corrections r ≡ values c → (s t : Bool) → inside g.corrections (minus p c) ≡ s
          → settled stop_distance (minus p c) r ≡ t → Same
      on more c e false t j k = absurd (false≢true (sym (rw (e, j) at h)))
      on more c e true true j k = rw (same_corrections r i, e, j, k)
      on more c e true false j k = rw (same_corrections r i, e, j, k) (more (minus p c) j (rw (e, j, k) at h))

      by : (o : Outcome Correction) → bounded.corrections r ≡ o → More → Same
      by (values c) e more = on more c e (inside g.corrections (minus p c)) (settled stop_distance (minus p c) r) refl refl
      by (number m) e more = rw (same_corrections r i, e)

  -- The answer by the height looked up at q.
  module _ (q p : Point) (makes : ℤ → ℤ) (n : ℕ) where
    abbrev answer : Source → Outcome Accepted
    answer s = and_then (s.height q) (λ found. values (answer_at p makes n found))

    same_answer : past_edge (answer bounded) ≡ false → answer unbounded ≡ answer bounded
    same_answer h = by (bounded.height q) refl
      where
        by : (o : Outcome Height) → bounded.height q ≡ o → answer unbounded ≡ answer bounded
        by (values z) e = rw (same_height q (rw e refl))
        by (number m) e = rw (same_height q (rw e (rw e at h)))

  -- Without a dense grid the stop distance is 1 nd.
  stop_is : bounded.stop ≡ stop_distance
  stop_is = rw alone

  -- The way out from a point in the bounds, with a stop distance.
  module _ (p : Point) (h : ℤ) where
    abbrev ended : Source → ℕ → Outcome Accepted
    ended s stop =
        and_then (iterate s stop p most_evaluations 0 p) (λ e. answer e.point e.point (λ z. h -ℤ z) e.count s)

    same_end : inside g.corrections p ≡ true → past_edge (ended bounded stop_distance) ≡ false
        → ended unbounded stop_distance ≡ ended bounded stop_distance
    same_end i m = by (iterate bounded stop_distance p most_evaluations 0 p) refl
      where
        by : (o : Outcome Settled) → iterate bounded stop_distance p most_evaluations 0 p ≡ o
            → ended unbounded stop_distance ≡ ended bounded stop_distance
        by (values e) f =
            let same = same_iteration p most_evaluations 0 p i (rw f refl) in
            rw (same, f) (same_answer e.point e.point (λ z. h -ℤ z) e.count (rw f at m))
        by (number n) f = rw (same_iteration p most_evaluations 0 p i (rw f (rw f at m)), f)

  -- Each way from a point in the bounds.
  same_way : (w : Way) (p : Point) (h : ℤ) → inside g.corrections p ≡ true → past_edge (way_of w bounded p h) ≡ false
      → way_of w unbounded p h ≡ way_of w bounded p h
  unfolding out back
  same_way way.Out p h i k =
      let kept = subst (λ (stop : ℕ). past_edge (ended p h bounded stop) ≡ false) stop_is k in
      same_end p h i kept ∙ ap (ended p h bounded) (sym stop_is)
  same_way way.Back q H i k = by (bounded.corrections q) refl
    where
      by : (o : Outcome Correction) → bounded.corrections q ≡ o → way_of way.Back unbounded q H ≡ way_of way.Back bounded q H
      by (values c) e = rw (same_corrections q i, e) (same_answer q (plus q c) (λ z. H +ℤ z) 1 (rw e at k))
      by (number n) e = rw (same_corrections q i, e)

  -- So the whole conversion is the same.
  pub same_conversion : (w : Way) (p : Point) (h : ℤ) → past_edge (convert_over w bounded p h) ≡ false
      → convert_over w unbounded p h ≡ convert_over w bounded p h
  unfolding convert_over
  same_conversion w p h k = by (question7 (height_limit w) p h) (inside g.corrections p) refl refl
    where
      by : (s t : Bool) → question7 (height_limit w) p h ≡ s → inside g.corrections p ≡ t
          → convert_over w unbounded p h ≡ convert_over w bounded p h
      by false t e i = rw e
      by true false e i = absurd (false≢true (sym (rw (e, i) at k)))
      by true true e i = rw (e, i) (same_way w p h i (rw (e, i) at k))

  -- A conversion that ended past the edge has put question 7.
  pub past_limits : (w : Way) (p : Point) (h : ℤ) → past_edge (convert_over w bounded p h) ≡ true → question7 (height_limit w) p h ≡ true
  unfolding convert_over
  past_limits w p h k = by (question7 (height_limit w) p h) refl
    where
      by : (s : Bool) → question7 (height_limit w) p h ≡ s → question7 (height_limit w) p h ≡ true
      by true e = e
      by false e = absurd (false≢true (rw e at k))
