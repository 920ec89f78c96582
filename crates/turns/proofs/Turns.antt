-- An evaluation's turn is one step of document 01's iteration, and leads inside the bounds.
use mathlib.Core.Bool.{Bool, true, false, cond}
use mathlib.Core.List.{List}
use mathlib.Core.Path.{◌≡◌, refl}
use Prim.Native.Nat.{ℕ, suc, ◌+◌, ◌-◌, ◌<◌}
use native.Mathlib.Omega.{arith}
use Rattle.rules.specs.declared.Geometry.{Geometry}
use Rattle.rules.specs.declared.Layout.{Layout}
use Rattle.rules.specs.declared.Point.{Point}
use Rattle.rules.specs.Units.{most_evaluations}
use Rattle.rules.specs.Answers.{Outcome, values, number, ask, and_then}
use Rattle.rules.specs.Image.{grid_of}
use Rattle.rules.specs.Limits.{OpenAround}
use Rattle.rules.specs.Lookup.{inside, grid_for}
use Rattle.rules.specs.Ways.{Source, Settled, settled, minus, iterate, bounded_source}
use Rattle.lookup.specs.declared.HeldCell.{HeldCell}
use Rattle.lookup.specs.Held.{corrections_in, held_at}
use Rattle.rules.proofs.Answers.{asked_then}
use Rattle.lookup.proofs.Found.{corrections_from_lem}
use Rattle.turns.specs.declared.Turn.{Turn}
use Rattle.turns.specs.declared.Turn.TheVariants as turn
use Rattle.turns.specs.Turn.{turn_of, evaluation_of}

-- The way out from a turn on, after n evaluations before it.
abbrev pub onward : ℕ → (Point → Outcome Settled) → Turn → Outcome Settled
onward n more (turn.Settled q) = values (record { point = q; count = n + 1 })
onward n more (turn.Next q) = more q

-- The point that a turn leads to is in the bounds.
abbrev pub LeadsInside : Geometry → Outcome Turn → Type 0
LeadsInside g (values (turn.Settled q)) = inside g q ≡ true
LeadsInside g (values (turn.Next q)) = inside g q ≡ true
LeadsInside g (number n) = Unit {0}

-- A turn by the answers to question 9, question 10 and the stop rule.
abbrev answered : (nine ten stop : Bool) → Point → Outcome Turn
answered nine ten stop q = ask nine 9 (ask ten 10 (values (cond stop (turn.Settled q) (turn.Next q))))

-- The iteration's step by the same answers is the way on from that turn, which leads inside.
by_answers : (g : Geometry) (nine ten stop : Bool) (q : Point) (n : ℕ) (more : Point → Outcome Settled)
    → inside g q ≡ ten
    → let t = answered nine ten stop q in
    (ask nine 9 (ask ten 10 (cond stop (values (record { point = q; count = n + 1 })) (more q))) ≡ and_then t (onward n more))
    × LeadsInside g t
by_answers g false ten stop q n more e = (refl, tt)
by_answers g true false stop q n more e = (refl, tt)
by_answers g true true true q n more e = (refl, e)
by_answers g true true false q n more e = (refl, e)

-- With n evaluations made of those that the way out makes at most, the next one, in the cell around r.
module _ (b : List ℕ) (l : Layout) (p : Point) where
  abbrev source : Source
  source = bounded_source (grid_of b l)

  abbrev bounds : Geometry
  bounds = l.latitude.geometry

  -- the iteration from r on, after n evaluations
  abbrev pub from : ℕ → Point → Outcome Settled
  from n r = iterate source source.stop p (most_evaluations - n) n r

  pub one_turn : (r : Point) (h : HeldCell) (t : Outcome Turn) (n : ℕ) → OpenAround b l r
      → h ≡ held_at bounds (grid_for (grid_of b l) r) r → t ≡ evaluation_of h bounds source.stop p r → n < most_evaluations
      → (from n r ≡ and_then t (onward n (from (n + 1)))) × LeadsInside bounds t
  unfolding iterate evaluation_of turn_of
  one_turn r h t n o e v m =
      let k : most_evaluations - n ≡ suc (most_evaluations - (n + 1)) = omega arith in
      let q = minus p (corrections_in h bounds r) in
      rw (v, k, corrections_from_lem b l r h o e, asked_then)
      (by_answers bounds h.passes (inside bounds q) (settled source.stop q r) q n (from (n + 1)) refl)

  -- With all made, 11.
  pub spent : (r : Point) (n : ℕ) → n ≡ most_evaluations → from n r ≡ number 11
  unfolding iterate
  spent r n e = rw e
