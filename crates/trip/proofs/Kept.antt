-- A trip that equals its rule keeps the return promise: the rule's values are the promise's.
use mathlib.Core.List.{List}
use mathlib.Core.Path.{◌≡◌, subst, ◌∙◌}
use Prim.Native.Nat.{ℕ}
use native.Mathlib.Omega.{arith}
use lib.IntN.{ℤ}
use Rattle.rules.specs.declared.Layout.{Layout}
use Rattle.rules.specs.declared.Findings.{Findings}
use Rattle.rules.specs.declared.Point.{Point}
use Rattle.rules.specs.declared.Trip.{Trip}
use Rattle.rules.specs.declared.Refusal.{Refusal}
use Rattle.rules.specs.declared.Returned.{Returned}
use Rattle.rules.specs.declared.Returned.TheVariants as returned
use Rattle.std.specs.Prelude.{Result, Ok, Err}
use Rattle.rules.specs.Answers.{values}
use Rattle.rules.specs.Questions.{opening}
use Rattle.rules.specs.Check.{grid_check}
use Rattle.rules.specs.Ways.{Accepted, way_out, way_back}
use Rattle.rules.specs.Promise.{point_of, Returns, OutAndBack, ReturnsAnywhere, OutAndBackAnywhere, ReturnPromise}
use Rattle.rules.specs.Trip.{BothWays, trip, out_then_back, taken_back, trip_of, Keeps, KeepsWhere, KeepsAnywhere, KeepsUnbounded}
use Rattle.returning.proofs.Return.{promise}

-- The promise of the image. It has one layout.
promised : (b : List ℕ) (l : Layout) (f : Findings) → opening b ≡ values l → grid_check b ≡ values f → ReturnPromise b l
promised b l f opens passes =
    let k = promise b f passes in
    let e : k.0 ≡ l = cc (k.1, opens) in
    subst (λ (l : Layout). ReturnPromise b l) e k.2

-- The trip has the values of both ways.
trip_values : (b : List ℕ) (p : Point) (h : ℤ) {f : Findings} {outward returned : Accepted} → grid_check b ≡ values f
    → way_out b p h ≡ values outward → way_back b (point_of outward.position) outward.position.height ≡ values returned
    → trip b p h ≡ values (record { outward = outward; returned = returned })
unfolding trip out_then_back taken_back
trip_values b p h passes out back = rw (passes, out, back)

-- Both ways by their numbers: with heights, or without.
abbrev both : (number : ℕ) → Trip → BothWays
both n t = record { outward = record { position = t.outward; number = n }; returned = record { position = t.returned; number = n } }

-- Inside the margins: with heights, as promised.
keeps : {b : List ℕ} {l : Layout} {p : Point} {h : ℤ} (o : OutAndBack b l p h) (r : Result Returned Refusal)
    → trip_of r ≡ values (both 0 (record { outward = o.outward; returned = o.returned })) → Keeps b l p h r
keeps {b} {l} {p} {h} o (Ok (returned.WithHeights t)) e =
    let made : Trip = record { outward = o.outward; returned = o.returned } in
    let k : both 0 made ≡ both 0 t = cc e in
    let same : made ≡ t = λ i. record { outward = (k i).outward.position; returned = (k i).returned.position } in
    subst (λ (t : Trip). Returns b l p h t.outward t.returned) same o.returns
keeps o (Ok (returned.WithoutHeights t)) e =
    let k : both 0 (record { outward = o.outward; returned = o.returned }) ≡ both 100 t = cc e in
    let z : ◌≡◌ {A = ℕ} 0 100 = λ i. (k i).outward.number in
    omega arith
keeps o (Err r) e = let z : ◌≡◌ {A = ℕ} 0 1 = cc e in omega arith

pub kept : (b : List ℕ) (p : Point) (h : ℤ) (r : Result Returned Refusal) → trip_of r ≡ trip b p h → KeepsWhere b p h r
kept b p h r e l f opens passes margins limit =
    let o = (promised b l f opens passes).fixes p h margins limit in
    keeps o r (e ∙ trip_values b p h passes o.answered o.back_again)

-- Over kind 2, from anywhere.
returned_as : {b : List ℕ} (p : Point) (h : ℤ) (o : OutAndBackAnywhere b p h) (t : BothWays)
    → record { outward = o.outward; returned = o.returned } ≡ t → ReturnsAnywhere p h t.outward t.returned
returned_as p h o t k = subst (λ (t : BothWays). ReturnsAnywhere p h t.outward t.returned) k o.returns

keeps_anywhere : {b : List ℕ} {p : Point} {h : ℤ} (o : OutAndBackAnywhere b p h) (r : Result Returned Refusal)
    → trip_of r ≡ values (record { outward = o.outward; returned = o.returned }) → KeepsAnywhere p h r
keeps_anywhere {p} {h} o (Ok (returned.WithHeights t)) e = returned_as p h o (both 0 t) (cc e)
keeps_anywhere {p} {h} o (Ok (returned.WithoutHeights t)) e = returned_as p h o (both 100 t) (cc e)
keeps_anywhere o (Err r) e = let z : ◌≡◌ {A = ℕ} 0 1 = cc e in omega arith

pub kept_anywhere : (b : List ℕ) (p : Point) (h : ℤ) (r : Result Returned Refusal) → trip_of r ≡ trip b p h → KeepsUnbounded b p h r
kept_anywhere b p h r e l f opens unbounded passes limits =
    let o = (promised b l f opens passes).anywhere unbounded p h limits in
    keeps_anywhere o r (e ∙ trip_values b p h passes o.answered o.back_again)
