-- Document 01, "Way back and way out", with questions 7 to 11 in their order, and 15 of document 02's note 1 where the height is looked up:
-- after 11 going out, after 9 going back; with a dense grid note 5's lookup and stop distance; and note 6's answers at any point.
use Rattle.std.specs.Prelude.{Bool, true, cond, ◌&&◌, List, Some, None, Result, ℕ, zero, suc, ◌+◌, ℤ, pos, ◌+ℤ◌, ◌-ℤ◌}
use Rattle.rules.specs.declared.Point.{Point}
use Rattle.rules.specs.declared.Correction.{Correction}
use Rattle.rules.specs.declared.Position.{Position}
use Rattle.rules.specs.declared.Way.{Way}
use Rattle.rules.specs.declared.Way.TheVariants as way
use Rattle.rules.specs.declared.Converted.{Converted}
use Rattle.rules.specs.declared.Converted.TheVariants as converted
use Rattle.rules.specs.declared.Refusal.{Refusal}
use Rattle.rules.specs.Units.{within, latitude_limit, longitude_limit, out_height_limit, back_height_limit}
use Rattle.rules.specs.Units.{stop_distance, dense_stop_distance, most_evaluations, no_height_number}
use Rattle.rules.specs.Answers.{Outcome, values, number, ask, and_then, outcome_of, mapped}
use Rattle.rules.specs.Image.{Grid, grid_of}
use Rattle.rules.specs.Questions.{opening}
use Rattle.rules.specs.Lookup.{Height, inside, correction_lookup, height_lookup, correction_grid_lookup, height_grid_lookup}
use Rattle.rules.specs.Lookup.{grid_for, corrections_or_zero, height_or_none}

-- What a way asks of a grid: the stop rule's distance, whether a point is in the bounds, and there its corrections and its quasi-geoid
-- height or that it has none, or a number.
pub record Source : Type 0 where
  pub stop : ℕ
  pub inside : Point → Bool
  pub corrections : Point → Outcome Correction
  pub height : Point → Outcome Height

-- 7. Are latitude and longitude within 90 and 180 degrees of zero, and the height within the way's limit?
unfoldable pub question7 : ℕ → Point → ℤ → Bool
question7 limit p h = within latitude_limit p.latitude && (within longitude_limit p.longitude && within limit h)

-- A point plus, and a point minus, corrections.
unfoldable pub plus : Point → Correction → Point
plus q c = record { latitude = q.latitude +ℤ c.latitude; longitude = q.longitude +ℤ c.longitude }

unfoldable pub minus : Point → Correction → Point
minus p c = record { latitude = p.latitude -ℤ c.latitude; longitude = p.longitude -ℤ c.longitude }

-- A position from its point, height and count.
abbrev pub position : Point → ℤ → ℕ → Position
position p h n = record { latitude = p.latitude; longitude = p.longitude; height = h; count = n }

-- What an accepted fix is answered with: a position and its number, which is 0; or 100 where there is no height, for which 0 stands.
pub record Accepted : Type 0 where
  pub position : Position
  pub number : ℕ

-- With a height, and without one,
abbrev pub with_height : Position → Accepted
with_height a = record { position = a; number = 0 }

abbrev pub without_height : Position → Accepted
without_height a = record { position = a; number = no_height_number }

-- and the same from their parts.
abbrev pub measured : Point → ℤ → ℕ → Accepted
measured p h n = with_height (position p h n)

abbrev pub unmeasured : Point → ℕ → Accepted
unmeasured p n = without_height (position p (pos 0) n)

-- The answer at a point, with the count n: where a quasi-geoid height is found, with the height that the way makes of it.
abbrev pub answer_at : Point → (makes : ℤ → ℤ) → (n : ℕ) → Height → Accepted
answer_at p makes n (Some z) = measured p (makes z) n
answer_at p makes n None = unmeasured p n

-- Back, from a Bessel point q in the bounds and NAP height H: q plus the corrections at q, H plus the quasi-geoid height at q, count 1.
unfoldable pub back : Source → Point → ℤ → Outcome Accepted
back s q H =
    and_then (s.corrections q) (λ c.
    and_then (s.height q) (λ found.
    values (answer_at (plus q c) (λ z. H +ℤ z) 1 found)))

-- The stop rule: the latitudes of p and q, and their longitudes, each differ by at most `stop` nd.
unfoldable pub settled : ℕ → Point → Point → Bool
settled stop p q = within stop (p.latitude -ℤ q.latitude) && within stop (p.longitude -ℤ q.longitude)

-- The pn that the way out answers with, and its n.
pub record Settled : Type 0 where
  pub point : Point
  pub count : ℕ

-- The way out from pn = r on, with `left` evaluations left: p(n+1) is p minus the corrections at r. Question 9 is put to r's cell,
-- then 10 to p(n+1), then the stop rule; 11 where no evaluation is left.
unfoldable pub iterate : Source → (stop : ℕ) (p : Point) (left n : ℕ) (r : Point) → Outcome Settled
iterate s stop p zero n r = number 11
iterate s stop p (suc left) n r =
    and_then (s.corrections r) (λ c.
    ask (s.inside (minus p c)) 10
    (cond (settled stop (minus p c) r)
    (values (record { point = minus p c; count = n + 1 }))
    (iterate s stop p left (n + 1) (minus p c))))

-- Out, from an ETRS89 point p in the bounds and height h: the first pn that the stop rule takes, h minus the quasi-geoid height at pn,
-- and n, which does not count the height lookup.
unfoldable pub out : Source → Point → ℤ → Outcome Accepted
out s p h =
    and_then (iterate s s.stop p most_evaluations 0 p) (λ e.
    and_then (s.height e.point) (λ found.
    values (answer_at e.point (λ z. h -ℤ z) e.count found)))

-- Each way's limit on heights, and what it makes of a point in the bounds.
abbrev pub height_limit : Way → ℕ
height_limit way.Out = out_height_limit
height_limit way.Back = back_height_limit

abbrev pub way_of : Way → Source → Point → ℤ → Outcome Accepted
way_of way.Out = out
way_of way.Back = back

-- A conversion: questions 7 and 8, then the way.
unfoldable pub convert_over : Way → Source → Point → ℤ → Outcome Accepted
convert_over w s p h = ask (question7 (height_limit w) p h) 7 (ask (s.inside p) 8 (way_of w s p h))

-- The answers of edition 1 and of kinds 0 and 1: the bounds of questions 8 and 10 are those of the corrections; the lookups are edition 2's
-- where the heights stand on a separate grid, else edition 1's. Where a dense grid is nested, the stop rule uses its distance, and the
-- lookup of corrections its nodes in its bounds.
abbrev pub bounded_source : Grid → Source
bounded_source g =
    record {
      stop = cond g.nested dense_stop_distance stop_distance;
      inside = inside g.corrections;
      corrections = λ p. cond g.separate (correction_grid_lookup (grid_for g p) p) (correction_lookup g p);
      height = λ q. cond g.separate (height_grid_lookup g q) (height_lookup g q);
    }

-- Those of kind 2: 8, 10 and 15 are not put, so every point counts as in the bounds.
abbrev pub unbounded_source : Grid → Source
unbounded_source g =
    record {
      stop = stop_distance;
      inside = λ p. true;
      corrections = corrections_or_zero g;
      height = height_or_none g;
    }

-- A grid's answers.
abbrev pub source_of : Grid → Source
source_of g = cond g.unbounded (unbounded_source g) (bounded_source g)

-- A conversion over an image: questions 1 to 6 first.
unfoldable pub convert : Way → List ℕ → Point → ℤ → Outcome Accepted
convert w b p h = and_then (opening b) (λ l. convert_over w (source_of (grid_of b l)) p h)

abbrev pub way_out : List ℕ → Point → ℤ → Outcome Accepted
way_out = convert way.Out

abbrev pub way_back : List ℕ → Point → ℤ → Outcome Accepted
way_back = convert way.Back

-- The code's answer, in these terms.
abbrev pub accepted_of : Converted → Accepted
accepted_of (converted.WithHeight a) = with_height a
accepted_of (converted.WithoutHeight a) = without_height a

abbrev pub answer_of : Result Converted Refusal → Outcome Accepted
answer_of r = mapped accepted_of (outcome_of r)
