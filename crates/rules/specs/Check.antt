-- Document 01, "Grid check": question 9 over all nodes, the largest steps between neighbours, question 12; and of document 02 note 5: both
-- of them with a dense grid, and question 21; and note 6: question 22.
use Rattle.std.specs.Prelude.{Bool, true, cond, ◌&&◌, List, [], ◌∷◌, ℕ, zero, suc, ◌+◌, ◌-◌, ◌*◌, max, leb, ℤ, pos, nat_abs, ◌-ℤ◌, ◌*ℤ◌}
use Rattle.rules.specs.declared.Geometry.{Geometry}
use Rattle.rules.specs.declared.Steps.{Steps}
use Rattle.rules.specs.declared.Findings.{Findings}
use Rattle.rules.specs.Units.{within, correction_limit, quasi_geoid_limit}
use Rattle.rules.specs.Answers.{Outcome, values, number, ask, and_then}
use Rattle.rules.specs.Image.{Grid, grid_of, rows, columns}
use Rattle.rules.specs.Bilinear.{exact_sum, area}
use Rattle.rules.specs.Dense.{node_point}
use Rattle.rules.specs.Questions.{opening}

-- Whether t holds of 0, 1, … n − 1.
unfoldable pub every : ℕ → (ℕ → Bool) → Bool
every zero t = true
every (suc n) t = every n t && t n

-- The largest of f 0, f 1, … f (n − 1); 0 where n is 0.
unfoldable pub largest : ℕ → (ℕ → ℕ) → ℕ
largest zero f = 0
largest (suc n) f = max (largest n f) (f n)

-- Question 9 of one value over all nodes.
unfoldable pub all_within : (limit : ℕ) → Geometry → (ℕ → ℕ → ℤ) → Bool
all_within limit g f = every (rows g) (λ row. every (columns g) (λ column. within limit (f row column)))

-- The same of the three values, each with its limit.
unfoldable pub all_pass : Grid → Bool
all_pass g =
    all_within correction_limit g.corrections g.latitude
    && (all_within correction_limit g.corrections g.longitude
    && all_within quasi_geoid_limit g.heights g.height)

-- The largest absolute step between neighbours: A in latitude, B in longitude.
unfoldable pub step_north : Geometry → (ℕ → ℕ → ℤ) → ℕ
step_north g f = largest (rows g - 1) (λ row. largest (columns g) (λ column. nat_abs (f (row + 1) column -ℤ f row column)))

unfoldable pub step_east : Geometry → (ℕ → ℕ → ℤ) → ℕ
step_east g f = largest (rows g) (λ row. largest (columns g - 1) (λ column. nat_abs (f row (column + 1) -ℤ f row column)))

-- Both, of one value.
unfoldable pub steps_of : Geometry → (ℕ → ℕ → ℤ) → Steps
steps_of g f = record { northward = step_north g f; eastward = step_east g f }

-- 12. Is 100 × (A × Q + B × P) at most P × Q?
unfoldable pub slope_passes : Geometry → Steps → Bool
slope_passes g s =
    let P = g.latitude.spacing in
    let Q = g.longitude.spacing in
    leb (100 * (s.northward * Q + s.eastward * P)) (P * Q)

-- The same for each of the three values, with the spacings of its geometry.
unfoldable pub question12 : Grid → Findings → Bool
question12 g f =
    slope_passes g.corrections f.latitude
    && (slope_passes g.corrections f.longitude
    && slope_passes g.heights f.height)

-- A and B for latitude correction, longitude correction and height.
unfoldable pub findings_of : Grid → Findings
findings_of g =
    record {
      latitude = steps_of g.corrections g.latitude;
      longitude = steps_of g.corrections g.longitude;
      height = steps_of g.heights g.height;
    }

-- With a dense grid, question 9 of its nodes,
unfoldable pub dense_passes : Grid → Bool
dense_passes g = all_within correction_limit g.dense g.dense_latitude && all_within correction_limit g.dense g.dense_longitude

-- question 12 of its two corrections, with its spacings,
unfoldable pub dense_slopes_pass : Grid → Bool
dense_slopes_pass g =
    slope_passes g.dense (steps_of g.dense g.dense_latitude) && slope_passes g.dense (steps_of g.dense g.dense_longitude)

-- and 21: does each correction of each node on its border differ by at most 1 nd from the parent's exact value there? Both are taken times
-- P × Q of the parent, so nothing is rounded; e are the parent's values, f the dense ones.
unfoldable pub agrees : (coarse dense : Geometry) → (e f : ℕ → ℕ → ℤ) → (row column : ℕ) → Bool
agrees c d e f row column = leb (nat_abs (f row column *ℤ pos (area c) -ℤ exact_sum c e (node_point d row column))) (area c)

-- The border is the first and the last row, and the first and the last column; the corner nodes are in both.
unfoldable pub rows_agree : (coarse dense : Geometry) → (e f : ℕ → ℕ → ℤ) → Bool
rows_agree c d e f = every (columns d) (λ column. agrees c d e f 0 column && agrees c d e f (rows d - 1) column)

unfoldable pub columns_agree : (coarse dense : Geometry) → (e f : ℕ → ℕ → ℤ) → Bool
columns_agree c d e f = every (rows d) (λ row. agrees c d e f row 0 && agrees c d e f row (columns d - 1))

unfoldable pub border_agrees : (coarse dense : Geometry) → (e f : ℕ → ℕ → ℤ) → Bool
border_agrees c d e f = rows_agree c d e f && columns_agree c d e f

unfoldable pub question21 : Grid → Bool
question21 g =
    border_agrees g.corrections g.dense g.latitude g.dense_latitude
    && border_agrees g.corrections g.dense g.longitude g.dense_longitude

-- 22. Is each correction of each node on the border zero? Kind 2 takes them as zero outside. Of one value: n nodes on two opposite sides
-- are zero, and so are all on the four sides, the corner nodes among them twice.
unfoldable pub both_zero : (n : ℕ) → (side opposite : ℕ → ℤ) → Bool
both_zero n f h = every n (λ i. within 0 (f i) && within 0 (h i))

unfoldable pub border_zero : Geometry → (ℕ → ℕ → ℤ) → Bool
border_zero g f =
    both_zero (columns g) (λ column. f 0 column) (λ column. f (rows g - 1) column)
    && both_zero (rows g) (λ row. f row 0) (λ row. f row (columns g - 1))

unfoldable pub question22 : Grid → Bool
question22 g = border_zero g.corrections g.latitude && border_zero g.corrections g.longitude

-- A question that is put only where there is a dense grid, and one that is put only to kind 2.
abbrev pub where_nested : Grid → Bool → Bool
where_nested g answer = cond g.nested answer true

abbrev pub where_unbounded : Grid → Bool → Bool
where_unbounded g answer = cond g.unbounded answer true

-- The check of a grid: question 9, 22 and question 12, 9 and 12 each with the dense grid last, 21, then the findings, which are the coarse
-- grid's.
unfoldable pub check : Grid → Outcome Findings
check g =
    ask (all_pass g) 9
    (ask (where_nested g (dense_passes g)) 9
    (ask (where_unbounded g (question22 g)) 22
    (ask (question12 g (findings_of g)) 12
    (ask (where_nested g (dense_slopes_pass g)) 12
    (ask (where_nested g (question21 g)) 21
    (values (findings_of g)))))))

-- The grid check of an image: questions 1 to 6 first.
unfoldable pub grid_check : List ℕ → Outcome Findings
grid_check b = and_then (opening b) (λ l. check (grid_of b l))

-- What the grid check over C leaves in its lent array: A and B of latitude correction, longitude correction and height, or with a number
-- what was there before.
abbrev pub findings_after : Outcome Findings → List ℤ → List ℤ
findings_after (values f) before =
    pos f.latitude.northward ∷ pos f.latitude.eastward
    ∷ pos f.longitude.northward ∷ pos f.longitude.eastward
    ∷ pos f.height.northward ∷ pos f.height.eastward ∷ []
findings_after (number n) before = before
