-- Two grids of kinds 0 and 3 with the same nodes answer every point alike, and their checks give the same.
use Rattle.std.specs.Prelude.{Bool, Some, true, cond, ◌&&◌, ◌≡◌, ℕ, ◌+◌, ◌-◌, ℤ, nat_abs, ◌-ℤ◌}
use Rattle.std.proofs.Math.Path.{ap}
use Rattle.std.proofs.Common.{◌∙◌, arith}
use Rattle.rules.specs.declared.Geometry.{Geometry}
use Rattle.rules.specs.declared.Point.{Point}
use Rattle.rules.specs.Units.{within, correction_limit, quasi_geoid_limit, stop_distance}
use Rattle.rules.specs.Answers.{values, ask}
use Rattle.rules.specs.Image.{Grid, rows, columns}
use Rattle.rules.specs.Limits.{GeometryPasses}
use Rattle.rules.specs.Bilinear.{corners_for, part_for, bilinear, value_at}
use Rattle.rules.specs.Lookup.{inside, square_passes, corrections_pass, heights_pass, correction_grid_lookup, height_grid_lookup}
use Rattle.rules.specs.Ways.{source_of}
use Rattle.rules.specs.Check.{all_within, all_pass, step_north, step_east, steps_of, slope_passes, question12, findings_of, check}
use Rattle.rules.specs.Check.{dense_passes, dense_slopes_pass, question21, question22}
use Rattle.rules.proofs.Cells.{at_corners}
use Rattle.rules.proofs.Largest.{every_same, largest_same}
use Rattle.layouts.specs.SameNodes.{OnTwoGrids, SameAtNodes, SameNodes, answers_on}

-- ---- one value over one geometry
difference_same : {x y u v : ℤ} → x ≡ u → y ≡ v → nat_abs (x -ℤ y) ≡ nat_abs (u -ℤ v)
difference_same a b = λ i. nat_abs (a i -ℤ b i)

module _ {g k : Geometry} (same : g ≡ k) (passes : GeometryPasses g) {f h : ℕ → ℕ → ℤ} (nodes : SameAtNodes g f h) where
  -- The corners of every point's cell, and the value at every point,
  corners_same : (p : Point) → corners_for g f p ≡ corners_for k h p
  corners_same p =
      let n = at_corners (λ row column. f row column ≡ h row column) passes nodes p in
      let corners : corners_for g f p ≡ corners_for g h p =
      λ i. record { southwest = n.southwest i; southeast = n.southeast i; northwest = n.northwest i; northeast = n.northeast i } in
      corners ∙ ap (λ (k : Geometry). corners_for k h p) same

  value_same : (p : Point) → value_at g f p ≡ value_at k h p
  unfolding value_at
  value_same p =
      λ i. bilinear (corners_same p i)
      (part_for (same i).latitude p.latitude) (part_for (same i).longitude p.longitude)
      (same i).latitude.spacing (same i).longitude.spacing

  -- question 9 of every node, and the largest steps.
  all_within_same : (limit : ℕ) → all_within limit g f ≡ all_within limit k h
  unfolding all_within
  all_within_same limit =
      rw (← same)
      (every_same (rows g) (λ row i. every_same (columns g) (λ column j. ap (within limit) (nodes row column i j))))

  steps_same : steps_of g f ≡ steps_of k h
  unfolding steps_of step_north step_east
  steps_same =
      let northward =
      largest_same (rows g - 1) (λ row i. largest_same (columns g) (λ column j.
      difference_same (nodes (row + 1) column (omega arith) j) (nodes row column (omega arith) j))) in
      let eastward =
      largest_same (rows g) (λ row i. largest_same (columns g - 1) (λ column j.
      difference_same (nodes row (column + 1) i (omega arith)) (nodes row column i (omega arith)))) in
      let steps : steps_of g f ≡ steps_of g h = λ i. record { northward = northward i; eastward = eastward i } in
      steps ∙ ap (λ (k : Geometry). steps_of k h) same

answers_on_lem : {g : Grid} → OnTwoGrids g → source_of g ≡ answers_on g
answers_on_lem o = rw (o.unbounded, o.nested, o.separate)

check_on : {g : Grid} → OnTwoGrids g → check g ≡ ask (all_pass g) 9 (ask (question12 g (findings_of g)) 12 (values (findings_of g)))
unfolding check
check_on {g} o =
    let not-put : (answer : Bool) → cond g.nested answer true ≡ true = λ answer i. cond (o.nested i) answer true in
    λ i. ask (all_pass g) 9
    (ask (not-put (dense_passes g) i) 9
    (ask (cond (o.unbounded i) (question22 g) true) 22
    (ask (question12 g (findings_of g)) 12
    (ask (not-put (dense_slopes_pass g) i) 12
    (ask (not-put (question21 g) i) 21
    (values (findings_of g)))))))

module _ {g k : Grid} (s : SameNodes g k) (c : GeometryPasses g.corrections) (h : GeometryPasses g.heights) where
  corrections_same : (p : Point) → correction_grid_lookup g p ≡ correction_grid_lookup k p
  unfolding correction_grid_lookup corrections_pass
  corrections_same p =
      let latitude = s.latitude in
      let longitude = s.longitude in
      let e = s.corrections in
      λ i. ask
      (square_passes correction_limit (corners_same e c latitude p i) && square_passes correction_limit (corners_same e c longitude p i)) 9
      (values (record { latitude = value_same e c latitude p i; longitude = value_same e c longitude p i }))

  heights_same : (q : Point) → height_grid_lookup g q ≡ height_grid_lookup k q
  unfolding height_grid_lookup heights_pass
  heights_same q =
      let e = s.heights in
      λ i. ask (inside (e i) q) 15
      (ask (square_passes quasi_geoid_limit (corners_same e h s.height q i)) 9 (values (Some (value_same e h s.height q i))))

  -- So they have the same answers,
  pub sources_same : source_of g ≡ source_of k
  sources_same =
      let same : answers_on g ≡ answers_on k =
      λ i. record {
        stop = stop_distance;
        inside = inside (s.corrections i);
        corrections = λ p. corrections_same p i;
        height = λ q. heights_same q i;
      } in
      rw (answers_on_lem s.one, answers_on_lem s.other) same

  findings_same : findings_of g ≡ findings_of k
  unfolding findings_of
  findings_same =
      λ i. record {
        latitude = steps_same s.corrections c s.latitude i;
        longitude = steps_same s.corrections c s.longitude i;
        height = steps_same s.heights h s.height i;
      }

  pass_same : all_pass g ≡ all_pass k
  unfolding all_pass
  pass_same =
      let latitude = all_within_same s.corrections c s.latitude correction_limit in
      let longitude = all_within_same s.corrections c s.longitude correction_limit in
      let height = all_within_same s.heights h s.height quasi_geoid_limit in
      λ i. latitude i && (longitude i && height i)

  slopes_same : question12 g (findings_of g) ≡ question12 k (findings_of k)
  unfolding question12
  slopes_same =
      λ i. slope_passes (s.corrections i) (findings_same i).latitude
      && (slope_passes (s.corrections i) (findings_same i).longitude && slope_passes (s.heights i) (findings_same i).height)

  -- and their checks give the same.
  pub checks_same : check g ≡ check k
  checks_same =
      rw (check_on s.one, check_on s.other) (λ i. ask (pass_same i) 9 (ask (slopes_same i) 12 (values (findings_same i))))
