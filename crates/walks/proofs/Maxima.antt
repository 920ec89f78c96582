-- The walk over all rows finds the largest steps: each number is a fold of `max` over the nodes, and each row set beside the one before it,
-- and each node beside the one before, the first beside itself, gives the steps from each to the next.
use mathlib.Core.List.{List}
use mathlib.Core.Path.{◌≡◌, refl, sym, ap, ◌∙◌}
use Prim.Native.Nat.{ℕ, zero, suc, ◌-◌, max}
use native.Mathlib.Omega.{arith}
use lib.IntN.{ℤ, nat_abs, ◌-ℤ◌}
use Rattle.integers.specs.Difference.{var, ◌⊖◌}
use Rattle.integers.specs.Distance.{abs_is}
use Rattle.rules.specs.declared.Geometry.{Geometry}
use Rattle.rules.specs.declared.Plane.{Plane}
use Rattle.rules.specs.declared.Layout.{Layout}
use Rattle.rules.specs.declared.Steps.{Steps}
use Rattle.rules.specs.Units.{within}
use Rattle.rules.specs.Answers.{values, ask}
use Rattle.rules.specs.Image.{plane, grid_of, rows, columns}
use Rattle.rules.specs.Check.{all_within, largest, step_north, step_east, steps_of, findings_of}
use Rattle.rules.proofs.Largest.{largest_none, largest_steps}
use Rattle.steps.specs.Walk.{no_steps, no_findings, no_correction_steps, with_node, with_nodes, with_corrections, fold_up_to, step_to}
use Rattle.steps.specs.Walk.{walk_over}
use Rattle.walks.specs.Rows.{row_steps, over_rows, plane_walk}
use Rattle.walks.proofs.Rows.{node_at, correction_at}

-- A number that each step n raises to f n at least ends as the larger of the first and the largest f.
fold_largest : {A : Type 0} (size : A → ℕ) (f : ℕ → ℕ) (step : ℕ → A → A) → ((n : ℕ) (a : A) → size (step n a) ≡ max (size a) (f n))
    → (n : ℕ) (a : A) → size (fold_up_to n step a) ≡ max (size a) (largest n f)
unfolding fold_up_to largest
fold_largest size f step h zero a = omega arith
fold_largest size f step h (suc n) a = h n (fold_up_to n step a) ∙ omega (arith, fold_largest size f step h n a)

module _ (g : Geometry) (f : ℕ → ℕ → ℤ) where
  still : (x : ℤ) → nat_abs (x -ℤ x) ≡ 0
  still x = omega (arith, abs_is (var x ⊖ var x))

  north_steps : largest (rows g) (λ row. largest (columns g) (λ column. nat_abs (f row column -ℤ f (row - 1) column))) ≡ step_north g f
  unfolding step_north
  north_steps =
      largest_steps (λ i j. largest (columns g) (λ column. nat_abs (f i column -ℤ f j column)))
      (λ i. largest_none (columns g) _ (λ column. still (f i column)))
      (rows g)

  east_steps : largest (rows g) (λ row. largest (columns g) (λ column. nat_abs (f row column -ℤ f row (column - 1)))) ≡ step_east g f
  unfolding step_east
  east_steps =
      ap (largest (rows g)) (λ i row. largest_steps (λ i j. nat_abs (f row i -ℤ f row j)) (λ i. still (f row i)) (columns g) i)

-- What a walk over all rows of nodes leaves.
module _ {A N : Type 0} (add : A → N → N → N → A) (nodes : ℕ → ℕ → N) (g : Geometry) (none : A) where
  abbrev left : A
  left = fold_up_to (rows g) (row_steps add nodes (columns g)) none

  -- One number of it.
  raised : (size : A → ℕ) (step : ℕ → ℕ → ℕ) → size none ≡ 0
      → ((row column : ℕ) (found : A)
      → size (step_to add (nodes (row - 1)) (nodes row) column found) ≡ max (size found) (step row column))
      → size left ≡ largest (rows g) (λ row. largest (columns g) (step row))
  raised size step z h =
      fold_largest size _ _ (λ row a. fold_largest size (step row) _ (λ column. h row column) (columns g) a) (rows g) none
      ∙ omega (arith, z)

  -- The steps of one of its values.
  steps_left : (part : A → Steps) (value : N → ℤ) → part none ≡ no_steps
      → ((found : A) (here west south : N)
      → part (add found here west south) ≡ with_node (part found) (value here) (value west) (value south))
      → part left ≡ steps_of g (λ row column. value (nodes row column))
  unfolding steps_of with_node
  steps_left part value z h =
      let f : ℕ → ℕ → ℤ = λ row column. value (nodes row column) in
      let north : Steps → ℕ = λ s. s.northward in
      let east : Steps → ℕ = λ s. s.eastward in
      λ i. record {
        northward = (raised (λ a. (part a).northward) _ (ap north z) (λ _ _ found. ap north (h found _ _ _)) ∙ north_steps g f) i;
        eastward = (raised (λ a. (part a).eastward) _ (ap east z) (λ _ _ found. ap east (h found _ _ _)) ∙ east_steps g f) i;
      }

-- The walk over the rows of one value.
pub plane_found : (limit : ℕ) (g : Geometry) (f : ℕ → ℕ → ℤ) → over_rows (λ _. within limit) with_node f g no_steps ≡ plane_walk limit g f
unfolding walk_over plane_walk all_within
plane_found limit g f =
    ap (λ (s : Steps). ask (all_within limit g f) 9 (values s))
    (steps_left with_node f g no_steps (λ s. s) (λ z. z) refl (λ _ _ _ _. refl))

-- And of both corrections, and of three values of one geometry: each is a part of what the walk leaves.
pub corrections_left : (b : List ℕ) (p q : Plane) (g : Geometry)
    → fold_up_to (rows g) (row_steps with_corrections (correction_at b p q) (columns g)) no_correction_steps
    ≡ record { latitude = steps_of g (plane b p); longitude = steps_of g (plane b q) }
unfolding with_corrections
corrections_left b p q g =
    λ i. record {
      latitude = steps_left with_corrections (correction_at b p q) g no_correction_steps
          (λ s. s.latitude) (λ c. c.latitude) refl (λ _ _ _ _. refl) i;
      longitude = steps_left with_corrections (correction_at b p q) g no_correction_steps
          (λ s. s.longitude) (λ c. c.longitude) refl (λ _ _ _ _. refl) i;
    }

module _ (b : List ℕ) (l : Layout) where
  abbrev g : Geometry
  g = l.latitude.geometry

  pub found_all : l.height.geometry ≡ g
      → fold_up_to (rows g) (row_steps with_nodes (node_at b l) (columns g)) no_findings ≡ findings_of (grid_of b l)
  unfolding findings_of with_nodes
  found_all one =
      let heights = ap (λ (g : Geometry). steps_of g (plane b l.height)) (sym one) in
      λ i. record {
        latitude = steps_left with_nodes (node_at b l) g no_findings (λ f. f.latitude) (λ n. n.latitude) refl (λ _ _ _ _. refl) i;
        longitude = steps_left with_nodes (node_at b l) g no_findings (λ f. f.longitude) (λ n. n.longitude) refl (λ _ _ _ _. refl) i;
        height = (steps_left with_nodes (node_at b l) g no_findings (λ f. f.height) (λ n. n.height) refl (λ _ _ _ _. refl) ∙ heights) i;
      }
