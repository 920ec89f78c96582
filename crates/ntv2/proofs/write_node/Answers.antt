-- `ntv2::write_node` meets its contract: latitude correction, then longitude correction.
use mathlib.Core.List.{List, ◌++◌}
use mathlib.Core.Path.{◌≡◌, ap, ◌∙◌}
use Prim.Native.Nat.{ℕ, ◌-◌, ◌≤◌, ◌<◌}
use native.Mathlib.Omega.{arith}
use lib.IntN.{ℤ, nat_abs}
use lib.ListN.{length, take, drop, length-take, length-drop}
use mir.Syntax.{w64}
use mir.Val.{to_z, of_z}
use Rattle.integers.specs.Machine.{told}
use Rattle.rules.specs.Units.{correction_limit}
use Rattle.rules.specs.Files.{bytes_of}
use Rattle.rules.specs.Floats.{binary32, value_of}
use Rattle.rules.specs.Ntv2.{arcseconds, turned, latitude_from, longitude_from, correction_node}
use Rattle.rules.proofs.Lent.{two_fronts}
use Rattle.ntv2.specs.Burned.{longitude_most}
use Rattle.ntv2.proofs.Shifts.{both_fit}
use Rattle.ntv2.proofs.write_node.Goals as goal
use Rattle.ntv2.proofs.write_node.Goals.{After-fit_correction-latitude, After-turned_correction-longitude, After-write_i32}

pub fit_correction-latitude-requires : goal.fit_correction-latitude-requires
fit_correction-latitude-requires c =
    rw c.u32_at.ensures.0 (both_fit c.args.grid.now c.args.n c.requires.2).0

pub turned_correction-longitude-requires : goal.turned_correction-longitude-requires
turned_correction-longitude-requires c =
    let s = c in
    (omega (arith, c.u32_at-2.ensures.1), rw c.u32_at-2.ensures.0 (both_fit s.args.grid.now s.args.n s.requires.2).1)

-- both corrections, as the machine has them
latitude_is : (c : After-fit_correction-latitude) → let s = c.args in
    to_z w64 (of_z w64 c.fit_correction-latitude.result) ≡ latitude_from s.grid.now s.n
unfolding latitude_from
latitude_is c =
    let f = c.fit_correction-latitude in
    told w64 f.type_inv f.ensures.0 ∙ ap (λ bits. arcseconds (value_of binary32 bits)) c.u32_at.ensures.0

longitude_is : (c : After-turned_correction-longitude) → let s = c.args in
    to_z w64 (of_z w64 c.turned_correction-longitude.result) ≡ longitude_from s.grid.now s.n
unfolding longitude_from
longitude_is c =
    let f = c.turned_correction-longitude in
    told w64 f.type_inv f.ensures ∙ ap (λ bits. arcseconds (turned (value_of binary32 bits))) c.u32_at-2.ensures.0

-- a correction that passes has 32 bits
small : (z w : ℤ) → z ≡ w → nat_abs w ≤ correction_limit → nat_abs z < 2147483648
small z w e h = rw e (omega arith)

-- what the first call leaves
first_left : (c : After-write_i32) → let s = c.args in
    c.write_i32.new.rest ≡ bytes_of (latitude_from s.grid.now s.n) ++ drop 4 s.rest.now
first_left c =
    c.write_i32.ensures
    ∙ ap (λ (z : ℤ). bytes_of z ++ drop 4 c.args.rest.now) (latitude_is (goal.at.After-write_i32 c).After-fit_correction-latitude)

pub write_i32-requires-2 : goal.write_i32-requires-2
write_i32-requires-2 c = (
  rw (first_left (goal.at.write_i32-requires-2 c).After-write_i32) (simp (length-take, length-drop) (omega arith)),
  small _ _ (longitude_is (goal.at.write_i32-requires-2 c).After-turned_correction-longitude) (longitude_most _ _ c.requires.2),
)

-- what the second call leaves of what the first one did
abbrev after_both : (v left : List ℕ) → List ℕ
after_both v left =
    let rest = length left - 4 in
    take 4 left ++ ((v ++ drop 4 (take rest (drop 4 left))) ++ drop rest (drop 4 left))

pub returns : goal.returns
unfolding correction_node
returns c =
    let s = c.args in
    let left = c.write_i32.new.rest in
    let rest = length left - 4 in
    let after : ℤ → List ℕ = λ z. bytes_of z ++ drop 4 (take rest (drop 4 left)) in
    let second = c.write_i32-2.ensures ∙ ap after (longitude_is (goal.at.returns c).After-turned_correction-longitude) in
    ap (λ (m : List ℕ). take 4 left ++ (m ++ drop rest (drop 4 left))) second
    ∙ ap (after_both (bytes_of (longitude_from s.grid.now s.n))) (first_left (goal.at.returns c).After-write_i32)
    ∙ two_fronts (bytes_of (latitude_from s.grid.now s.n)) (bytes_of (longitude_from s.grid.now s.n)) s.rest.now
