-- Where the parts of an image that can be converted lie, and that each value of a plane is in it.
use mathlib.Core.Bool.{true}
use mathlib.Core.List.{List, ◌++◌}
use mathlib.Core.Path.{◌≡◌, sym, ◌∙◌}
use Prim.Native.Nat.{ℕ, ◌+◌, ◌-◌, ◌*◌, ◌/◌, ◌%◌, ◌≤◌, ◌<◌}
use native.Mathlib.Nat.{mul-le-mul, div-lt_iff_lt-mul, mod-lt, div-add-mod}
use native.Mathlib.Omega.{arith}
use lib.Dec.{eqb}
use lib.ListN.{length, take, drop, length-append}
use borrow.Author.Tests.{eqb-true}
use Rattle.integers.specs.Booleans.{and_left}
use Rattle.rules.specs.declared.Plane.{Plane}
use Rattle.rules.specs.declared.Layout.{Layout}
use Rattle.rules.specs.Units.{count_most}
use Rattle.rules.specs.Answers.{values}
use Rattle.rules.specs.Image.{edition_of, rows, columns, node_count}
use Rattle.rules.specs.Questions.{opening}
use Rattle.rules.specs.Limits.{InImage}
use Rattle.rules.specs.Planes.{is_of_kind, bytes_from_nodes, convertible}
use Rattle.rules.proofs.Answers.{asked, followed}
use Rattle.rules.proofs.Lent.{taken_length}
use Rattle.rules.proofs.Opening.{edition_is, first_nodes}

-- Value n of a plane stands in row n / columns, at column n % columns.
pub value_inside : {size : ℕ} {p : Plane} → InImage size p → (n : ℕ) → n < node_count p.geometry → p.first + p.stride * n + 4 ≤ size
value_inside {size} {p} o n h =
    let wide = columns p.geometry in
    let some = o.geometry.longitude.sized.count_least in
    let row : n / wide < rows p.geometry = (div-lt_iff_lt-mul {k = wide} (omega (arith, some))).1 h in
    let column : n % wide < wide = mod-lt n (omega (arith, some)) in
    let place : n / wide * wide + n % wide ≡ n = omega (arith, div-add-mod n wide) in
    rw place at (o.bytes (n / wide) (n % wide) row column)

-- A plane begins in the image.
pub begins_inside : {size : ℕ} {p : Plane} → InImage size p → p.first ≤ size
begins_inside {size} {p} o =
    let g = o.geometry in
    omega (arith, o.bytes 0 0 (omega (arith, g.latitude.sized.count_least)) (omega (arith, g.longitude.sized.count_least)))

-- A node has eight bytes, and a plane at most 4,096 × 4,096 values.
pub node_long : (b : List ℕ) (first second : ℕ) → first + 4 ≤ length b → second + 4 ≤ length b
    → length (take 4 (drop first b) ++ take 4 (drop second b)) ≡ 8
node_long b first second h k =
    length-append (take 4 (drop first b)) (take 4 (drop second b)) ∙ omega (arith, taken_length 4 b first h, taken_length 4 b second k)

pub values_most : {size : ℕ} {p : Plane} → InImage size p → node_count p.geometry ≤ count_most * count_most
values_most o =
    mul-le-mul {n₂ = count_most} {m₂ = count_most} o.geometry.latitude.sized.count_most o.geometry.longitude.sized.count_most

-- An image that can be converted, into a buffer of so many bytes: it opened, in edition 2, and its parts fill the buffer.
pub record Fits (b : List ℕ) (l : Layout) (room : ℕ) : Type 0 where
  pub is_open : opening b ≡ values l
  pub separate : l.separate ≡ true
  pub whole : room ≡ length b - l.latitude.first
  pub parts : room ≡ 8 * node_count l.latitude.geometry + (length b - l.height.first)
  pub trailer : l.height.first + 80 ≤ length b

pub fits : (kind : ℕ) (b : List ℕ) (room : ℕ) (l : Layout) → convertible kind b room ≡ values l → Fits b l room
unfolding convertible is_of_kind
fits kind b room l h =
    let o = followed (opening b) _ l h in
    let m = o.0 in
    let k = asked (is_of_kind kind b) 2 _ l o.2 in
    let r = asked (eqb room (bytes_from_nodes b m)) 14 _ l k.1 in
    let same : m ≡ l = cc in
    let opens = rw same at o.1 in
    let separate = sym (edition_is b l opens) ∙ and_left (eqb (edition_of b) 2) _ k.0 in
    let f = first_nodes b l opens separate in
    let whole = rw same at (eqb-true room (bytes_from_nodes b m) r.0) in
    record {
      is_open = opens;
      separate = separate;
      whole = whole;
      parts = omega (arith, whole, f.corrections, f.heights, f.between, f.enough);
      trailer = omega (arith, f.heights, f.between, f.enough, f.trailer);
    }
