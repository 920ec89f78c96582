-- A list whose part was lent, to be read or to be written.
use mathlib.Core.List.{List, ◌++◌, append_assoc, append-nil}
use mathlib.Core.Path.{◌≡◌, sym, ◌∙◌}
use Prim.Native.Nat.{ℕ, ◌+◌, ◌-◌, ◌≤◌}
use native.Mathlib.Omega.{arith}
use lib.ListN.{length, take, drop, length-append, length-drop}
use lib.Seq.{take_all, take_at, drop_at, length-take-le, take-append_seam, drop-append_seam, take-length, drop-length, drop-drop}

-- The part of a list from n on, as a range leaves it; its length is what is left of the list.
abbrev pub part_from : {A : Type 0} → List A → ℕ → List A
part_from l n = take (length l - n) (drop n l)

pub part_from_lem : {A : Type 0} (l : List A) (n : ℕ) → part_from l n ≡ drop n l
part_from_lem l n = take_all (length l - n) (drop n l) (omega (arith, length-drop n l))

pub part_length : {A : Type 0} (l : List A) (n : ℕ) → length (part_from l n) ≡ length l - n
part_length l n = rw (part_from_lem l n) (length-drop n l)

-- The length of a part that is in the list whole.
pub taken_length : {A : Type 0} (n : ℕ) (l : List A) (at : ℕ) → at + n ≤ length l → length (take n (drop at l)) ≡ n
taken_length n l at h = length-take-le n (drop at l) (omega (arith, length-drop at l))

-- The front of a list whose part from n on was lent, and has v at its own front since.
pub front : {A : Type 0} (l v rest post : List A) (n : ℕ) → n ≤ length l
    → take (n + length v) (take n l ++ ((v ++ rest) ++ post)) ≡ take n l ++ v
front l v rest post n h =
    rw (append_assoc v rest post, ← append_assoc (take n l) v (rest ++ post))
    (take_at (take n l ++ v) (rest ++ post) (n + length v) (rw (length-append, length-take-le)))

-- Two values of one length written from the front: u on the list, then v on what was lent on after u.
pub two_fronts : {A : Type 0} (u v l : List A) →
    let n = length u in
    let m = u ++ drop n l in
    let rest = length m - n in
    take n m ++ ((v ++ drop n (take rest (drop n m))) ++ drop rest (drop n m)) ≡ (u ++ v) ++ drop (n + n) l
two_fronts u v l =
    let n = length u in
    let x = drop n l in
    let k : length (u ++ x) - n ≡ length x = rw (length-append u x) (omega arith) in
    rw (take-append_seam u x, drop-append_seam u x, k, take-length x, drop-length x, append-nil, drop-drop n n l) (sym (append_assoc u v _))

-- The first n elements of a list written, x, and then what was lent on after them, y: both are left.
pub two_parts : {A : Type 0} (x y l : List A) (n : ℕ) → length x ≡ n →
    let m = x ++ drop n l in
    let rest = length m - n in
    take n m ++ (y ++ drop rest (drop n m)) ≡ x ++ y
two_parts x y l n h =
    let k : length (x ++ drop n l) - n ≡ length (drop n l) = omega (arith, length-append x (drop n l)) in
    rw (take_at x (drop n l) n h, drop_at x (drop n l) n h, k, drop-length (drop n l), append-nil)

-- The length of what was lent on.
pub second_part_length : {A : Type 0} (x l : List A) (n : ℕ) → length x ≡ n → length (part_from (x ++ drop n l) n) ≡ length l - n
second_part_length x l n h = part_length (x ++ drop n l) n ∙ omega (arith, length-append x (drop n l), length-drop n l)
