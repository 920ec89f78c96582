-- Documents 01 and 02 as definitions: what a reader must believe, but for Limits.antt, which is proved. Each file names the section or the
-- note that it says; a definition stands after those that it uses. Two more to believe are `floor_div` and `round_half_up`
-- (crates/integers/specs/Rounding.antt).
--
-- How to read them. A definition's first line says what it takes and gives, the next ones say what it is; several are cases, of which the
-- first that fits holds. One with fewer names than its first line takes is the function of the rest. `declared.T` is type T of
-- ../src/lib.rt, its u64 and u8 fields read as ℕ and its i64 fields as ℤ; `way.Out` is case Out of enum Way.
--     f x y, r.x, λ x. t      f of x and y; field x of r; the function of x that gives t
--     let x = a in t           t with x for a; `where` does the same from below
--     data T where …           T has these cases, and no other
--     record { x = a; … }      the record with these fields; in a `record … where` of claims, all of its lines hold
--     A → B, (x : A) → C       from A to B; and as a claim: C for every x of A. {A : Type 0}: for every type A
--     A × B, (x : A) × C       both A and B; an x of A for which C holds
--     Bool, ℕ, ℤ               true or false; the numbers from 0 up, `zero` and `suc n`, which is n + 1; all whole numbers, `pos n`, which
--                              is n, and `negsuc n`, which is −(n + 1)
--     ◌+◌ ◌-◌ ◌*◌ ◌/◌ ◌%◌ ◌^◌  on ℕ: a - b is 0 where b is above a; a / b is rounded down, a % b is the remainder, a ^ b the power; `min`
--                              and `max`
--     ◌+ℤ◌ ◌-ℤ◌ ◌*ℤ◌ neg_ℤ     on ℤ: sum, difference, product, negative; `nat_abs`, the absolute value, in ℕ
--     Some a, None; Ok a, Err r the value a, or none; the value a, or the refusal r
--     leb ltb eqb, le_z lt_z   the answer, true or false, to: at most, below, equal, on ℕ; at most, below, on ℤ
--     ◌&&◌ ◌||◌ cond           and, or; `cond t a b` is a where t is true, else b
--     [], x ∷ l, l ++ k        lists: none, x before l, l before k; `length`; `get_or l i d`, element i, counted from 0, or d past the end
--                              `take n l`, its first n, `drop n l`, the rest; `set l i x`, l with x for element i
--     "A B", code              a text, `text.[]` or a letter `text.◌∷◌` a text; the ASCII code of a letter
--     ◌≡◌ ◌≤◌ ◌≤ℤ◌, ⊥          claims: equal, at most; the one that never holds; `refl` proves what computes to the same
-- `abbrev`, `unfoldable` and `unfolding` say where the checker sees through a definition; they do not change what it is.
--
-- How to read a contract (crates/*/src/lib.rt). A clause is a claim about the function's parameters, each by its name, an unsigned one read
-- as ℕ and a signed one as ℤ; a name that is a word of these stands between « and ».
--     requires { A }               what every caller is proved to meet; an entry point has none
--     ensures { A }                what holds of the `result` whenever the function returns, which it always does. Several clauses all hold;
--                                  a word before { is a clause's name
--     s.now                        the list of the slice's elements, or the number behind a reference
--     s.old, s.new                 of a `&mut`: the same when the function was called, and when it returned
--     x.entry                      a record that holds a reference, as it was when the function was called
pub mod Units
pub mod Answers
pub mod Image
pub mod Bilinear
pub mod SixCases
pub mod Lookup
pub mod Dense
pub mod Questions
pub mod Limits
pub mod Ways
pub mod Check
pub mod Lists
pub mod Notation
pub mod Floats
pub mod Files
pub mod Vdatum
pub mod Ntv2
pub mod Planes
pub mod Promise
pub mod Trip
pub mod Figures
