-- `ntv2::corrections_from_ntv2` meets its contract: a refusal leaves both buffers; else every row of both grids is written.
use Rattle.std.proofs.Common.{true, List, ◌≡◌, ℕ, ◌+◌, ◌-◌, ◌*◌, ◌/◌, ◌≤◌, length, drop, mul-le-mul, sym, ap, subst, ◌∙◌, arith, rules}
use Rattle.std.specs.Prelude.{Result, Ok, Err}
use Rattle.integers.specs.Booleans.{and_left, and_right}
use Rattle.rules.specs.declared.FileGrids.{FileGrids}
use Rattle.rules.specs.declared.Refusal.{Refusal}
use Rattle.rules.specs.Units.{count_most}
use Rattle.rules.specs.Answers.{Outcome, ask, values, number, number_of, outcome_of}
use Rattle.rules.specs.Image.{node_count}
use Rattle.rules.specs.Limits.{SmallGeometry}
use Rattle.rules.specs.Ntv2.{first_grid, subgrid_after, question18, grids_of, all_shifts_fit, question19, corrections_from}
use Rattle.rules.proofs.Answers.{asked, asked_no}
use Rattle.rules.proofs.Files.{passes_small}
use Rattle.rules.proofs.Lent.{part_from, part_from_lem, part_length}
use Rattle.ntv2.proofs.Passing.{FileIs, file_is}
use Rattle.ntv2.proofs.corrections_from_ntv2.Goals as goal

-- what is known of a file with such grids, as the code needs it
record Known (b : List ℕ) (room dense_room : ℕ) (g : FileGrids) : Type 0 where
  coarse : SmallGeometry g.coarse
  dense : SmallGeometry g.dense
  room_is : room ≡ 8 * node_count g.coarse
  dense_room_is : dense_room ≡ 8 * node_count g.dense
  size : 352 + 16 * node_count g.coarse ≤ length b
  dense_size : 16 * node_count g.dense ≤ length b - (528 + 16 * node_count g.coarse)

known_of : (b : List ℕ) (room dense_room : ℕ) → FileIs b room dense_room → Known b room dense_room (grids_of b)
known_of b room dense_room i =
    record {
      coarse = passes_small _ i.coarse.geometry;
      dense = i.rest.geometry;
      room_is = i.coarse.room_is;
      dense_room_is = i.rest.room_is;
      size = i.rest.size;
      dense_size = i.rest.dense_size;
    }

module _ (b : List ℕ) (room dense_room : ℕ) (answer : Result FileGrids Refusal)
    (read : outcome_of answer ≡ ask (question18 b room dense_room) 18 (values (grids_of b))) where
  -- refusal 18
  refused : (r : Refusal) → answer ≡ Err r → corrections_from b room dense_room ≡ number (number_of r)
  unfolding corrections_from
  refused r is =
      let no = asked_no (question18 b room dense_room) 18 (grids_of b) _ (sym read ∙ ap outcome_of is) in
      rw (no.0, no.1)

  module _ (g : FileGrids) (is : answer ≡ Ok g) where
    -- or the file passes, and these are its geometries
    passed : (question18 b room dense_room ≡ true) × (grids_of b ≡ g)
    passed =
        let a = asked (question18 b room dense_room) 18 (values (grids_of b)) _ (sym read ∙ ap outcome_of is) in
        let e = a.1 in
        (a.0, cc)

    known : Known b room dense_room g
    known = subst (Known b room dense_room) passed.1 (known_of b room dense_room (file_is b room dense_room passed.0))

    -- as many nodes are asked as each buffer has room for, and those are all
    counts : (room / 8 ≡ node_count g.coarse) × (dense_room / 8 ≡ node_count g.dense)
    counts = let k = known in (omega (arith, k.room_is), omega (arith, k.dense_room_is))

    answered : corrections_from b room dense_room ≡ ask (question19 b (room / 8) (dense_room / 8)) 19 (values g)
    unfolding corrections_from
    answered =
        let all : FileGrids → Outcome FileGrids = λ g. ask (question19 b (node_count g.coarse) (node_count g.dense)) 19 (values g) in
        rw (passed.0, counts.0, counts.1) (ap all passed.1)

    -- the subgrid's part of the file
    dense_part : part_from b (352 + 2 * room) ≡ subgrid_after b (node_count g.coarse)
    dense_part =
        let same : 352 + 2 * room ≡ 352 + 16 * node_count g.coarse = omega (arith, known.room_is) in
        part_from_lem b (352 + 2 * room) ∙ ap (λ (n : ℕ). drop n b) same

pub both_fit-requires : goal.both_fit-requires
both_fit-requires c =
    let k = known _ _ _ _ c.read_file.ensures _ c.in_ok-g.was in
    (omega (arith, k.room_is, k.size), omega (arith, k.room_is, k.dense_room_is, k.dense_size))

pub returns-then-not-both_fit-clause-answer : goal.returns-then-not-both_fit-clause-answer
returns-then-not-both_fit-clause-answer c =
    let no = sym c.both_fit.ensures ∙ c.if-not-both_fit.true in
    sym (answered _ _ _ _ c.read_file.ensures _ c.in_ok-g.was ∙ rw no)

pub returns-then-not-both_fit-clause-nodes : goal.returns-then-not-both_fit-clause-nodes
returns-then-not-both_fit-clause-nodes c =
    let no = sym c.both_fit.ensures ∙ c.if-not-both_fit.true in
    rw (answered _ _ _ _ c.read_file.ensures _ c.in_ok-g.was, no)

pub returns-then-not-both_fit-clause-dense : goal.returns-then-not-both_fit-clause-dense
returns-then-not-both_fit-clause-dense c =
    let no = sym c.both_fit.ensures ∙ c.if-not-both_fit.true in
    rw (answered _ _ _ _ c.read_file.ensures _ c.in_ok-g.was, no)

pub overflow_add-from : goal.overflow_add-from
overflow_add-from c =
    let k = known _ _ _ _ c.read_file.ensures _ c.in_ok-g.was in
    let most = mul-le-mul {n₂ = count_most} {m₂ = count_most} k.coarse.latitude.count_most k.coarse.longitude.count_most in
    omega (arith, k.room_is, most)

pub slice_bounds-write_grid-count : goal.slice_bounds-write_grid-count
slice_bounds-write_grid-count c =
    let k = known _ _ _ _ c.read_file.ensures _ c.in_ok-g.was in
    omega (arith, k.size)

pub slice_bounds-write_grid-start : goal.slice_bounds-write_grid-start
slice_bounds-write_grid-start c =
    let k = known _ _ _ _ c.read_file.ensures _ c.in_ok-g.was in
    omega (arith, k.size)

pub slice_bounds-write_grid-count-2 : goal.slice_bounds-write_grid-count-2
slice_bounds-write_grid-count-2 c =
    let k = known _ _ _ _ c.read_file.ensures _ c.in_ok-g.was in
    omega (arith, k.room_is, k.size)

pub slice_bounds-write_grid-start-2 : goal.slice_bounds-write_grid-start-2
slice_bounds-write_grid-start-2 c =
    let k = known _ _ _ _ c.read_file.ensures _ c.in_ok-g.was in
    omega (arith, k.room_is, k.size)

pub write_grid-requires : goal.write_grid-requires
unfolding question19
write_grid-requires c =
    let k = known _ _ _ _ c.read_file.ensures _ c.in_ok-g.was in
    let b = c.args.file.now in
    let n = counts _ _ _ _ c.read_file.ensures _ c.in_ok-g.was in
    let fits = and_left (all_shifts_fit (first_grid b) _) _ (sym c.both_fit.ensures ∙ c.if-not-both_fit.false) in (
      k.coarse.latitude.count_most,
      k.coarse.longitude.count_most,
      k.room_is,
      omega (arith, k.size, part_length b 176),
      rw (part_from_lem b 176, ← n.0) fits,
    )

pub write_grid-requires-2 : goal.write_grid-requires-2
unfolding question19
write_grid-requires-2 c =
    let k = known _ _ _ _ c.read_file.ensures _ c.in_ok-g.was in
    let b = c.args.file.now in
    let n = counts _ _ _ _ c.read_file.ensures _ c.in_ok-g.was in
    let part = dense_part _ _ _ _ c.read_file.ensures _ c.in_ok-g.was in
    let fits = and_right (all_shifts_fit (first_grid b) _) _ (sym c.both_fit.ensures ∙ c.if-not-both_fit.false) in (
      k.dense.latitude.count_most,
      k.dense.longitude.count_most,
      k.dense_room_is,
      omega (arith, k.dense_size, k.room_is, part_length b (352 + 2 * length c.args.nodes.now)),
      rw (part, ← n.1, ← n.0) fits,
    )

pub returns-in_err-g-clause-answer : goal.returns-in_err-g-clause-answer
returns-in_err-g-clause-answer c =
    let e : c.from_residual.result ≡ Err c.in_err-g.field-0.0 = search rules in
    ap outcome_of e ∙ sym (refused _ _ _ _ c.read_file.ensures _ c.in_err-g.was)

pub returns-in_err-g-clause-nodes : goal.returns-in_err-g-clause-nodes
returns-in_err-g-clause-nodes c = rw (refused _ _ _ _ c.read_file.ensures _ c.in_err-g.was)

pub returns-in_err-g-clause-dense : goal.returns-in_err-g-clause-dense
returns-in_err-g-clause-dense c = rw (refused _ _ _ _ c.read_file.ensures _ c.in_err-g.was)

pub returns-clause-answer : goal.returns-clause-answer
returns-clause-answer c =
    let yes = sym c.both_fit.ensures ∙ c.if-not-both_fit.false in
    sym (answered _ _ _ _ c.read_file.ensures _ c.in_ok-g.was ∙ rw yes)

pub returns-clause-nodes : goal.returns-clause-nodes
returns-clause-nodes c =
    let yes = sym c.both_fit.ensures ∙ c.if-not-both_fit.false in
    rw (answered _ _ _ _ c.read_file.ensures _ c.in_ok-g.was, yes, ← part_from_lem c.args.file.now 176) c.write_grid.ensures

pub returns-clause-dense : goal.returns-clause-dense
returns-clause-dense c =
    let yes = sym c.both_fit.ensures ∙ c.if-not-both_fit.false in
    let part = dense_part _ _ _ _ c.read_file.ensures _ c.in_ok-g.was in
    rw (answered _ _ _ _ c.read_file.ensures _ c.in_ok-g.was, yes, ← part) c.write_grid-2.ensures
