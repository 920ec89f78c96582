-- The two theorems for readers: where a file was converted into two buffers and either one was burned into an image, its nodes are read
-- there.
use Rattle.std.specs.Prelude.{true, List, ◌++◌, ◌≡◌, ℕ, ◌<◌, length}
use Rattle.std.proofs.Common.{subst}
use Rattle.integers.specs.Booleans.{and_left, and_right}
use Rattle.rules.specs.declared.FileGrids.{FileGrids}
use Rattle.rules.specs.Answers.{values}
use Rattle.rules.specs.Image.{rows, columns, node_count}
use Rattle.rules.specs.Ntv2.{first_grid, subgrid_after, question18, grids_of}
use Rattle.rules.specs.Ntv2.{all_shifts_fit, question19}
use Rattle.rules.specs.Ntv2.{corrections_from, corrections_after, dense_corrections_after}
use Rattle.rules.proofs.Answers.{asked}
use Rattle.ntv2.specs.Burned.{Reads, nodes_read}

-- What a conversion tells of the nodes: all pass.
fit : (b : List ℕ) (room dense_room : ℕ) (g : FileGrids) → corrections_from b room dense_room ≡ values g
    → question19 b (node_count g.coarse) (node_count g.dense) ≡ true
unfolding corrections_from
fit b room dense_room g e =
    let room_fits = asked (question18 b room dense_room) 18 _ g e in
    let all = asked (question19 b (node_count (grids_of b).coarse) (node_count (grids_of b).dense)) 19 _ g room_fits.1 in
    let same : grids_of b ≡ g = cc in
    subst (λ (g : FileGrids). question19 b (node_count g.coarse) (node_count g.dense) ≡ true) same all.0

-- So it is where a file was converted into two buffers and either one was burned into an image.
pub burned : (b buffer dense_buffer before end : List ℕ) (g : FileGrids)
    → corrections_from b (length buffer) (length dense_buffer) ≡ values g → (row column : ℕ) → row < rows g.coarse → column < columns g.coarse
    → Reads (before ++ (corrections_after b buffer dense_buffer ++ end)) (first_grid b) g.coarse (length before) row column
unfolding question19
burned b buffer dense_buffer before end g e row column i j =
    let q = fit b _ _ g e in
    let fits = and_left (all_shifts_fit (first_grid b) (node_count g.coarse)) _ q in
    rw e (nodes_read (first_grid b) before end g.coarse row column fits i j)

pub dense_burned : (b buffer dense_buffer before end : List ℕ) (g : FileGrids)
    → corrections_from b (length buffer) (length dense_buffer) ≡ values g → (row column : ℕ) → row < rows g.dense
    → column < columns g.dense → let dense = subgrid_after b (node_count g.coarse) in
    Reads (before ++ (dense_corrections_after b buffer dense_buffer ++ end)) dense g.dense (length before) row column
unfolding question19
dense_burned b buffer dense_buffer before end g e row column i j =
    let q = fit b _ _ g e in
    let fits = and_right (all_shifts_fit (first_grid b) (node_count g.coarse)) _ q in
    rw e (nodes_read (subgrid_after b (node_count g.coarse)) before end g.dense row column fits i j)
