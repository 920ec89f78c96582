-- `grids::corrections_around` meets its contract: the corners of the point's cell on the grid that serves it, and its place in it.
use mathlib.Core.Path.{◌∙◌}
use Rattle.rules.specs.declared.Geometry.{Geometry}
use Rattle.rules.proofs.Cells.{on_latitude, on_longitude}
use Rattle.lookup.specs.declared.CellCorners.{CellCorners}
use Rattle.lookup.specs.declared.Placed.{Placed}
use Rattle.lookup.specs.Held.{zeros, held_cell, held_at}
use Rattle.lookup.proofs.Covering.{Serves, bounded_in, part_in}
use Rattle.grids.specs.Grids.{latitude_plane}
use Rattle.grids.proofs.Chosen.{chosen, chosen_serves, held_chosen}
use Rattle.grids.proofs.corrections_around.Goals as goal
use Rattle.grids.proofs.corrections_around.Goals.{Start}

abbrev geometry : Start → Geometry
geometry s = (latitude_plane s.args.image.now.layout s.args.dense).geometry

serving : (s : Start) → Serves s.args.image.now.layout.latitude.geometry (geometry s) s.args.p
serving s = chosen_serves s.args.image.now s.args.p s.args.dense s.requires.0 s.requires.2

pub placed_on-cell-requires : goal.placed_on-cell-requires
placed_on-cell-requires c = (serving (goal.at.placed_on-cell-requires c).Start).bounded

pub held_cell-requires : goal.held_cell-requires
held_cell-requires c =
    let p = c.args.p in
    let g = geometry (goal.at.held_cell-requires c).Start in
    let v = serving (goal.at.held_cell-requires c).Start in
    let i = v.bounded.point in (
      bounded_in c.args.image.now c.requires.0,
      rw c.placed_on-cell.ensures (part_in v.covers.latitude p.latitude (on_latitude g p i)),
      rw c.placed_on-cell.ensures (part_in v.covers.longitude p.longitude (on_longitude g p i)),
    )

pub returns : goal.returns
returns c =
    let a = c.args in
    let f = a.image.now in
    c.held_cell.ensures
    ∙ (λ i. let cell = c.placed_on-cell.ensures i in
    let corners : CellCorners = record { latitude = cell.corners.latitude; longitude = cell.corners.longitude; height = zeros } in
    let placed : Placed CellCorners = record { corners = corners; spacings = cell.spacings; at = cell.at } in
    held_cell f.layout.latitude.geometry a.p placed)
    ∙ held_chosen f a.p c.requires.1 a.dense
    ∙ (λ i. held_at f.layout.latitude.geometry (chosen f.bytes.now f.layout (c.requires.2 i)) a.p)
