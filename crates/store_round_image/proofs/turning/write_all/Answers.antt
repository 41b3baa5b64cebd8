use Rattle.std.proofs.Common.{arith}
use Rattle.std.proofs.lemmas.Result.{on_ok_weaker}
use Rattle.block_disk.proofs.Ranges.{outside_both}
use Rattle.image_parts.specs.Layout.{cell_at}
use Rattle.image_parts.proofs.Places.{cell_survives}
use Rattle.store_image.specs.NewRecords.{fresh_ranges}
use Rattle.store_image.proofs.Appending.{front_apart}
use Rattle.store_round_image.specs.Turning.{cell_ranges}
use Rattle.store_round_image.proofs.Writing.{both_written, fields_low, first_wider}
use Rattle.store_round_image.proofs.turning.write_all.Goals as goal

pub append_lanes-requires-clause-room : goal.append_lanes-requires-clause-room
append_lanes-requires-clause-room g c = omega (arith, c.requires.room, c.in_ok-write_cells.ensures.same.size)

pub returns-in_err-write_cells-clause-any_moment : goal.returns-in_err-write_cells-clause-any_moment
returns-in_err-write_cells-clause-any_moment g c =
    let l = c.args.layout.now in
    first_wider (cell_ranges l c.args.cells.now) (fresh_ranges l c.args.from.now (g.F.NewRecords.fresh c.args.fresh.now) l.lanes) (g.D.Disk.device c.args.disk.now) (g.D.Disk.device c.write_cells.new.disk) c.write_cells.ensures.any_moment

pub returns-clause-cells : goal.returns-clause-cells
returns-clause-cells g c = λ heap all.
    let l = c.args.layout.now in
    let fresh = g.F.NewRecords.fresh c.args.fresh.now in
    let d1 = g.D.Disk.device c.write_cells.new.disk in
    let d2 = g.D.Disk.device c.append_lanes.new.disk in
    on_ok_weaker c.append_lanes.result
    (λ has f h. cell_survives l f (heap f) (fresh_ranges l c.args.from.now fresh l.lanes)
    (front_apart l c.args.from.now fresh c.requires.limits c.requires.rows c.requires.fits (cell_at l f) 8 (let low = fields_low l heap c.args.cells.now f all h in omega (arith, low)))
    d1.now.bytes d2.now.bytes (c.in_ok-write_cells.ensures.ok heap all f h) has.same) c.append_lanes.ensures.ok

pub returns-clause-records : goal.returns-clause-records
returns-clause-records g c = on_ok_weaker c.append_lanes.result (λ has lane below. has.has lane below) c.append_lanes.ensures.ok

pub returns-clause-same : goal.returns-clause-same
returns-clause-same g c =
    let l = c.args.layout.now in
    let fresh = g.F.NewRecords.fresh c.args.fresh.now in
    let d = g.D.Disk.device c.args.disk.now in
    let d1 = g.D.Disk.device c.write_cells.new.disk in
    let d2 = g.D.Disk.device c.append_lanes.new.disk in
    on_ok_weaker c.append_lanes.result
    (λ has. outside_both (cell_ranges l c.args.cells.now) (fresh_ranges l c.args.from.now fresh l.lanes) d.now.bytes d1.now.bytes d2.now.bytes c.in_ok-write_cells.ensures.same has.same) c.append_lanes.ensures.ok

pub returns-clause-any_moment : goal.returns-clause-any_moment
returns-clause-any_moment g c =
    let l = c.args.layout.now in
    let fresh = g.F.NewRecords.fresh c.args.fresh.now in
    both_written (cell_ranges l c.args.cells.now) (fresh_ranges l c.args.from.now fresh l.lanes) (g.D.Disk.device c.args.disk.now) (g.D.Disk.device c.write_cells.new.disk) (g.D.Disk.device c.append_lanes.new.disk)
    c.write_cells.ensures.any_moment c.append_lanes.ensures.any_moment
