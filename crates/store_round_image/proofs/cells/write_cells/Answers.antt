use Rattle.std.proofs.Common.{arith}
use Rattle.std.proofs.lemmas.List.Elements.{All-get_or}
use Rattle.block_disk.proofs.Images.{begin, besides_none}
use Rattle.block_disk.proofs.Ranges.{outside_refl}
use Rattle.block_disk.specs.Images.{ImageBut}
use Rattle.store_round_image.specs.Turning.{IsValueIn, cell_ranges}
use Rattle.store_round_image.specs.declared.cells.HomeValue.{HomeValue}
use Rattle.store_round_image.proofs.Writing.{have_all, have_next, same_next, cell_always, cell_follows}
use Rattle.store_round_image.proofs.cells.write_cells.Goals as goal

abbrev none : HomeValue
none = record { field = record { 0 = 0 }; value = 0 }

pub loop-cell-init : goal.loop-cell-init
loop-cell-init g c =
    let d = g.D.Disk.device c.args.disk.now in
    let rs = cell_ranges c.args.layout.now c.args.cells.now in
    record {
      has = λ heap all k e lt. absurd (omega (arith, lt));
      same = outside_refl rs d.now.bytes;
      crash = besides_none d rs;
      any_moment = begin d (ImageBut d rs);
      later = omega arith;
    }

pub write_cell-requires-clause-room : goal.write_cell-requires-clause-room
write_cell-requires-clause-room g c = omega (arith, c.requires.room, c.loop-cell.invariant.same.size)

pub write_cell-requires-clause-field : goal.write_cell-requires-clause-field
write_cell-requires-clause-field g c = (All-get_or (IsValueIn c.args.layout.now c.requires.values.0) c.args.cells.now c.loop-cell.cell-index _ c.loop-cell-test.true c.requires.values.1).field

pub loop-cell-preserved : goal.loop-cell-preserved
loop-cell-preserved g c =
    let l = c.args.layout.now in
    let cells = c.args.cells.now in
    let i = c.loop-cell.cell-index in
    let d0 = g.D.Disk.device c.args.disk.now in
    let d1 = g.D.Disk.device c.loop-cell.disk in
    let d2 = g.D.Disk.device c.write_cell.new.disk in
    record {
      has = λ heap all. have_next l cells i _ c.loop-cell-test.true heap d1.now.bytes d2.now.bytes all (c.loop-cell.invariant.has heap all) c.in_ok-write_cell.ensures.same c.in_ok-write_cell.ensures.ok;
      same = same_next l cells i _ c.loop-cell-test.true d0.now.bytes d1.now.bytes d2.now.bytes c.loop-cell.invariant.same c.in_ok-write_cell.ensures.same;
      crash = cell_always l cells i _ c.loop-cell-test.true d0 d1 d2 c.loop-cell.invariant.crash c.write_cell.ensures.any_moment;
      any_moment = cell_follows l cells i _ c.loop-cell-test.true d0 d1 d2 c.loop-cell.invariant.crash c.write_cell.ensures.any_moment c.loop-cell.invariant.any_moment;
      later = omega (arith, c.loop-cell.invariant.later, c.write_cell.ensures.cause.later);
    }

pub returns-in_err-write_cell-clause-any_moment : goal.returns-in_err-write_cell-clause-any_moment
returns-in_err-write_cell-clause-any_moment g c =
    let l = c.args.layout.now in
    let cells = c.args.cells.now in
    let i = c.loop-cell.cell-index in
    let d0 = g.D.Disk.device c.args.disk.now in
    let d1 = g.D.Disk.device c.loop-cell.disk in
    let d2 = g.D.Disk.device c.write_cell.new.disk in
    cell_follows l cells i _ c.loop-cell-test.true d0 d1 d2 c.loop-cell.invariant.crash c.write_cell.ensures.any_moment c.loop-cell.invariant.any_moment

pub returns-clause-ok : goal.returns-clause-ok
returns-clause-ok g c = λ heap all. have_all c.args.layout.now c.args.cells.now heap (g.D.Disk.device c.loop-cell.disk).now.bytes c.loop-cell.cell-index (omega (arith, c.loop-cell-test.false)) (c.loop-cell.invariant.has heap all)
