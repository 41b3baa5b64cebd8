use Rattle.std.proofs.Common.{◌++◌}
use Rattle.block_disk.proofs.Images.{weaker}
use Rattle.heap_model.specs.Cuts.{counts_of}
use Rattle.image_parts.specs.declared.layout.Layout.{Layout}
use Rattle.store_image.proofs.Answered.{on_ok_two}
use Rattle.store_helper_sections.specs.Going.{from_heap}
use Rattle.store_helper_sections.specs.Image.{kept_by, round_records}
use Rattle.store_round_image.specs.Promises.{ShowsEitherHeap}
use Rattle.store_round_making.proofs.Leading.{Either, either_round, may_turn, round_on}
use Rattle.store_round_making.proofs.making.make_round.Goals as goal

pub turn_round-requires-clause-turns : goal.turn_round-requires-clause-turns
turn_round-requires-clause-turns g c =
    let r = c.requires.makes in
    let l : Layout = c.args.layout.now in (
      from_heap r.0 (kept_by r.0 r.1 r.2),
      round_records c.args.threads r.0 r.1 r.2 r.3,
      kept_by r.0 (r.4 ++ r.1) (counts_of c.args.next.now),
      round_records c.args.threads r.0 (r.4 ++ r.1) (counts_of c.args.next.now) r.5,
      may_turn c.args.layout.now c.args.threads r.0 r.1 r.2 r.3 r.4 r.5 c.args.committed.now (g.D.Disk.device c.args.disk.now) c.args.next.now c.args.places.now c.args.cells.now (g.F.NewRecords.fresh c.args.fresh.now) c.args.helper.now r.6
          c.skips-skipped.result c.from_rows-from.result c.next_rows-rows.result c.skips-skipped.ensures c.from_rows-from.ensures.lanes c.from_rows-from.ensures.rest c.next_rows-rows.ensures.lanes c.next_rows-rows.ensures.helper c.next_rows-rows.ensures.rest c.next_rows-rows.ensures.size,
    )

pub returns : goal.returns
returns g c = record {
  ok = λ s log cut sections newer later may.
      on_ok_two c.turn_round.result
      (λ rows_are on. round_on c.args.layout.now c.args.threads s log cut sections newer later c.args.committed.now (g.D.Disk.device c.args.disk.now) c.args.next.now c.args.places.now c.args.cells.now (g.F.NewRecords.fresh c.args.fresh.now) c.args.helper.now may
      c.skips-skipped.result c.from_rows-from.result c.next_rows-rows.result c.skips-skipped.ensures c.from_rows-from.ensures.lanes c.from_rows-from.ensures.rest c.next_rows-rows.ensures.lanes c.next_rows-rows.ensures.helper c.next_rows-rows.ensures.rest c.next_rows-rows.ensures.size
      c.turn_round.new.committed (g.D.Disk.device c.turn_round.new.disk) rows_are on)
      c.turn_round.ensures.rows_are
      (c.turn_round.ensures.ok (from_heap s (kept_by s log cut)) (round_records c.args.threads s log cut sections) (kept_by s (newer ++ log) (counts_of c.args.next.now)) (round_records c.args.threads s (newer ++ log) (counts_of c.args.next.now) later)
      (may_turn c.args.layout.now c.args.threads s log cut sections newer later c.args.committed.now (g.D.Disk.device c.args.disk.now) c.args.next.now c.args.places.now c.args.cells.now (g.F.NewRecords.fresh c.args.fresh.now) c.args.helper.now may
      c.skips-skipped.result c.from_rows-from.result c.next_rows-rows.result c.skips-skipped.ensures c.from_rows-from.ensures.lanes c.from_rows-from.ensures.rest c.next_rows-rows.ensures.lanes c.next_rows-rows.ensures.helper c.next_rows-rows.ensures.rest c.next_rows-rows.ensures.size));
  worn = c.turn_round.ensures.worn;
  no_call = c.turn_round.ensures.step.no_call;
  no_other = c.turn_round.ensures.step.no_other;
  err = c.turn_round.ensures.step.takes.err;
  sequence = c.turn_round.ensures.step.takes.sequence;
  any_moment = λ s log cut sections newer later may.
      let l : Layout = c.args.layout.now in
      weaker (g.D.Disk.device c.args.disk.now) (g.D.Disk.device c.turn_round.new.disk)
      (ShowsEitherHeap l (from_heap s (kept_by s log cut)) (round_records c.args.threads s log cut sections) c.args.committed.now.rows (kept_by s (newer ++ log) (counts_of c.args.next.now)) (round_records c.args.threads s (newer ++ log) (counts_of c.args.next.now) later) c.next_rows-rows.result)
      (Either c.args.layout.now c.args.threads s log cut sections newer later c.args.committed.now (g.D.Disk.device c.args.disk.now) c.args.next.now c.args.places.now c.args.cells.now (g.F.NewRecords.fresh c.args.fresh.now) c.args.helper.now may
      c.skips-skipped.result c.from_rows-from.result c.next_rows-rows.result c.skips-skipped.ensures c.from_rows-from.ensures.lanes c.from_rows-from.ensures.rest c.next_rows-rows.ensures.lanes c.next_rows-rows.ensures.helper c.next_rows-rows.ensures.rest c.next_rows-rows.ensures.size)
      (either_round c.args.layout.now c.args.threads s log cut sections newer later c.args.committed.now (g.D.Disk.device c.args.disk.now) c.args.next.now c.args.places.now c.args.cells.now (g.F.NewRecords.fresh c.args.fresh.now) c.args.helper.now may
      c.skips-skipped.result c.from_rows-from.result c.next_rows-rows.result c.skips-skipped.ensures c.from_rows-from.ensures.lanes c.from_rows-from.ensures.rest c.next_rows-rows.ensures.lanes c.next_rows-rows.ensures.helper c.next_rows-rows.ensures.rest c.next_rows-rows.ensures.size)
      (c.turn_round.ensures.any_moment (from_heap s (kept_by s log cut)) (round_records c.args.threads s log cut sections) (kept_by s (newer ++ log) (counts_of c.args.next.now)) (round_records c.args.threads s (newer ++ log) (counts_of c.args.next.now) later)
      (may_turn c.args.layout.now c.args.threads s log cut sections newer later c.args.committed.now (g.D.Disk.device c.args.disk.now) c.args.next.now c.args.places.now c.args.cells.now (g.F.NewRecords.fresh c.args.fresh.now) c.args.helper.now may
      c.skips-skipped.result c.from_rows-from.result c.next_rows-rows.result c.skips-skipped.ensures c.from_rows-from.ensures.lanes c.from_rows-from.ensures.rest c.next_rows-rows.ensures.lanes c.next_rows-rows.ensures.helper c.next_rows-rows.ensures.rest c.next_rows-rows.ensures.size));
  any_sequence = c.turn_round.ensures.step.takes.any_sequence;
  within = c.turn_round.ensures.step.takes.within;
  crash = λ s log cut sections newer later may. λ image left.
      let l : Layout = c.args.layout.now in
      either_round c.args.layout.now c.args.threads s log cut sections newer later c.args.committed.now (g.D.Disk.device c.args.disk.now) c.args.next.now c.args.places.now c.args.cells.now (g.F.NewRecords.fresh c.args.fresh.now) c.args.helper.now may
      c.skips-skipped.result c.from_rows-from.result c.next_rows-rows.result c.skips-skipped.ensures c.from_rows-from.ensures.lanes c.from_rows-from.ensures.rest c.next_rows-rows.ensures.lanes c.next_rows-rows.ensures.helper c.next_rows-rows.ensures.rest c.next_rows-rows.ensures.size image
      (c.turn_round.ensures.crash (from_heap s (kept_by s log cut)) (round_records c.args.threads s log cut sections) (kept_by s (newer ++ log) (counts_of c.args.next.now)) (round_records c.args.threads s (newer ++ log) (counts_of c.args.next.now) later)
      (may_turn c.args.layout.now c.args.threads s log cut sections newer later c.args.committed.now (g.D.Disk.device c.args.disk.now) c.args.next.now c.args.places.now c.args.cells.now (g.F.NewRecords.fresh c.args.fresh.now) c.args.helper.now may
      c.skips-skipped.result c.from_rows-from.result c.next_rows-rows.result c.skips-skipped.ensures c.from_rows-from.ensures.lanes c.from_rows-from.ensures.rest c.next_rows-rows.ensures.lanes c.next_rows-rows.ensures.helper c.next_rows-rows.ensures.rest c.next_rows-rows.ensures.size) image left);
  cause = c.turn_round.ensures.step.takes.cause;
}
