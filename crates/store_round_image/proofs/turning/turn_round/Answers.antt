use Rattle.std.proofs.Common.{ℕ, ◌≡◌, ◌+◌, Err, refl, ap, sym, subst, arith}
use Rattle.std.proofs.lemmas.Result.{on_ok_weaker}
use Rattle.block_disk.proofs.Failures.{cause_since}
use Rattle.block_disk.proofs.Images.{and_then, begin, now_too}
use Rattle.heap_model.specs.declared.store_error.StoreError.TheVariants.{Fault}
use Rattle.image.specs.Commit.{turned_sequence}
use Rattle.store_image.specs.Sequences.{ShowsUpTo}
use Rattle.store_image.specs.Steps.{step_ranges}
use Rattle.store_image.specs.declared.committed.Committed.{Committed}
use Rattle.store_image.proofs.Answered.{on_ok_four}
use Rattle.store_image.proofs.Taking.{step_of, worn_never, worn_now}
use Rattle.store_image.proofs.Within.{within_then}
use Rattle.store_helper_sections.specs.Going.{from_heap}
use Rattle.store_round_image.specs.Promises.{ShowsEitherHeap}
use Rattle.store_round_image.specs.Turning.{IsHeapOn}
use Rattle.store_round_image.proofs.Round.{either_before, round_done, round_shows, steady_written, writing_shows, writing_up_to, writing_within}
use Rattle.store_round_image.proofs.turning.turn_round.Goals as goal

pub write_all-requires-clause-values : goal.write_all-requires-clause-values
write_all-requires-clause-values g c = let r = c.requires.turns in (r.2, r.4.values)

pub write_all-requires-clause-rows : goal.write_all-requires-clause-rows
write_all-requires-clause-rows g c = λ lane low. (c.requires.turns.4.lanes lane low).row

pub write_all-requires-clause-fits : goal.write_all-requires-clause-fits
write_all-requires-clause-fits g c = λ lane low. (c.requires.turns.4.lanes lane low).fits

pub commit_written-requires-clause-steady : goal.commit_written-requires-clause-steady
commit_written-requires-clause-steady g c =
    let r = c.requires.turns in
    steady_written c.args.layout.now r.0 r.1 r.2 r.3 c.args.committed.now (g.D.Disk.device c.args.disk.now) c.args.cells.now c.args.from.now (g.F.NewRecords.fresh c.args.fresh.now) c.args.rows.now r.4
    (g.D.Disk.device c.write_all.new.disk) c.write_all.ensures.any_moment

-- no sequence is left
pub returns-then-committed : goal.returns-then-committed
returns-then-committed g c =
    let l = c.args.layout.now in
    let was = c.args.committed.now in
    let d = g.D.Disk.device c.args.disk.now in
    let fresh = g.F.NewRecords.fresh c.args.fresh.now in
    record {
      step = worn_now g.D.Disk.device l was c.args.disk.now;
      ok = λ s records heap later may. tt;
      rows_are = tt;
      worn = ((λ is. c.if-committed.true), (λ last. refl));
      any_moment = λ s records heap later may. begin d (ShowsEitherHeap l s records was.rows heap later c.args.rows.now);
      crash = λ s records heap later may. either_before l s records heap later was d c.args.cells.now c.args.from.now fresh c.args.rows.now may;
    }

-- a write has failed
pub returns-in-Err : goal.returns-in-Err
returns-in-Err g c =
    let l = c.args.layout.now in
    let was = c.args.committed.now in
    let d = g.D.Disk.device c.args.disk.now in
    let d2 = g.D.Disk.device c.write_all.new.disk in
    let fresh = g.F.NewRecords.fresh c.args.fresh.now in
    let r = c.requires.turns in
    let wrote = c.write_all.ensures.any_moment in
    let fault : c.in-Err.reason ≡ Fault = c.in-Err.ensures.only_fault in
    record {
      step = step_of g.D.Disk.device l was c.args.disk.now (Err c.in-Err.reason) was c.write_all.new.disk fault (record {
        err = refl;
        sequence = omega arith;
        any_sequence = writing_up_to l r.0 r.1 r.2 r.3 was d c.args.cells.now c.args.from.now fresh c.args.rows.now r.4 d2 wrote;
        within = writing_within l r.0 r.1 r.2 r.3 was d c.args.cells.now c.args.from.now fresh c.args.rows.now r.4 d2 wrote;
        cause = record { later = c.write_all.ensures.cause.later; failed = λ is. c.in-Err.ensures.cause.failed (ap Err fault) };
      });
      ok = λ s records heap later may. tt;
      rows_are = tt;
      worn = worn_never (Err c.in-Err.reason) was.sequence fault c.if-committed.false;
      any_moment = λ s records heap later may. writing_shows l s records heap later was d c.args.cells.now c.args.from.now fresh c.args.rows.now may d2 wrote;
      crash = λ s records heap later may. now_too d d2 (ShowsEitherHeap l s records was.rows heap later c.args.rows.now)
          (either_before l s records heap later was d c.args.cells.now c.args.from.now fresh c.args.rows.now may)
          (writing_shows l s records heap later was d c.args.cells.now c.args.from.now fresh c.args.rows.now may d2 wrote);
    }

pub returns-in-Ok : goal.returns-in-Ok
returns-in-Ok g c =
    let l = c.args.layout.now in
    let was = c.args.committed.now in
    let d = g.D.Disk.device c.args.disk.now in
    let d2 = g.D.Disk.device c.write_all.new.disk in
    let d3 = g.D.Disk.device c.commit_written.new.disk in
    let fresh = g.F.NewRecords.fresh c.args.fresh.now in
    let r = c.requires.turns in
    let wrote = c.write_all.ensures.any_moment in
    let made = c.commit_written.ensures.commits in
    let turned : ℕ = turned_sequence was.slot was.sequence d2.now.bytes in
    record {
      step = step_of g.D.Disk.device l was c.args.disk.now c.commit_written.result c.commit_written.new.committed c.commit_written.new.disk made.only_fault (record {
        err = made.takes.err;
        sequence = made.takes.sequence;
        any_sequence = and_then d d2 d3 (ShowsUpTo l (was.sequence + 1))
            (writing_up_to l r.0 r.1 r.2 r.3 was d c.args.cells.now c.args.from.now fresh c.args.rows.now r.4 d2 wrote) made.takes.any_sequence;
        within = within_then (step_ranges l) d d2 d3
            (writing_within l r.0 r.1 r.2 r.3 was d c.args.cells.now c.args.from.now fresh c.args.rows.now r.4 d2 wrote) made.takes.within;
        cause = cause_since d.failures d2.failures d3.failures Fault c.commit_written.result c.write_all.ensures.cause.later made.takes.cause;
      });
      ok = λ s records heap later may. on_ok_four c.commit_written.result
          (λ is rest same steady. subst (λ (committed : Committed). IsHeapOn l (from_heap s heap) later committed d3) (sym is)
          (round_done l s records heap later was d c.args.cells.now c.args.from.now fresh c.args.rows.now may d2 wrote
          (c.in-Ok.ensures.cells heap may.values) c.in-Ok.ensures.records c.in-Ok.ensures.same turned d3 made.any_moment rest same steady))
          made.ok c.commit_written.ensures.durable made.same made.steady;
      rows_are = on_ok_weaker c.commit_written.result (λ is. ap (λ (x : Committed). x.rows) is) made.ok;
      worn = worn_never c.commit_written.result was.sequence made.only_fault c.if-committed.false;
      any_moment = λ s records heap later may. round_shows l s records heap later was d c.args.cells.now c.args.from.now fresh c.args.rows.now may d2 wrote
          (c.in-Ok.ensures.cells heap may.values) c.in-Ok.ensures.records c.in-Ok.ensures.same turned d3 made.any_moment;
      crash = λ s records heap later may. now_too d d3 (ShowsEitherHeap l s records was.rows heap later c.args.rows.now)
          (either_before l s records heap later was d c.args.cells.now c.args.from.now fresh c.args.rows.now may)
          (round_shows l s records heap later was d c.args.cells.now c.args.from.now fresh c.args.rows.now may d2 wrote
          (c.in-Ok.ensures.cells heap may.values) c.in-Ok.ensures.records c.in-Ok.ensures.same turned d3 made.any_moment);
    }
