use Rattle.std.proofs.Common.{◌≡◌, ◌+◌, Result, Err, refl, sym, subst, ap, arith}
use Rattle.block_disk.proofs.Failures.{cause_since}
use Rattle.block_disk.proofs.Images.{after_sync, and_then, begin, leaves_synced, now_too}
use Rattle.heap_model.specs.Cuts.{counts_of}
use Rattle.image_parts.specs.Control.{control_of}
use Rattle.heap_model.specs.Past.{after_settle}
use Rattle.heap_model.specs.declared.store_error.StoreError.{StoreError}
use Rattle.heap_model.specs.declared.store_error.StoreError.TheVariants.{Fault}
use Rattle.store_image.specs.Consistent.{IsConsistent, ShowsEither}
use Rattle.store_image.specs.KeptHeap.{StandsForEither}
use Rattle.store_image.specs.Sequences.{ShowsUpTo}
use Rattle.store_image.specs.declared.committed.Committed.{Committed}
use Rattle.store_image.proofs.Acknowledging.{settle_before, rows_fit, steady_one, settle_leaves, settle_done, settle_shown, settle_shows}
use Rattle.store_image.proofs.Answered.{on_ok_two}
use Rattle.store_image.proofs.Sequences.{steady_up_to}
use Rattle.store_image.specs.Steps.{step_ranges}
use Rattle.store_image.proofs.Taking.{step_of, worn_never, worn_now}
use Rattle.store_image.proofs.Within.{sync_within, within_then}
use Rattle.store_image.proofs.settling.settle.Goals as goal

-- no sequence is left
pub returns-then-committed : goal.returns-then-committed
returns-then-committed g c =
    let l = c.args.layout.now in
    let was = c.args.committed.now in
    let d = g.D.Disk.device c.args.disk.now in
    let cut = counts_of c.args.cut.now in
    record {
      step = worn_now g.D.Disk.device l was c.args.disk.now;
      ok = λ s p may. tt;
      worn = ((λ is. c.if-committed.true), (λ last. refl));
      any_moment = λ s p may. begin d (StandsForEither l s p.logged p.cut cut);
      shown = λ s p may. begin d (ShowsEither l s p (after_settle p cut));
      crash = λ s p may. settle_before l s p was d c.args.cut.now c.args.places.now may;
    }

-- the home cells may not be durable
pub returns-in-Err : goal.returns-in-Err
returns-in-Err g c =
    let l = c.args.layout.now in
    let was = c.args.committed.now in
    let d = g.D.Disk.device c.args.disk.now in
    let e = g.D.Disk.device c.sync.new.disk in
    let cut = counts_of c.args.cut.now in
    let fault : c.in-Err.reason ≡ Fault = c.in-Err.ensures.only_fault in
    record {
      step = step_of g.D.Disk.device l was c.args.disk.now (Err c.in-Err.reason) was c.sync.new.disk fault (record {
        err = refl;
        sequence = omega arith;
        any_sequence = (after_sync d e (ShowsUpTo l (was.sequence + 1))
            (steady_up_to l d was.slot (control_of was.sequence was.rows) (was.sequence + 1) c.requires.settles.2.consistent.steady (omega arith)) c.sync.ensures.any_moment).0;
        within = sync_within l d e c.sync.ensures.any_moment;
        cause = record { later = c.sync.ensures.cause.later; failed = λ is. c.in-Err.ensures.cause.failed (ap Err fault) };
      });
      ok = λ s p may. tt;
      worn = worn_never (Err c.in-Err.reason) was.sequence fault c.if-committed.false;
      any_moment = λ s p may. (after_sync d e (StandsForEither l s p.logged p.cut cut) (settle_before l s p was d c.args.cut.now c.args.places.now may) c.sync.ensures.any_moment).0;
      shown = λ s p may. (after_sync d e (ShowsEither l s p (after_settle p cut)) (settle_shown l s p was d c.args.cut.now c.args.places.now may) c.sync.ensures.any_moment).0;
      crash = λ s p may. (after_sync d e (StandsForEither l s p.logged p.cut cut) (settle_before l s p was d c.args.cut.now c.args.places.now may) c.sync.ensures.any_moment).1;
    }

pub commit-requires-clause-rows : goal.commit-requires-clause-rows
commit-requires-clause-rows g c =
    let r = c.requires.settles in
    rows_fit c.args.layout.now r.0 r.1 c.args.committed.now (g.D.Disk.device c.args.disk.now) c.args.cut.now c.args.places.now r.2 c.settled_rows-rows.result
    (record { size = c.settled_rows-rows.ensures.size; lanes = c.settled_rows-rows.ensures.lanes; rest = c.settled_rows-rows.ensures.rest })

pub commit-requires-clause-steady : goal.commit-requires-clause-steady
commit-requires-clause-steady g c =
    let r = c.requires.settles in
    steady_one c.args.layout.now r.0 r.1 c.args.committed.now (g.D.Disk.device c.args.disk.now) c.args.cut.now c.args.places.now r.2 c.settled_rows-rows.result
    (record { size = c.settled_rows-rows.ensures.size; lanes = c.settled_rows-rows.ensures.lanes; rest = c.settled_rows-rows.ensures.rest })
    (g.D.Disk.device c.sync.new.disk) c.in-Ok.ensures.ok

pub returns-in-Ok : goal.returns-in-Ok
returns-in-Ok g c =
    let l = c.args.layout.now in
    let was = c.args.committed.now in
    let d = g.D.Disk.device c.args.disk.now in
    let d1 = g.D.Disk.device c.sync.new.disk in
    let d2 = g.D.Disk.device c.commit.new.disk in
    let cut = counts_of c.args.cut.now in
    let made = c.commit.ensures.commits in
    let synced = leaves_synced d d1 c.in-Ok.ensures.ok in
    record {
      step = step_of g.D.Disk.device l was c.args.disk.now c.commit.result c.commit.new.committed c.commit.new.disk made.only_fault (record {
        err = made.takes.err;
        sequence = made.takes.sequence;
        any_sequence = and_then d d1 d2 (ShowsUpTo l (was.sequence + 1))
            (after_sync d d1 (ShowsUpTo l (was.sequence + 1))
            (steady_up_to l d was.slot (control_of was.sequence was.rows) (was.sequence + 1) c.requires.settles.2.consistent.steady (omega arith)) synced).0
            made.takes.any_sequence;
        within = within_then (step_ranges l) d d1 d2 (sync_within l d d1 c.sync.ensures.any_moment) made.takes.within;
        cause = cause_since d.failures d1.failures d2.failures Fault c.commit.result c.sync.ensures.cause.later made.takes.cause;
      });
      ok = λ s p may. on_ok_two c.commit.result
          (λ is steady. subst (λ (committed : Committed). IsConsistent l s (after_settle p cut) committed d2) (sym is)
          (settle_done l s p was d c.args.cut.now c.args.places.now may c.settled_rows-rows.result
          (record { size = c.settled_rows-rows.ensures.size; lanes = c.settled_rows-rows.ensures.lanes; rest = c.settled_rows-rows.ensures.rest }) d1 c.in-Ok.ensures.ok d2 made.any_moment steady))
          made.ok made.steady;
      worn = worn_never c.commit.result was.sequence made.only_fault c.if-committed.false;
      any_moment = λ s p may. settle_leaves l s p was d c.args.cut.now c.args.places.now may c.settled_rows-rows.result
          (record { size = c.settled_rows-rows.ensures.size; lanes = c.settled_rows-rows.ensures.lanes; rest = c.settled_rows-rows.ensures.rest }) d1 c.in-Ok.ensures.ok d2 made.any_moment;
      shown = λ s p may. settle_shows l s p was d c.args.cut.now c.args.places.now may c.settled_rows-rows.result
          (record { size = c.settled_rows-rows.ensures.size; lanes = c.settled_rows-rows.ensures.lanes; rest = c.settled_rows-rows.ensures.rest }) d1 c.in-Ok.ensures.ok d2 made.any_moment;
      crash = λ s p may. now_too d d2 (StandsForEither l s p.logged p.cut cut) (settle_before l s p was d c.args.cut.now c.args.places.now may)
          (settle_leaves l s p was d c.args.cut.now c.args.places.now may c.settled_rows-rows.result
          (record { size = c.settled_rows-rows.ensures.size; lanes = c.settled_rows-rows.ensures.lanes; rest = c.settled_rows-rows.ensures.rest }) d1 c.in-Ok.ensures.ok d2 made.any_moment);
    }
