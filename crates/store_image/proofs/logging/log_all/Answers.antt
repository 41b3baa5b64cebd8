use Rattle.std.proofs.Common.{◌+◌, sym, subst, arith}
use Rattle.block_disk.proofs.Images.{and_then, leaves_synced}
use Rattle.heap_model.specs.Past.{after_log}
use Rattle.store_image.specs.Consistent.{IsConsistent}
use Rattle.store_image.specs.Sequences.{ShowsUpTo}
use Rattle.store_image.specs.declared.committed.Committed.{Committed}
use Rattle.store_image.proofs.Recording.{each_row, append_leaves, append_shows, append_up_to, sync_leaves, sync_shows, sync_up_to, rows_fit, steady_two, log_leaves, log_done, log_shows}
use Rattle.store_image.proofs.Answered.{on_ok_two}
use Rattle.store_image.specs.NewRecords.{fresh_ranges}
use Rattle.store_image.specs.Steps.{step_ranges}
use Rattle.store_image.proofs.Within.{fresh_clear, sync_within, within, within_then}
use Rattle.store_image.proofs.logging.log_all.Goals as goal

pub append_lanes-requires-clause-rows : goal.append_lanes-requires-clause-rows
append_lanes-requires-clause-rows g c =
    let r = c.requires.logs in
    each_row c.args.layout.now r.0 r.1 c.args.committed.now (g.D.Disk.device c.args.disk.now) (g.F.NewRecords.fresh c.args.fresh.now) r.2

pub returns-in_err-append_lanes-clause-logs : goal.returns-in_err-append_lanes-clause-logs
returns-in_err-append_lanes-clause-logs g c = λ s p may. record {
  any_moment = append_leaves c.args.layout.now s p c.args.committed.now (g.D.Disk.device c.args.disk.now) (g.F.NewRecords.fresh c.args.fresh.now) may
      (g.D.Disk.device c.append_lanes.new.disk) c.append_lanes.ensures.any_moment;
  shown = append_shows c.args.layout.now s p c.args.committed.now (g.D.Disk.device c.args.disk.now) (g.F.NewRecords.fresh c.args.fresh.now) may
      (g.D.Disk.device c.append_lanes.new.disk) c.append_lanes.ensures.any_moment;
}

pub returns-in_err-sync-clause-logs : goal.returns-in_err-sync-clause-logs
returns-in_err-sync-clause-logs g c = λ s p may. record {
  any_moment = sync_leaves c.args.layout.now s p c.args.committed.now (g.D.Disk.device c.args.disk.now) (g.F.NewRecords.fresh c.args.fresh.now) may
      (g.D.Disk.device c.append_lanes.new.disk) c.append_lanes.ensures.any_moment (g.D.Disk.device c.sync.new.disk) c.sync.ensures.any_moment;
  shown = sync_shows c.args.layout.now s p c.args.committed.now (g.D.Disk.device c.args.disk.now) (g.F.NewRecords.fresh c.args.fresh.now) may
      (g.D.Disk.device c.append_lanes.new.disk) c.append_lanes.ensures.any_moment (g.D.Disk.device c.sync.new.disk) c.sync.ensures.any_moment;
}

pub logged_rows-rows-requires-clause-limit : goal.logged_rows-rows-requires-clause-limit
logged_rows-rows-requires-clause-limit g c = λ lane below. (c.requires.logs.2.fits lane below).limit

pub commit-requires-clause-rows : goal.commit-requires-clause-rows
commit-requires-clause-rows g c =
    let r = c.requires.logs in
    rows_fit c.args.layout.now r.0 r.1 c.args.committed.now (g.D.Disk.device c.args.disk.now) (g.F.NewRecords.fresh c.args.fresh.now) r.2
    (g.D.Disk.device c.append_lanes.new.disk) c.append_lanes.ensures.any_moment c.logged_rows-rows.result
    (record { size = c.logged_rows-rows.ensures.size; lanes = c.logged_rows-rows.ensures.lanes; rest = c.logged_rows-rows.ensures.rest })

pub commit-requires-clause-steady : goal.commit-requires-clause-steady
commit-requires-clause-steady g c =
    let r = c.requires.logs in
    steady_two c.args.layout.now r.0 r.1 c.args.committed.now (g.D.Disk.device c.args.disk.now) (g.F.NewRecords.fresh c.args.fresh.now) r.2
    (g.D.Disk.device c.append_lanes.new.disk) c.append_lanes.ensures.any_moment c.logged_rows-rows.result
    (record { size = c.logged_rows-rows.ensures.size; lanes = c.logged_rows-rows.ensures.lanes; rest = c.logged_rows-rows.ensures.rest })
    c.in_ok-append_lanes.ensures.ok (g.D.Disk.device c.sync.new.disk) c.in_ok-sync.ensures.ok

pub returns-clause-ok : goal.returns-clause-ok
returns-clause-ok g c = λ s p may.
    let l = c.args.layout.now in
    let d3 = g.D.Disk.device c.commit.new.disk in
    on_ok_two c.commit.result
    (λ is steady. subst (λ (committed : Committed). IsConsistent l s (after_log p) committed d3) (sym is)
    (log_done l s p c.args.committed.now (g.D.Disk.device c.args.disk.now) (g.F.NewRecords.fresh c.args.fresh.now) may
    (g.D.Disk.device c.append_lanes.new.disk) c.append_lanes.ensures.any_moment c.logged_rows-rows.result
    (record { size = c.logged_rows-rows.ensures.size; lanes = c.logged_rows-rows.ensures.lanes; rest = c.logged_rows-rows.ensures.rest })
    c.in_ok-append_lanes.ensures.ok (g.D.Disk.device c.sync.new.disk) c.in_ok-sync.ensures.ok d3 c.commit.ensures.commits.any_moment steady))
    c.commit.ensures.commits.ok c.commit.ensures.commits.steady

pub returns-clause-logs : goal.returns-clause-logs
returns-clause-logs g c = λ s p may. record {
  any_moment = log_leaves c.args.layout.now s p c.args.committed.now (g.D.Disk.device c.args.disk.now) (g.F.NewRecords.fresh c.args.fresh.now) may
      (g.D.Disk.device c.append_lanes.new.disk) c.append_lanes.ensures.any_moment c.logged_rows-rows.result
      (record { size = c.logged_rows-rows.ensures.size; lanes = c.logged_rows-rows.ensures.lanes; rest = c.logged_rows-rows.ensures.rest })
      c.in_ok-append_lanes.ensures.ok (g.D.Disk.device c.sync.new.disk) c.in_ok-sync.ensures.ok (g.D.Disk.device c.commit.new.disk) c.commit.ensures.commits.any_moment;
  shown = log_shows c.args.layout.now s p c.args.committed.now (g.D.Disk.device c.args.disk.now) (g.F.NewRecords.fresh c.args.fresh.now) may
      (g.D.Disk.device c.append_lanes.new.disk) c.append_lanes.ensures.any_moment c.logged_rows-rows.result
      (record { size = c.logged_rows-rows.ensures.size; lanes = c.logged_rows-rows.ensures.lanes; rest = c.logged_rows-rows.ensures.rest })
      c.in_ok-append_lanes.ensures.ok (g.D.Disk.device c.sync.new.disk) c.in_ok-sync.ensures.ok (g.D.Disk.device c.commit.new.disk) c.commit.ensures.commits.any_moment;
}

pub returns-in_err-append_lanes-clause-any_sequence : goal.returns-in_err-append_lanes-clause-any_sequence
returns-in_err-append_lanes-clause-any_sequence g c =
    let r = c.requires.logs in
    append_up_to c.args.layout.now r.0 r.1 c.args.committed.now (g.D.Disk.device c.args.disk.now) (g.F.NewRecords.fresh c.args.fresh.now) r.2
    (g.D.Disk.device c.append_lanes.new.disk) c.append_lanes.ensures.any_moment

pub returns-in_err-sync-clause-any_sequence : goal.returns-in_err-sync-clause-any_sequence
returns-in_err-sync-clause-any_sequence g c =
    let r = c.requires.logs in
    sync_up_to c.args.layout.now r.0 r.1 c.args.committed.now (g.D.Disk.device c.args.disk.now) (g.F.NewRecords.fresh c.args.fresh.now) r.2
    (g.D.Disk.device c.append_lanes.new.disk) c.append_lanes.ensures.any_moment (g.D.Disk.device c.sync.new.disk) c.sync.ensures.any_moment

pub returns-clause-any_sequence : goal.returns-clause-any_sequence
returns-clause-any_sequence g c =
    let r = c.requires.logs in
    let d = g.D.Disk.device c.args.disk.now in
    let d1 = g.D.Disk.device c.append_lanes.new.disk in
    let d2 = g.D.Disk.device c.sync.new.disk in
    and_then d d2 (g.D.Disk.device c.commit.new.disk) (ShowsUpTo c.args.layout.now (c.args.committed.now.sequence + 1))
    (sync_up_to c.args.layout.now r.0 r.1 c.args.committed.now d (g.F.NewRecords.fresh c.args.fresh.now) r.2 d1 c.append_lanes.ensures.any_moment d2 (leaves_synced d1 d2 c.in_ok-sync.ensures.ok))
    c.commit.ensures.commits.takes.any_sequence

pub returns-in_err-append_lanes-clause-within : goal.returns-in_err-append_lanes-clause-within
returns-in_err-append_lanes-clause-within g c =
    let l = c.args.layout.now in
    let rows = c.args.committed.now.rows in
    let fresh = g.F.NewRecords.fresh c.args.fresh.now in
    let d = g.D.Disk.device c.args.disk.now in
    let d1 = g.D.Disk.device c.append_lanes.new.disk in
    within l d d1 (fresh_ranges l rows fresh l.lanes) (λ i clear. fresh_clear l c.requires.logs.2.consistent.limits rows fresh l.lanes i (omega arith) clear) c.append_lanes.ensures.any_moment

pub returns-in_err-sync-clause-within : goal.returns-in_err-sync-clause-within
returns-in_err-sync-clause-within g c =
    let l = c.args.layout.now in
    let rows = c.args.committed.now.rows in
    let fresh = g.F.NewRecords.fresh c.args.fresh.now in
    let d = g.D.Disk.device c.args.disk.now in
    let d1 = g.D.Disk.device c.append_lanes.new.disk in
    let d2 = g.D.Disk.device c.sync.new.disk in
    within_then (step_ranges l) d d1 d2 (within l d d1 (fresh_ranges l rows fresh l.lanes) (λ i clear. fresh_clear l c.requires.logs.2.consistent.limits rows fresh l.lanes i (omega arith) clear) c.append_lanes.ensures.any_moment) (sync_within l d1 d2 c.sync.ensures.any_moment)

pub returns-clause-within : goal.returns-clause-within
returns-clause-within g c =
    let l = c.args.layout.now in
    let rows = c.args.committed.now.rows in
    let fresh = g.F.NewRecords.fresh c.args.fresh.now in
    let d = g.D.Disk.device c.args.disk.now in
    let d1 = g.D.Disk.device c.append_lanes.new.disk in
    let d2 = g.D.Disk.device c.sync.new.disk in
    within_then (step_ranges l) d d2 (g.D.Disk.device c.commit.new.disk) (within_then (step_ranges l) d d1 d2 (within l d d1 (fresh_ranges l rows fresh l.lanes) (λ i clear. fresh_clear l c.requires.logs.2.consistent.limits rows fresh l.lanes i (omega arith) clear) c.append_lanes.ensures.any_moment) (sync_within l d1 d2 c.sync.ensures.any_moment))
    c.commit.ensures.commits.takes.within
