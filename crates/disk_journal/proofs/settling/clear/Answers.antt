use Rattle.std.proofs.Common.{◌+◌, not, []}
use Rattle.std.proofs.lemmas.Result.{on_ok_weaker}
use Rattle.atomic_sectors.proofs.Calculus.{leaves_then, syncs_is, syncs_synced, syncs_then}
use Rattle.journal_batches.specs.Shown.{shown}
use Rattle.journal_batches.specs.Spelled.{spelled}
use Rattle.journal_batches.proofs.MixLemmas.{old_between}
use Rattle.journal_batches.proofs.TurnLemmas.{spelled_fits}
use Rattle.disk_journal.proofs.SettlingLemmas.{bring_done, bring_leaves, clear_home, clear_leaves, reads_flushed, reads_half, reads_home}
use Rattle.disk_journal.proofs.settling.clear.Goals as goal

pub returns-in_err-bring_home-clause-left : goal.returns-in_err-bring_home-clause-left
returns-in_err-bring_home-clause-left g c =
    let brings = c.requires.brings in
    let image = shown c.args.areas (g.D.Disk.device c.args.disk.now).now.bytes in
    bring_leaves brings c.requires.room c.requires.durable (reads_home c.args.areas image c.requires.room brings.size (c.bring_home.ensures.between image brings))

pub returns-in_err-flush-clause-left : goal.returns-in_err-flush-clause-left
returns-in_err-flush-clause-left g c =
    let brings = c.requires.brings in
    let image = shown c.args.areas (g.D.Disk.device c.args.disk.now).now.bytes in
    bring_leaves brings c.requires.room c.requires.durable
    (reads_flushed c.flush.result c.flush.ensures.ok c.flush.ensures.err (old_between _ _ _)
    (reads_home c.args.areas image c.requires.room brings.size (c.bring_home.ensures.between image brings)))

pub write_batch-requires-clause-room : goal.write_batch-requires-clause-room
write_batch-requires-clause-room g c =
    let image = shown c.args.areas (g.D.Disk.device c.args.disk.now).now.bytes in
    let mid = g.D.Disk.device c.bring_home.new.disk in
    let brought = c.in_ok-bring_home.ensures.ok image c.requires.brings in
    let b = bring_done c.requires.brings c.requires.room mid c.requires.newest c.requires.top c.in_ok-flush.ensures.ok brought in
    b.room

pub returns-in_err-write_batch-clause-left : goal.returns-in_err-write_batch-clause-left
returns-in_err-write_batch-clause-left g c =
    let brings = c.requires.brings in
    let content = spelled (c.args.top + 2) [] in
    let image = shown c.args.areas (g.D.Disk.device c.args.disk.now).now.bytes in
    let mid = g.D.Disk.device c.bring_home.new.disk in
    let b = bring_done brings c.requires.room mid c.requires.newest c.requires.top c.in_ok-flush.ensures.ok (c.in_ok-bring_home.ensures.ok image brings) in
    leaves_then
    (bring_leaves brings c.requires.room c.requires.durable
    (reads_flushed c.flush.result c.flush.ensures.ok c.flush.ensures.err (old_between _ _ _)
    (reads_home c.args.areas image c.requires.room brings.size (c.bring_home.ensures.between image brings))))
    (clear_leaves b c.requires.spells
    (reads_half c.args.areas (not c.args.second) content b.room (spelled_fits c.args.areas (c.args.top + 2) [] c.requires.spells) c.write_batch.ensures.between))

pub returns-clause-left : goal.returns-clause-left
returns-clause-left g c =
    let brings = c.requires.brings in
    let content = spelled (c.args.top + 2) [] in
    let image = shown c.args.areas (g.D.Disk.device c.args.disk.now).now.bytes in
    let mid = g.D.Disk.device c.bring_home.new.disk in
    let b = bring_done brings c.requires.room mid c.requires.newest c.requires.top c.in_ok-flush.ensures.ok (c.in_ok-bring_home.ensures.ok image brings) in
    leaves_then
    (bring_leaves brings c.requires.room c.requires.durable
    (reads_flushed c.flush.result c.flush.ensures.ok c.flush.ensures.err (old_between _ _ _)
    (reads_home c.args.areas image c.requires.room brings.size (c.bring_home.ensures.between image brings))))
    (clear_leaves b c.requires.spells
    (reads_flushed c.flush-2.result c.flush-2.ensures.ok c.flush-2.ensures.err (old_between _ _ _)
    (reads_half c.args.areas (not c.args.second) content b.room (spelled_fits c.args.areas (c.args.top + 2) [] c.requires.spells) c.write_batch.ensures.between)))

pub returns-clause-image : goal.returns-clause-image
returns-clause-image g c =
    let image = shown c.args.areas (g.D.Disk.device c.args.disk.now).now.bytes in
    let mid = g.D.Disk.device c.bring_home.new.disk in
    let late = g.D.Disk.device c.write_batch.new.disk in
    let brought = c.in_ok-bring_home.ensures.ok image c.requires.brings in
    let b = bring_done c.requires.brings c.requires.room mid c.requires.newest c.requires.top c.in_ok-flush.ensures.ok brought in
    on_ok_weaker c.flush-2.result (λ ok. (clear_home b c.requires.spells late ok c.in_ok-write_batch.ensures.ok).0) c.flush-2.ensures.ok

pub returns-clause-home : goal.returns-clause-home
returns-clause-home g c =
    let image = shown c.args.areas (g.D.Disk.device c.args.disk.now).now.bytes in
    let mid = g.D.Disk.device c.bring_home.new.disk in
    let late = g.D.Disk.device c.write_batch.new.disk in
    let brought = c.in_ok-bring_home.ensures.ok image c.requires.brings in
    let b = bring_done c.requires.brings c.requires.room mid c.requires.newest c.requires.top c.in_ok-flush.ensures.ok brought in
    on_ok_weaker c.flush-2.result (λ ok. (clear_home b c.requires.spells late ok c.in_ok-write_batch.ensures.ok).1) c.flush-2.ensures.ok

pub returns-clause-two_syncs : goal.returns-clause-two_syncs
returns-clause-two_syncs g c =
    let one = syncs_is (syncs_synced c.bring_home.ensures.syncs) c.in_ok-flush.ensures.ok in
    on_ok_weaker c.flush-2.result (λ ok. syncs_is (syncs_synced (syncs_then one c.write_batch.ensures.syncs)) ok) c.flush-2.ensures.ok
