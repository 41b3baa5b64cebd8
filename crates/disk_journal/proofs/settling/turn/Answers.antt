use Rattle.std.proofs.Common.{add-one}
use Rattle.std.proofs.lemmas.Result.{on_ok_weaker}
use Rattle.atomic_sectors.proofs.Calculus.{syncs_is, syncs_synced, syncs_then}
use Rattle.journal_batches.proofs.MixLemmas.{old_between}
use Rattle.disk_journal.proofs.SettlingLemmas.{reads_flushed, turn_done, turn_half, turn_home, turn_leaves, turn_rests}
use Rattle.disk_journal.proofs.settling.turn.Goals as goal

pub returns-in_err-write_batch-clause-left : goal.returns-in_err-write_batch-clause-left
returns-in_err-write_batch-clause-left g c =
    turn_leaves c.requires.rest c.requires.spells (turn_half c.requires.rest c.requires.spells (add-one c.args.stamp) c.write_batch.ensures.between)

pub returns-in_err-bring_home-clause-left : goal.returns-in_err-bring_home-clause-left
returns-in_err-bring_home-clause-left g c =
    let mid = g.D.Disk.device c.write_batch.new.disk in
    let new = g.D.Disk.device c.bring_home.new.disk in
    let one = add-one c.args.stamp in
    turn_leaves c.requires.rest c.requires.spells
    (turn_home c.requires.rest c.requires.spells mid new one c.in_ok-write_batch.ensures.ok c.bring_home.ensures.between
    (turn_half c.requires.rest c.requires.spells one c.write_batch.ensures.between))

pub returns-clause-left : goal.returns-clause-left
returns-clause-left g c =
    let mid = g.D.Disk.device c.write_batch.new.disk in
    let new = g.D.Disk.device c.bring_home.new.disk in
    let one = add-one c.args.stamp in
    turn_leaves c.requires.rest c.requires.spells
    (reads_flushed c.flush.result c.flush.ensures.ok c.flush.ensures.err (old_between _ _ _)
    (turn_home c.requires.rest c.requires.spells mid new one c.in_ok-write_batch.ensures.ok c.bring_home.ensures.between
    (turn_half c.requires.rest c.requires.spells one c.write_batch.ensures.between)))

pub returns-clause-image : goal.returns-clause-image
returns-clause-image g c =
    let mid = g.D.Disk.device c.write_batch.new.disk in
    let new = g.D.Disk.device c.bring_home.new.disk in
    let done = turn_done c.requires.rest c.requires.spells mid new (add-one c.args.stamp) c.in_ok-write_batch.ensures.ok c.in_ok-bring_home.ensures.ok in
    on_ok_weaker c.flush.result (λ ok. (turn_rests c.requires.rest c.requires.spells new c.requires.own ok done).0) c.flush.ensures.ok

pub returns-clause-rest : goal.returns-clause-rest
returns-clause-rest g c =
    let mid = g.D.Disk.device c.write_batch.new.disk in
    let new = g.D.Disk.device c.bring_home.new.disk in
    let done = turn_done c.requires.rest c.requires.spells mid new (add-one c.args.stamp) c.in_ok-write_batch.ensures.ok c.in_ok-bring_home.ensures.ok in
    on_ok_weaker c.flush.result (λ ok. (turn_rests c.requires.rest c.requires.spells new c.requires.own ok done).1) c.flush.ensures.ok

pub returns-clause-one_sync : goal.returns-clause-one_sync
returns-clause-one_sync g c =
    let none = syncs_then c.write_batch.ensures.syncs c.bring_home.ensures.syncs in
    on_ok_weaker c.flush.result (λ ok. syncs_is (syncs_synced none) ok) c.flush.ensures.ok
