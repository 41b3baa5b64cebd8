use Rattle.std.proofs.lemmas.Result.{on_ok_weaker}
use Rattle.atomic_sectors.proofs.Calculus.{syncs_is, syncs_synced}
use Rattle.journal_batches.proofs.MixLemmas.{old_between}
use Rattle.disk_journal.proofs.SettlingLemmas.{pass_home, pass_leaves, reads_flushed, reads_home}
use Rattle.disk_journal.proofs.settling.pass.Goals as goal

pub returns-in_err-bring_home-clause-left : goal.returns-in_err-bring_home-clause-left
returns-in_err-bring_home-clause-left g c = λ image brings.
    pass_leaves c.requires.home image brings.size
    (reads_home c.args.areas image c.requires.home.cleared.rests.room brings.size (c.bring_home.ensures.between image brings))

pub returns-clause-left : goal.returns-clause-left
returns-clause-left g c = λ image brings.
    pass_leaves c.requires.home image brings.size
    (reads_flushed c.flush.result c.flush.ensures.ok c.flush.ensures.err (old_between _ _ _)
    (reads_home c.args.areas image c.requires.home.cleared.rests.room brings.size (c.bring_home.ensures.between image brings)))

pub returns-clause-image : goal.returns-clause-image
returns-clause-image g c = λ image brings.
    let mid = g.D.Disk.device c.bring_home.new.disk in
    on_ok_weaker c.flush.result (λ ok. (pass_home c.requires.home image brings.size mid ok (c.in_ok-bring_home.ensures.ok image brings)).0) c.flush.ensures.ok

pub returns-clause-home : goal.returns-clause-home
returns-clause-home g c = λ image brings.
    let mid = g.D.Disk.device c.bring_home.new.disk in
    on_ok_weaker c.flush.result (λ ok. (pass_home c.requires.home image brings.size mid ok (c.in_ok-bring_home.ensures.ok image brings)).1) c.flush.ensures.ok

pub returns-clause-one_sync : goal.returns-clause-one_sync
returns-clause-one_sync g c = on_ok_weaker c.flush.result (λ ok. syncs_is (syncs_synced c.bring_home.ensures.syncs) ok) c.flush.ensures.ok
