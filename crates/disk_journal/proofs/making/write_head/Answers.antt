use Rattle.std.proofs.Common.{inl, inr, refl}
use Rattle.std.proofs.lemmas.Result.{on_ok_weaker}
use Rattle.atomic_sectors.proofs.Calculus.{reads_begin, reads_is, reads_untorn, reads_written, syncs_begin, syncs_is, syncs_synced, syncs_written}
use Rattle.disk_journal.proofs.SettlingLemmas.{reads_flushed}
use Rattle.disk_journal.proofs.making.write_head.Goals as goal

pub returns-in_err-write_untorn-clause-head : goal.returns-in_err-write_untorn-clause-head
returns-in_err-write_untorn-clause-head g c = reads_untorn reads_begin (inl refl) c.in_err-write_untorn.ensures.err

pub returns-clause-head : goal.returns-clause-head
returns-clause-head g c =
    reads_flushed c.flush.result c.flush.ensures.ok c.flush.ensures.err (inl refl)
    (reads_is (reads_written 0 c.args.sector.now reads_begin (inr refl)) c.in_ok-write_untorn.ensures.ok)

pub returns-clause-syncs : goal.returns-clause-syncs
returns-clause-syncs g c =
    let none = syncs_is (syncs_written 0 c.args.sector.now syncs_begin) c.in_ok-write_untorn.ensures.ok in
    on_ok_weaker c.flush.result (λ ok. syncs_is (syncs_synced none) ok) c.flush.ensures.ok
