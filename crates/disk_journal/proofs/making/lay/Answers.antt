use Rattle.std.proofs.Common.{◌≡◌, ◌∙◌, ◌<◌, ◌≤◌, ℕ, [], List, ap, get_or, length, subst, sym, arith}
use Rattle.std.proofs.lemmas.Result.{on_ok_weaker}
use Rattle.block_disk.specs.Device.{Device}
use Rattle.block_disk.proofs.Ranges.{outside_refl}
use Rattle.atomic_sectors.proofs.Calculus.{syncs_is, syncs_synced, syncs_then}
use Rattle.journal_batches.specs.Areas.{room_of}
use Rattle.journal_batches.specs.Spelled.{spelled}
use Rattle.disk_journal.specs.Made.{IsLaid}
use Rattle.disk_journal.proofs.MakingLemmas.{area_batch, area_now, content_fits, laid_by}
use Rattle.disk_journal.proofs.SettlingLemmas.{reads_flushed}
use Rattle.disk_journal.proofs.making.lay.Goals as goal

pub returns-in_err-write_batch-clause-area : goal.returns-in_err-write_batch-clause-area
returns-in_err-write_batch-clause-area g c =
    area_batch c.args.areas (spelled 2 []) c.requires.room (content_fits c.args.areas c.requires.half)
    (reads_flushed c.flush.result c.flush.ensures.ok c.flush.ensures.err (outside_refl _ _) c.fill.ensures.area) c.write_batch.ensures.between

pub returns-clause-area : goal.returns-clause-area
returns-clause-area g c =
    reads_flushed c.flush-2.result c.flush-2.ensures.ok c.flush-2.ensures.err (outside_refl _ _)
    (area_batch c.args.areas (spelled 2 []) c.requires.room (content_fits c.args.areas c.requires.half)
    (reads_flushed c.flush.result c.flush.ensures.ok c.flush.ensures.err (outside_refl _ _) c.fill.ensures.area) c.write_batch.ensures.between)

pub returns-clause-ok : goal.returns-clause-ok
returns-clause-ok g c =
    let filled = g.D.Disk.device c.fill.new.disk in
    let mid = g.D.Disk.device c.flush.new.disk in
    let same : mid.now.bytes ≡ filled.now.bytes = ap (λ (d : Device). d.now.bytes) c.in_ok-flush.ensures.ok in
    let room : room_of c.args.areas ≤ length mid.now.bytes = omega (arith, c.requires.room, (area_now c.args.areas c.fill.ensures.area).size, ap length same) in
    let laid = laid_by c.args.areas c.requires.half mid.now.bytes room
    (subst (λ (xs : List ℕ). (i : ℕ) → 4096 ≤ i → i < room_of c.args.areas → get_or xs i 0 ≡ 0) (sym same) c.in_ok-fill.ensures.ok) in
    on_ok_weaker c.flush-2.result
    (λ ok. subst (IsLaid c.args.areas) (sym (ap (λ (d : Device). d.now.bytes) ok ∙ c.in_ok-write_batch.ensures.ok)) laid)
    c.flush-2.ensures.ok

pub returns-clause-syncs : goal.returns-clause-syncs
returns-clause-syncs g c =
    let one = syncs_is (syncs_synced c.in_ok-fill.ensures.syncs) c.in_ok-flush.ensures.ok in
    on_ok_weaker c.flush-2.result (λ ok. syncs_is (syncs_synced (syncs_then one c.write_batch.ensures.syncs)) ok) c.flush-2.ensures.ok
