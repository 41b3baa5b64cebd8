use Rattle.std.proofs.Common.{◌≡◌, ◌*◌, ℕ, false, length, ap, subst, sym, ◌∙◌, arith}
use Rattle.block_disk.specs.Device.{HasFailed}
use Rattle.block_disk.specs.Traced.{Traced}
use Rattle.atomic_sectors.specs.Left.{LeavesWhole, MakesSyncs}
use Rattle.atomic_sectors.proofs.Calculus.{leaves_begin}
use Rattle.disk_journal.specs.Disks.{FitsBatch, Layered, ShowsDisk, ShowsOldOrNew}
use Rattle.disk_journal.specs.Kept.{AreWithin, words_among}
use Rattle.disk_journal.proofs.KeptLemmas.{failed_more, kept_failed, kept_settled, sync_fits, sync_image, sync_own, sync_past, sync_possible, sync_turned}
use Rattle.disk_journal.proofs.WordLemmas.{none_among}
use Rattle.disk_journal.proofs.journaled.JournaledDisk.sync.Goals as goal

-- ---- the disk writes no more ----

pub returns-then-self-clause-old_or_new : goal.returns-then-self-clause-old_or_new
returns-then-self-clause-old_or_new g c =
    subst (λ (l : Layered). FitsBatch l → l.is_over ≡ false → LeavesWhole l.disk (g.D.Disk.device c.self.inside.disk) (ShowsOldOrNew l)) c.self.view_is
    (λ fits works. leaves_begin)

-- ---- the device is called ----

pub gather-requires-clause-within : goal.gather-requires-clause-within
gather-requires-clause-within g c =
    let size : length c.deref.result.now ≡ c.self.inside.areas.image * 4096 = ap length c.deref.ensures.value ∙ c.self.invariant.0.size in
    subst (λ (n : ℕ). AreWithin n c.self.inside.touched.items) (sym size) (c.self.invariant.0.works c.if-self.false).within

pub go_on-requires-clause-places : goal.go_on-requires-clause-places
go_on-requires-clause-places g c = (c.self.invariant.0.works c.if-self.false).places

pub go_on-requires-clause-own : goal.go_on-requires-clause-own
go_on-requires-clause-own g c =
    sync_own c.self.invariant.0 c.if-self.false c.gather.new.next.items c.replay_law.ensures c.deref.ensures.value c.gather.ensures.own c.gather.ensures.all

pub invariant_of-self-in-Err : goal.invariant_of-self-in-Err
invariant_of-self-in-Err g c =
    let d = c.self.inside in (
      kept_failed d.areas d.second c.go_on.new.second d.stamp c.go_on.new.stamp d.last.items c.go_on.new.last.items d.touched.items
          c.gather.new.touched.items d.is_over d.image.items d.trace.past.device.now (g.D.Disk.device d.disk) (g.D.Disk.device c.go_on.new.disk)
          c.self.invariant.0
          (sync_possible c.self.invariant.0 c.if-self.false c.gather.new.next.items c.replay_law.ensures c.deref.ensures.value c.gather.ensures.own c.gather.ensures.all c.go_on.ensures.left),
      λ works. absurd (cc),
    )

pub returns-in-Err-clause-cause : goal.returns-in-Err-clause-cause
returns-in-Err-clause-cause g c = λ fault.
    subst (λ (l : Layered). HasFailed l.device.failures c.fail-in-Err.new.failures) c.self.view_is
    (failed_more c.self.inside.failures c.fail-in-Err.new.failures (omega arith) c.fail-in-Err.ensures.counted)

pub returns-in-Err-clause-any_moment : goal.returns-in-Err-clause-any_moment
returns-in-Err-clause-any_moment g c =
    subst (λ (l : Layered). LeavesWhole l.disk (g.D.Disk.device c.go_on.new.disk) (ShowsDisk l)) c.self.view_is
    (sync_possible c.self.invariant.0 c.if-self.false c.gather.new.next.items c.replay_law.ensures c.deref.ensures.value c.gather.ensures.own c.gather.ensures.all c.go_on.ensures.left)

pub returns-in-Err-clause-old_or_new : goal.returns-in-Err-clause-old_or_new
returns-in-Err-clause-old_or_new g c =
    let k = c.self.invariant.0 in
    let law = c.replay_law.ensures in
    let is = c.deref.ensures.value in
    let gathered = c.gather.ensures in
    subst (λ (l : Layered). FitsBatch l → l.is_over ≡ false → LeavesWhole l.disk (g.D.Disk.device c.go_on.new.disk) (ShowsOldOrNew l)) c.self.view_is
    (λ fits works. sync_turned k works c.gather.new.next.items law is gathered.own gathered.all (c.go_on.ensures.turned (sync_fits k works c.gather.new.next.items law is gathered.own gathered.all gathered.count fits)))

-- ---- all is durable ----

pub invariant_of-self-2 : goal.invariant_of-self-2
invariant_of-self-2 g c =
    let d = c.self.inside in
    let k = c.self.invariant.0 in
    let is = sync_image k c.if-self.false c.gather.new.next.items c.replay_law.ensures c.deref.ensures.value c.gather.ensures.own c.gather.ensures.all in
    rw (c.if-self.false, c.clear.ensures.items, c.sync.ensures) (
      kept_settled d.areas c.go_on.new.second c.go_on.new.stamp c.go_on.new.last.items d.image.items d.trace.past.device.now.bytes
          (g.D.Disk.device c.go_on.new.disk) k.bytes k.size
          c.in-Ok.ensures.rest c.in-Ok.ensures.places (c.in-Ok.ensures.image ∙ is),
      λ works. record { none = c.in-Ok.ensures.none.0; zero = c.in-Ok.ensures.none.1; room = omega (arith, c.clear.ensures.len) },
    )

pub returns-clause-any_moment : goal.returns-clause-any_moment
returns-clause-any_moment g c =
    subst (λ (l : Layered). LeavesWhole l.disk (g.D.Disk.device c.go_on.new.disk) (ShowsDisk l)) c.self.view_is
    (sync_possible c.self.invariant.0 c.if-self.false c.gather.new.next.items c.replay_law.ensures c.deref.ensures.value c.gather.ensures.own c.gather.ensures.all c.go_on.ensures.left)

pub returns-clause-old_or_new : goal.returns-clause-old_or_new
returns-clause-old_or_new g c =
    let k = c.self.invariant.0 in
    let law = c.replay_law.ensures in
    let is = c.deref.ensures.value in
    let gathered = c.gather.ensures in
    subst (λ (l : Layered). FitsBatch l → l.is_over ≡ false → LeavesWhole l.disk (g.D.Disk.device c.go_on.new.disk) (ShowsOldOrNew l)) c.self.view_is
    (λ fits works. sync_turned k works c.gather.new.next.items law is gathered.own gathered.all (c.go_on.ensures.turned (sync_fits k works c.gather.new.next.items law is gathered.own gathered.all gathered.count fits)))

pub returns-clause-one_sync : goal.returns-clause-one_sync
returns-clause-one_sync g c =
    subst (λ (l : Layered). FitsBatch l → MakesSyncs 1 l.disk (g.D.Disk.device c.go_on.new.disk)) c.self.view_is
    (λ fits.
    c.in-Ok.ensures.one_sync
    (sync_fits c.self.invariant.0 c.if-self.false c.gather.new.next.items c.replay_law.ensures c.deref.ensures.value c.gather.ensures.own c.gather.ensures.all c.gather.ensures.count fits))

pub returns-clause-three_syncs : goal.returns-clause-three_syncs
returns-clause-three_syncs g c =
    subst (λ (l : Layered). ¬ FitsBatch l → MakesSyncs 3 l.disk (g.D.Disk.device c.go_on.new.disk)) c.self.view_is
    (λ many.
    c.in-Ok.ensures.three_syncs
    (sync_past c.self.invariant.0 c.if-self.false c.gather.new.next.items c.replay_law.ensures c.deref.ensures.value c.gather.ensures.own c.gather.ensures.all c.gather.ensures.count many))

pub returns-clause-settled : goal.returns-clause-settled
returns-clause-settled g c =
    let k = c.self.invariant.0 in
    let is = sync_image k c.if-self.false c.gather.new.next.items c.replay_law.ensures c.deref.ensures.value c.gather.ensures.own c.gather.ensures.all in
    record {
      durable = c.in-Ok.ensures.rest.durable;
      image = c.in-Ok.ensures.image ∙ is ∙ sym k.bytes ∙ sym (ap (λ (t : Traced). t.device.now.bytes) c.sync.ensures);
      waiting =
          let n = c.self.inside.areas.image * 512 in ap (words_among n) c.clear.ensures.items ∙ none_among n;
    }
