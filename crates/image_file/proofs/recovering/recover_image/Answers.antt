use Rattle.std.proofs.Common.{◌≡◌, subst, sym}
use Rattle.block_disk.specs.Device.{Device, synced}
use Rattle.block_disk.specs.Images.{LeavesOnly}
use Rattle.recover.specs.Recovery.{IsMadeBy, IsOnTheWay}
use Rattle.image_file.proofs.ReportLemmas.{text_is}
use Rattle.image_file.proofs.recovering.recover_image.Goals as goal

pub returns-clause-ok : goal.returns-clause-ok
returns-clause-ok g c =
    let old = g.D.Disk.device c.args.disk in
    let found = c.in-Ok.found.0 in
    let recovery = c.in-Ok.ensures.ok in
    let parts = c.into_parts-parts.ensures in
    let disks : g.D.Disk.device c.into_parts-parts.result.disk ≡ g.D.Disk.device found.disk = λ i. g.D.Disk.device (parts.disk i) in
    record {
      taken = c.in-Ok.ensures.taken;
      study = recovery.study;
      of = recovery.of;
      made = subst (λ (d : Device). IsMadeBy recovery.study old d) (sym disks) recovery.made;
      text_is = text_is old (g.D.Disk.device found.disk) found c.in-Ok.found.1 recovery _ _ parts.heap parts.layout;
    }

pub returns-clause-durable : goal.returns-clause-durable
returns-clause-durable g c = c.into_parts-parts.ensures.recovered.durable

pub returns-clause-any_moment : goal.returns-clause-any_moment
returns-clause-any_moment g c = λ s of.
    let disks : g.D.Disk.device c.into_parts-parts.result.disk ≡ g.D.Disk.device c.in-Ok.found.0.disk = λ i. g.D.Disk.device (c.into_parts-parts.ensures.disk i) in
    subst (λ (d : Device). LeavesOnly (synced (g.D.Disk.device c.args.disk)) d (IsOnTheWay s)) (sym disks) (c.in-Ok.ensures.any_moment s of)
