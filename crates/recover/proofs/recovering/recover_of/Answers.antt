use Rattle.std.proofs.Common.{◌≡◌, ◌≤◌, ◌∙◌, refl, sym, subst}
use Rattle.block_disk.specs.Device.{Device, synced}
use Rattle.block_disk.specs.Images.{LeavesOnly}
use Rattle.recover.specs.Recovery.{IsMadeBy, IsOnTheWay}
use Rattle.recover.proofs.recovering.recover_of.Goals as goal

pub returns-in-Ok-clause-ok : goal.returns-in-Ok-clause-ok
returns-in-Ok-clause-ok g c =
    let study = c.in-Ok.study in
    let is = c.of-recovered.ensures in
    let disks : g.D.Disk.device c.of-recovered.result.disk ≡ g.D.Disk.device c.recover_in_place.new.disk = λ i. g.D.Disk.device (is i).disk in
    record {
      study = study;
      of = c.in-Ok.ensures.ok;
      layout_is = λ i. (is i).layout;
      guards_are = λ i. (is i).guards;
      slot_is = (λ i. (is i).slot) ∙ c.other.ensures;
      sequence_is = λ i. (is i).sequence;
      heap_is = λ i. (is i).heap;
      report_is = refl;
      made = subst (λ (d : Device). IsMadeBy study (g.D.Disk.device c.args.disk) d) (sym disks) c.in-Ok.ensures.made;
    }

pub returns-in-Ok-clause-any_moment : goal.returns-in-Ok-clause-any_moment
returns-in-Ok-clause-any_moment g c = λ s of.
    let is = c.of-recovered.ensures in
    let disks : g.D.Disk.device c.of-recovered.result.disk ≡ g.D.Disk.device c.recover_in_place.new.disk = λ i. g.D.Disk.device (is i).disk in
    subst (λ (d : Device). LeavesOnly (synced (g.D.Disk.device c.args.disk)) d (IsOnTheWay s)) (sym disks) (c.in-Ok.ensures.any_moment s of)

pub returns-in-Ok-clause-failures : goal.returns-in-Ok-clause-failures
returns-in-Ok-clause-failures g c =
    let is = c.of-recovered.ensures in
    let disks : g.D.Disk.device c.of-recovered.result.disk ≡ g.D.Disk.device c.recover_in_place.new.disk = λ i. g.D.Disk.device (is i).disk in
    subst (λ (d : Device). (g.D.Disk.device c.args.disk).failures ≤ d.failures) (sym disks) c.recover_in_place.ensures.cause.later
