use Rattle.std.proofs.Common.{◌≡◌, ℕ, ◌+◌, ◌*◌, ◌≤◌, length, subst, refl, rules, arith}
use Rattle.block_disk.specs.Device.{HasFailed}
use Rattle.disk_journal.specs.Disks.{Layered}
use Rattle.disk_journal.specs.Kept.{AreWithin}
use Rattle.disk_journal.proofs.KeptLemmas.{failed_more, kept_written}
use Rattle.disk_journal.proofs.journaled.JournaledDisk.write_at.Goals as goal

pub returns-then-not-is_noted-clause-cause : goal.returns-then-not-is_noted-clause-cause
returns-then-not-is_noted-clause-cause g c = λ fault.
    subst (λ (l : Layered). HasFailed l.device.failures c.fail-then-not-is_noted.new.failures) c.self.view_is
    (failed_more c.self.inside.failures c.fail-then-not-is_noted.new.failures (omega arith) c.fail-then-not-is_noted.ensures.counted)

pub invariant_of-self-2 : goal.invariant_of-self-2
invariant_of-self-2 g c =
    let d = c.self.inside in
    let fits : c.args.at + length c.args.bytes.now ≤ length d.image.items = search rules in
    let size : c.len-2.result ≡ d.areas.image * 4096 = omega (arith, c.self.invariant.0.size, c.len-2.ensures) in
    rw (c.put.ensures, c.write.ensures) (
      kept_written d.areas d.second d.stamp d.last.items d.touched.items c.note_write-is_noted.new.touched.items d.is_over d.image.items
          d.trace.past.device.now
          (g.D.Disk.device d.disk)
          c.args.at c.args.bytes.now fits (subst (λ (n : ℕ). AreWithin n c.note_write-is_noted.new.touched.items) size c.note_write-is_noted.ensures.within)
          (c.if-not-is_noted.ensures.all refl)
          c.self.invariant.0,
      λ works. c.note_write-is_noted.ensures.room,
    )
