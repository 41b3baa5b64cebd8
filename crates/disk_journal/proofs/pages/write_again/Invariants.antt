use Rattle.std.proofs.Common.{◌≡◌, ◌*◌, ℕ}
use Rattle.atomic_sectors.specs.Left.{MakesSyncs, Reads}
use Rattle.disk_journal.specs.Steps.{ArePending, IsPending}
use Rattle.disk_journal.proofs.pages.write_again.Given as goal

-- the device reads as before, and the pages so far are pending
abbrev pub invariant-loop-page : goal.invariant-loop-page
invariant-loop-page g l = record {
  reads : Reads (λ bytes. bytes ≡ (g.D.Disk.device l.fn.disk).now.bytes) (g.D.Disk.device l.fn.disk) (g.D.Disk.device l.disk);
  same : (g.D.Disk.device l.disk).now.bytes ≡ (g.D.Disk.device l.fn.disk).now.bytes;
  pending : ArePending l.at (l.page * 4096) (g.D.Disk.device l.disk);
  others : (i : ℕ) → IsPending i (g.D.Disk.device l.fn.disk) → IsPending i (g.D.Disk.device l.disk);
  syncs : MakesSyncs 0 (g.D.Disk.device l.fn.disk) (g.D.Disk.device l.disk);
  failures : (g.D.Disk.device l.disk).failures ≡ (g.D.Disk.device l.fn.disk).failures;
}
