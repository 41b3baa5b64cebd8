use Rattle.std.proofs.Common.{◌≡◌, ◌<◌, ◌≤◌, ◌+◌, ◌*◌, ℕ, get_or}
use Rattle.atomic_sectors.specs.Left.{MakesSyncs}
use Rattle.disk_journal.specs.Made.{ChangesArea}
use Rattle.disk_journal.proofs.making.fill.Given as goal

-- the pages so far are zeros
abbrev pub invariant-loop-page : goal.invariant-loop-page
invariant-loop-page g l = record {
  area : ChangesArea l.fn.areas (g.D.Disk.device l.fn.disk) (g.D.Disk.device l.disk);
  zeros : (i : ℕ) → 4096 ≤ i → i < 4096 + l.page * 4096 → get_or (g.D.Disk.device l.disk).now.bytes i 0 ≡ 0;
  syncs : MakesSyncs 0 (g.D.Disk.device l.fn.disk) (g.D.Disk.device l.disk);
  failures : (g.D.Disk.device l.disk).failures ≡ (g.D.Disk.device l.fn.disk).failures;
}
