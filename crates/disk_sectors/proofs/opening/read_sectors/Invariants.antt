use Rattle.std.proofs.Common.{◌≡◌, ℕ, ◌+◌, ◌<◌, length}
use Rattle.block_disk.specs.Device.{SameMoments}
use Rattle.disk_sectors.specs.Size.{place_of, sector}
use Rattle.disk_sectors.proofs.opening.read_sectors.Given as goal

-- the sectors so far were read
abbrev pub invariant-loop-i : goal.invariant-loop-i
invariant-loop-i g l = record {
  size : g.S.Sectors.of_size l.sectors ≡ l.size;
  same : SameMoments (g.S.Sectors.device l.fn.sectors) (g.S.Sectors.device l.sectors);
  long : length l.image ≡ place_of l.size l.count;
  all : (j : ℕ) → j < l.i → sector l.size (l.first + j) (g.S.Sectors.device l.fn.sectors).now.bytes ≡ sector l.size j l.image;
}
