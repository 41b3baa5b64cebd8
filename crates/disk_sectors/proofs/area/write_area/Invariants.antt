use Rattle.std.proofs.Common.{◌≡◌}
use Rattle.disk_sectors.proofs.Filling.{Filled}
use Rattle.disk_sectors.proofs.area.write_area.Given as goal

-- the sectors so far hold what the image does
abbrev pub invariant-loop-i : goal.invariant-loop-i
invariant-loop-i g l = (g.S.Sectors.of_size l.sectors ≡ l.size)
    × Filled l.size l.first l.i l.marks l.image (g.S.Sectors.device l.fn.sectors) (g.S.Sectors.device l.sectors)
