use Rattle.std.proofs.Common.{subst}
use Rattle.block_disk.specs.Images.{Always}
use Rattle.disk_sectors.specs.Disks.{Layered}
use Rattle.disk_sectors.specs.Places.{Shows}
use Rattle.disk_sectors.specs.Size.{sector}
use Rattle.disk_sectors.proofs.TwoAreas.{always_shows}
use Rattle.disk_sectors.proofs.two_places.TwoPlaces.possible_law.Goals as goal

pub returns : goal.returns
returns g c =
    let d = c.self.inside in
    subst (λ (l : Layered). Always l.sectors (Shows l.size l.count (sector l.size 0 l.sectors.now.bytes) l.device.now)) c.self.view_is
    (always_shows d.size d.gate.is_firm d.gate.turn d.fresh d.stale d.image.items d.trace.past.device.now (g.S.Sectors.device d.sectors) c.self.invariant.1)
