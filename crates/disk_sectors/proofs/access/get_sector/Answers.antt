use Rattle.std.proofs.Common.{◌≡◌, ◌+◌, ◌≤◌, length, IsErrOf, OnOk, sym, ◌∙◌, ap, subst}
use Rattle.disk_sectors.specs.declared.error.SectorError.TheVariants.{Unreadable}
use Rattle.disk_sectors.specs.declared.size.SectorSize.{SectorSize}
use Rattle.disk_sectors.specs.Readable.{IsLost}
use Rattle.disk_sectors.specs.Size.{bytes_in, place_of, sector}
use Rattle.disk_sectors.proofs.access.get_sector.Goals as goal

pub read_sector-requires-clause-whole : goal.read_sector-requires-clause-whole
read_sector-requires-clause-whole g c = c.requires.whole ∙ ap bytes_in (sym c.requires.size)

pub read_sector-requires-clause-fits : goal.read_sector-requires-clause-fits
read_sector-requires-clause-fits g c =
    subst (λ (s : SectorSize). place_of s c.args.number + bytes_in s ≤ length (g.S.Sectors.device c.args.sectors.now).now.bytes) (sym c.requires.size) c.requires.fits

pub returns-clause-ok : goal.returns-clause-ok
returns-clause-ok g c =
    let bytes = (g.S.Sectors.device c.args.sectors.now).now.bytes in
    subst (λ (s : SectorSize). OnOk c.read_sector.result (c.read_sector.new.out ≡ sector s c.args.number bytes)) c.requires.size c.read_sector.ensures.ok

pub returns-clause-unreadable : goal.returns-clause-unreadable
returns-clause-unreadable g c =
    let bytes = (g.S.Sectors.device c.args.sectors.now).now.bytes in
    subst (λ (s : SectorSize). IsErrOf c.read_sector.result Unreadable → IsLost (sector s c.args.number bytes)) c.requires.size c.read_sector.ensures.unreadable
