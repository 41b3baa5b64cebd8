use Rattle.std.proofs.Common.{◌≡◌, ◌⊎◌, ◌+◌, ◌≤◌, length, sym, ◌∙◌, ap, subst, rules}
use Rattle.block_disk.specs.Device.{SameMoments, TornWrite, written}
use Rattle.block_disk.proofs.Images.{leaves_torn}
use Rattle.disk_sectors.specs.declared.size.SectorSize.{SectorSize}
use Rattle.disk_sectors.specs.Size.{bytes_in, place_of}
use Rattle.disk_sectors.proofs.Calls.{torn_sector, failed_sector, same_but}
use Rattle.disk_sectors.proofs.access.put_sector.Goals as goal

pub write_sector-requires-clause-whole : goal.write_sector-requires-clause-whole
write_sector-requires-clause-whole g c = c.requires.whole ∙ ap bytes_in (sym c.requires.size)

pub write_sector-requires-clause-fits : goal.write_sector-requires-clause-fits
write_sector-requires-clause-fits g c =
    subst (λ (s : SectorSize). place_of s c.args.number + bytes_in s ≤ length (g.S.Sectors.device c.args.sectors.now).now.bytes) (sym c.requires.size) c.requires.fits

pub returns-in-Ok-clause-ok : goal.returns-in-Ok-clause-ok
returns-in-Ok-clause-ok g c =
    let old = g.S.Sectors.device c.args.sectors.now in
    c.in-Ok.ensures.ok ∙ ap (λ (s : SectorSize). written (place_of s c.args.number) c.args.bytes.now old) c.requires.size

pub returns-in-Ok-clause-writes_only : goal.returns-in-Ok-clause-writes_only
returns-in-Ok-clause-writes_only g c = record {
  size = search rules;
  same =
      let old = g.S.Sectors.device c.args.sectors.now in
      let new = g.S.Sectors.device c.write_sector.new.self in
      let ok : new ≡ written (place_of c.args.size c.args.number) c.args.bytes.now old =
      c.in-Ok.ensures.ok ∙ ap (λ (s : SectorSize). written (place_of s c.args.number) c.args.bytes.now old) c.requires.size in
      same_but (place_of c.args.size c.args.number) (bytes_in c.args.size) old new
      (torn_sector (place_of c.args.size c.args.number) (bytes_in c.args.size) c.args.bytes.now old new c.requires.whole c.requires.fits ok);
  leaves =
      let old = g.S.Sectors.device c.args.sectors.now in
      let new = g.S.Sectors.device c.write_sector.new.self in
      let ok : new ≡ written (place_of c.args.size c.args.number) c.args.bytes.now old =
      c.in-Ok.ensures.ok ∙ ap (λ (s : SectorSize). written (place_of s c.args.number) c.args.bytes.now old) c.requires.size in
      leaves_torn (place_of c.args.size c.args.number) (bytes_in c.args.size) old new
      (torn_sector (place_of c.args.size c.args.number) (bytes_in c.args.size) c.args.bytes.now old new c.requires.whole c.requires.fits ok);
}

pub returns-in-Err-clause-writes_only : goal.returns-in-Err-clause-writes_only
returns-in-Err-clause-writes_only g c = record {
  size = search rules;
  same =
      let old = g.S.Sectors.device c.args.sectors.now in
      let new = g.S.Sectors.device c.write_sector.new.self in
      let fault : SameMoments old new ⊎ TornWrite (place_of c.args.size c.args.number) (length c.args.bytes.now) old new =
      subst (λ (s : SectorSize). SameMoments old new ⊎ TornWrite (place_of s c.args.number) (length c.args.bytes.now) old new) c.requires.size c.in-Err.ensures.fault in
      same_but (place_of c.args.size c.args.number) (bytes_in c.args.size) old new
      (failed_sector (place_of c.args.size c.args.number) (bytes_in c.args.size) c.args.bytes.now old new c.requires.whole fault);
  leaves =
      let old = g.S.Sectors.device c.args.sectors.now in
      let new = g.S.Sectors.device c.write_sector.new.self in
      let fault : SameMoments old new ⊎ TornWrite (place_of c.args.size c.args.number) (length c.args.bytes.now) old new =
      subst (λ (s : SectorSize). SameMoments old new ⊎ TornWrite (place_of s c.args.number) (length c.args.bytes.now) old new) c.requires.size c.in-Err.ensures.fault in
      leaves_torn (place_of c.args.size c.args.number) (bytes_in c.args.size) old new
      (failed_sector (place_of c.args.size c.args.number) (bytes_in c.args.size) c.args.bytes.now old new c.requires.whole fault);
}
