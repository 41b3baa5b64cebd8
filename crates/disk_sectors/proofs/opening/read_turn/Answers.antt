use Rattle.std.proofs.Common.{◌≡◌, Err, arith}
use Rattle.disk_sectors.specs.declared.error.SectorError.TheVariants.{Unreadable}
use Rattle.disk_sectors.proofs.Beginnings.{gate_lost, gate_reads}
use Rattle.disk_sectors.proofs.Sizes.{ends_before}
use Rattle.disk_sectors.proofs.opening.read_turn.Goals as goal

pub get_sector-requires-clause-fits : goal.get_sector-requires-clause-fits
get_sector-requires-clause-fits g c =
    let ends = ends_before c.args.size 1 2 (omega arith) in
    omega (arith, ends, c.requires.fits)

pub returns-in-Ok-clause-turn : goal.returns-in-Ok-clause-turn
returns-in-Ok-clause-turn g c = gate_reads c.args.size (g.S.Sectors.device c.args.sectors.now).now.bytes c.get_sector.new.out c.in-Ok.ensures.ok

pub returns-in-Err-Unreadable-clause-turn : goal.returns-in-Err-Unreadable-clause-turn
returns-in-Err-Unreadable-clause-turn g c =
    let is : c.in-Err-Unreadable.field-0 ≡ Unreadable = c.in-Err-Unreadable.field-0-is in
    gate_lost c.args.size (g.S.Sectors.device c.args.sectors.now).now.bytes (c.in-Err-Unreadable.ensures.unreadable (λ i. Err (is i)))
