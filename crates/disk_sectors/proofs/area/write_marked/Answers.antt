use Rattle.std.proofs.Common.{◌≡◌, ◌+◌, [], ◌∷◌, true, false, get_or, length, arith, ◌∙◌, rules}
use Rattle.std.proofs.lemmas.Result.{on_ok_weaker}
use Rattle.block_disk.specs.Images.{ImageBut}
use Rattle.block_disk.proofs.Images.{begin}
use Rattle.block_disk.proofs.Ranges.{outside_refl}
use Rattle.disk_sectors.specs.Size.{bytes_in, sector}
use Rattle.disk_sectors.specs.Places.{one_sector}
use Rattle.disk_sectors.proofs.Filling.{matches_torn}
use Rattle.disk_sectors.proofs.Sizes.{ends_before, few_sectors, sector_fits, sector_written}
use Rattle.disk_sectors.proofs.area.write_marked.Goals as goal

pub returns-then-not-is_marked-clause-this : goal.returns-then-not-is_marked-clause-this
returns-then-not-is_marked-clause-this g c =
    let clear : get_or c.args.marks.now c.args.i true ≡ false = search rules in
    c.requires.matches c.args.i clear

pub returns-then-not-is_marked-clause-writes_only : goal.returns-then-not-is_marked-clause-writes_only
returns-then-not-is_marked-clause-writes_only g c = record {
  size = search rules;
  same = outside_refl (one_sector c.args.size (c.args.first + c.args.i) ∷ []) (g.S.Sectors.device c.args.sectors.now).now.bytes;
  leaves =
      let old = g.S.Sectors.device c.args.sectors.now in
      begin old (ImageBut old (one_sector c.args.size (c.args.first + c.args.i) ∷ []));
}

pub returns-clause-this : goal.returns-clause-this
returns-clause-this g c =
    let size = c.args.size in
    let old = g.S.Sectors.device c.args.sectors.now in
    let fits = sector_fits size c.args.first c.args.i (length c.args.marks.now) (length old.now.bytes) c.requires.within c.requires.fits in
    let whole : length c.sector_at-bytes.result.now ≡ bytes_in size = search rules in
    let bytes : c.sector_at-bytes.result.now ≡ sector size c.args.i c.args.image.now = search rules in
    on_ok_weaker c.put_sector.result
    (λ ok. sector_written size (c.args.first + c.args.i) c.sector_at-bytes.result.now old (g.S.Sectors.device c.put_sector.new.sectors) whole fits ok ∙ bytes)
    c.put_sector.ensures.ok

pub returns-clause-matches : goal.returns-clause-matches
returns-clause-matches g c =
    let size = c.args.size in
    let marked : get_or c.args.marks.now c.args.i true ≡ true = search rules in
    matches_torn size c.args.first c.args.i c.args.marks.now c.args.image.now (g.S.Sectors.device c.args.sectors.now).now.bytes (g.S.Sectors.device c.put_sector.new.sectors).now.bytes
    marked c.requires.fits c.put_sector.ensures.writes_only.same c.requires.matches

pub overflow_add-number : goal.overflow_add-number
overflow_add-number g c =
    let few = few_sectors c.args.size (c.args.first + length c.args.marks.now) (length (g.S.Sectors.device c.args.sectors.now).now.bytes) c.requires.fits in
    omega (arith, few, c.requires.within)

pub sector_at-bytes-requires : goal.sector_at-bytes-requires
sector_at-bytes-requires g c =
    let ends = ends_before c.args.size c.args.i (length c.args.marks.now) c.requires.within in
    omega (arith, ends, c.requires.long)

pub put_sector-requires-clause-fits : goal.put_sector-requires-clause-fits
put_sector-requires-clause-fits g c =
    sector_fits c.args.size c.args.first c.args.i (length c.args.marks.now) (length (g.S.Sectors.device c.args.sectors.now).now.bytes) c.requires.within c.requires.fits
