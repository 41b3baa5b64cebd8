use Rattle.std.proofs.Common.{◌≡◌, ◌+◌, ◌≤◌, ℕ, List, length, take, sym, ◌∙◌, ap, arith}
use Rattle.std.proofs.lemmas.Result.{on_ok_weaker}
use Rattle.disk_sectors.specs.Size.{bytes_in, place_of}
use Rattle.disk_sectors.proofs.Sizes.{ends_before, label_begins, sixteen, sector_written}
use Rattle.disk_sectors.proofs.label.write_label_by.Goals as goal

pub begin_with-requires : goal.begin_with-requires
begin_with-requires g c =
    let some = sixteen c.args.size in
    omega (arith, some, c.requires.whole)

pub put_sector-requires-clause-fits : goal.put_sector-requires-clause-fits
put_sector-requires-clause-fits g c =
    let ends = ends_before c.args.size 0 2 (omega arith) in
    omega (arith, ends, c.requires.fits)

pub returns-clause-said : goal.returns-clause-said
returns-clause-said g c =
    let old = g.S.Sectors.device c.args.sectors.now in
    let new = g.S.Sectors.device c.put_sector.new.sectors in
    let ends = ends_before c.args.size 0 2 (omega arith) in
    let long : length c.begin_with.new.bytes ≡ bytes_in c.args.size = c.begin_with.ensures.count ∙ c.requires.whole in
    let fits : place_of c.args.size 0 + bytes_in c.args.size ≤ length old.now.bytes = omega (arith, ends, c.requires.fits) in
    on_ok_weaker c.put_sector.result
    (λ ok. sym (label_begins c.args.size new.now.bytes) ∙ ap (λ (xs : List ℕ). take 16 xs) (sector_written c.args.size 0 c.begin_with.new.bytes old new long fits ok) ∙ c.begin_with.ensures.begun)
    c.put_sector.ensures.ok
