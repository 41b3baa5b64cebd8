use Rattle.std.proofs.Common.{◌≡◌, ℕ, ◌+◌, ◌<◌, List, length, refl, sym, ◌∙◌, ap, subst, arith, rules}
use Rattle.block_disk.specs.Bytes.{spliced}
use Rattle.block_disk.specs.Device.{Moment}
use Rattle.block_disk.proofs.Failures.{moments_trans}
use Rattle.disk_sectors.specs.Size.{place_of, sector}
use Rattle.disk_sectors.proofs.Beginnings.{copied_long, copied_more}
use Rattle.disk_sectors.proofs.Sizes.{ends_before, sector_fits, whole_area}
use Rattle.disk_sectors.proofs.opening.read_sectors.Goals as goal

pub loop-i-init : goal.loop-i-init
loop-i-init g c = record {
  size = c.requires.size;
  same = record { name = refl; now = refl; past = refl };
  long = c.requires.long;
  all = λ j less. absurd (omega arith);
}

pub read_one-requires-clause-within : goal.read_one-requires-clause-within
read_one-requires-clause-within g c =
    let less : c.loop-i.i < c.args.count = search rules in
    let ends = ends_before c.args.size c.loop-i.i c.args.count less in
    omega (arith, ends, c.loop-i.invariant.long)

pub read_one-requires-clause-fits : goal.read_one-requires-clause-fits
read_one-requires-clause-fits g c =
    let less : c.loop-i.i < c.args.count = search rules in
    let same = ap (λ (m : Moment). length m.bytes) c.loop-i.invariant.same.now in
    sector_fits c.args.size c.args.first c.loop-i.i c.args.count (length (g.S.Sectors.device c.loop-i.sectors).now.bytes) less (omega (arith, same, c.requires.fits))

pub loop-i-preserved : goal.loop-i-preserved
loop-i-preserved g c =
    let less : c.loop-i.i < c.args.count = search rules in
    let old = g.S.Sectors.device c.args.sectors.now in
    let i = c.loop-i.i in
    let bytes : (g.S.Sectors.device c.loop-i.sectors).now.bytes ≡ old.now.bytes = ap (λ (m : Moment). m.bytes) c.loop-i.invariant.same.now in
    let is : c.read_one.new.image ≡ spliced c.loop-i.image (place_of c.args.size i) (sector c.args.size (c.args.first + i) old.now.bytes) =
    c.in_ok-read_one.ensures.ok ∙ ap (λ (xs : List ℕ). spliced c.loop-i.image (place_of c.args.size i) (sector c.args.size (c.args.first + i) xs)) bytes in
    record {
      size = c.read_one.ensures.reads_only.size;
      same = moments_trans old (g.S.Sectors.device c.loop-i.sectors) (g.S.Sectors.device c.read_one.new.sectors) c.loop-i.invariant.same c.read_one.ensures.reads_only.same;
      long = copied_long c.args.size c.args.first i c.args.count c.loop-i.image c.read_one.new.image old.now.bytes less c.loop-i.invariant.long c.requires.fits is;
      all = copied_more c.args.size c.args.first i c.args.count c.loop-i.image c.read_one.new.image old.now.bytes less c.loop-i.invariant.long c.requires.fits is c.loop-i.invariant.all;
    }

pub returns-in_err-read_one-clause-reads_only : goal.returns-in_err-read_one-clause-reads_only
returns-in_err-read_one-clause-reads_only g c = record {
  size = search rules;
  same = moments_trans (g.S.Sectors.device c.args.sectors.now) (g.S.Sectors.device c.loop-i.sectors) (g.S.Sectors.device c.read_one.new.sectors) c.loop-i.invariant.same c.read_one.ensures.reads_only.same;
}

pub returns-clause-area : goal.returns-clause-area
returns-clause-area g c =
    let end : c.loop-i.i ≡ c.args.count = search rules in
    let old = g.S.Sectors.device c.args.sectors.now in
    sym (whole_area c.args.size c.args.first c.args.count c.loop-i.image old.now.bytes c.loop-i.invariant.long c.requires.fits
    (λ j less. c.loop-i.invariant.all j (subst (λ (n : ℕ). j < n) (sym end) less)))
