use Rattle.std.proofs.Common.{◌≡◌, ◌∙◌, rules}
use Rattle.disk_sectors.proofs.InUnits.{unit_more, units_left}
use Rattle.disk_sectors.proofs.two_places.TwoPlacesDisk.write_units.Goals as goal

pub loop-i-preserved : goal.loop-i-preserved
loop-i-preserved g c =
    let w = c.write_at.ensures in
    let more = unit_more c.args.count c.loop-i.i c.args.at c.args.units.now c.args.self.now.device c.loop-i.self.device c.write_at.new.self.device c.loop-i-test.true c.requires.whole c.requires.fits
    c.in-Ok.ensures.ok c.loop-i.invariant.rest c.loop-i.invariant.long in
    record {
      rest = more.0;
      long = more.1;
      sectors = w.sectors ∙ c.loop-i.invariant.sectors;
      count = (w.count.0 ∙ c.loop-i.invariant.count.0, w.count.1 ∙ c.loop-i.invariant.count.1);
    }

pub returns-clause-any_moment : goal.returns-clause-any_moment
returns-clause-any_moment g c =
    let end : c.loop-i.i ≡ c.args.count = search rules in
    units_left c.args.count c.loop-i.i c.args.at c.args.units.now c.args.self.now.device c.loop-i.self.device end c.requires.whole c.requires.fits c.loop-i.invariant.rest
