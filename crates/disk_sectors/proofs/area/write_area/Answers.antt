use Rattle.std.proofs.Common.{◌<◌, length, arith, rules}
use Rattle.disk_sectors.proofs.Filling.{filled_none, filled_more, filled_same, filled_leaves}
use Rattle.disk_sectors.proofs.area.write_area.Goals as goal

pub loop-i-init : goal.loop-i-init
loop-i-init g c = (
  c.requires.size,
  filled_none c.args.size c.args.first c.args.marks.now c.args.image.now (g.S.Sectors.device c.args.sectors.now) c.requires.matches,
)

pub write_marked-requires-clause-fits : goal.write_marked-requires-clause-fits
write_marked-requires-clause-fits g c = omega (arith, c.loop-i.invariant.1.same.size, c.requires.fits)

pub write_marked-requires-clause-matches : goal.write_marked-requires-clause-matches
write_marked-requires-clause-matches g c = c.loop-i.invariant.1.matches

pub loop-i-preserved : goal.loop-i-preserved
loop-i-preserved g c =
    let less : c.loop-i.i < length c.args.marks.now = search rules in (
      c.write_marked.ensures.writes_only.size,
      filled_more c.args.size c.args.first c.loop-i.i c.args.marks.now c.args.image.now (g.S.Sectors.device c.args.sectors.now) (g.S.Sectors.device c.loop-i.sectors)
          (g.S.Sectors.device c.write_marked.new.sectors) less c.requires.fits c.loop-i.invariant.1 c.in_ok-write_marked.ensures.this c.write_marked.ensures.matches c.write_marked.ensures.writes_only.same
          c.write_marked.ensures.writes_only.leaves,
    )

pub returns-in_err-write_marked-clause-writes_only : goal.returns-in_err-write_marked-clause-writes_only
returns-in_err-write_marked-clause-writes_only g c = record {
  size = search rules;
  same =
      let less : c.loop-i.i < length c.args.marks.now = search rules in
      filled_same c.args.size c.args.first c.loop-i.i c.args.marks.now c.args.image.now (g.S.Sectors.device c.args.sectors.now) (g.S.Sectors.device c.loop-i.sectors)
      (g.S.Sectors.device c.write_marked.new.sectors) less c.loop-i.invariant.1 c.write_marked.ensures.writes_only.same;
  leaves =
      let less : c.loop-i.i < length c.args.marks.now = search rules in
      filled_leaves c.args.size c.args.first c.loop-i.i c.args.marks.now c.args.image.now (g.S.Sectors.device c.args.sectors.now) (g.S.Sectors.device c.loop-i.sectors)
      (g.S.Sectors.device c.write_marked.new.sectors) less c.loop-i.invariant.1 c.write_marked.ensures.writes_only.leaves;
}

pub returns-clause-matches : goal.returns-clause-matches
returns-clause-matches g c = c.loop-i.invariant.1.matches

pub returns-clause-writes_only : goal.returns-clause-writes_only
returns-clause-writes_only g c = record {
  size = search rules;
  same = c.loop-i.invariant.1.same;
  leaves = c.loop-i.invariant.1.leaves;
}
