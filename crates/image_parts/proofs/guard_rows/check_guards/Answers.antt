use Rattle.std.proofs.Common.{subst, arith}
use Rattle.block_disk.specs.Device.{Moment}
use Rattle.block_disk.proofs.Failures.{moments_trans}
use Rattle.image_parts.specs.Blocks.{HasBlock}
use Rattle.image_parts.proofs.GuardLemmas.{each_more}
use Rattle.image_parts.proofs.guard_rows.check_guards.Goals as goal

pub loop-first-preserved : goal.loop-first-preserved
loop-first-preserved g c =
    let d0 = g.D.Disk.device c.args.disk.now in
    let d1 = g.D.Disk.device c.loop-first.disk in
    let d2 = g.D.Disk.device c.read_block.new.disk in
    let count = c.in_ok-first.field-0 in
    let same = c.loop-first.invariant.same in
    let block = subst (λ (m : Moment). HasBlock c.args.layout.now c.loop-first.first count m.bytes c.read_block.new.block) same.now c.in_ok-first.ensures.ok in
    record {
      within = c.in_ok-first.ensures.some.2;
      read = each_more c.args.layout.now c.loop-first.first count d0.now.bytes c.read_block.new.block c.loop-first.invariant.read block;
      same = moments_trans d0 d1 d2 same c.read_block.ensures.same;
      later = omega (arith, c.loop-first.invariant.later, c.read_block.ensures.cause.later);
    }
