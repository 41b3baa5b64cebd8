use Rattle.std.proofs.Common.{◌∙◌, sym}
use Rattle.journal_batches.proofs.CodecLemmas.{stamped_here, stamped_not}
use Rattle.journal_batches.proofs.codec.are_stamped.Goals as goal

pub returns-then-number_at-stamp : goal.returns-then-number_at-stamp
returns-then-number_at-stamp c =
    let other = c.if-number_at-stamp.true in
    sym (c.loop-i.invariant ∙ stamped_not c.args.n c.loop-i.i c.args.stamp c.args.half.now c.loop-i-test.true c.number_at.result c.number_at.ensures.number other)

pub loop-i-preserved : goal.loop-i-preserved
loop-i-preserved c =
    let same = c.if-number_at-stamp.false in
    c.loop-i.invariant ∙ stamped_here c.args.n c.loop-i.i c.args.stamp c.args.half.now c.loop-i-test.true (sym c.number_at.ensures.number ∙ same)
