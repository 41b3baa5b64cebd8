use Rattle.std.proofs.Common.{arith}
use Rattle.script_lines.proofs.LineLemmas.{goes_at}
use Rattle.script_lines.proofs.lines.cut_at_end.Goals as goal

pub loop-at-preserved : goal.loop-at-preserved
loop-at-preserved c = (omega arith, goes_at c.args.text.now c.loop-at.at _ c.loop-at-test.true c.end_len.ensures c.if-end_len-eq0.true c.loop-at.invariant.1)
