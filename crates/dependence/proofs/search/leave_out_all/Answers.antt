use Rattle.heap_model.specs.Cuts.{counts_of}
use Rattle.dependence.proofs.search.leave_out_all.Goals as goal

pub loop-next-preserved : goal.loop-next-preserved
loop-next-preserved c = c.take_up.ensures.search c.args.start.now (counts_of c.args.candidates.now) c.loop-next.invariant
