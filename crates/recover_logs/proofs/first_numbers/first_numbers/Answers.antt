use Rattle.std.proofs.Common.{List, subst, arith}
use Rattle.heap_model.specs.declared.record.UndoRecord.{UndoRecord}
use Rattle.recover_logs.specs.First.{IsLowered}
use Rattle.recover_logs.proofs.FirstLemmas.{lowest_none, lowest_more, begins_at}
use Rattle.recover_logs.proofs.first_numbers.first_numbers.Goals as goal

pub loop-lane-init : goal.loop-lane-init
loop-lane-init c = lowest_none c.args.logs.now

pub loop-lane-preserved : goal.loop-lane-preserved
loop-lane-preserved c = lowest_more c.args.logs.now c.loop-lane.lane c.loop-lane.numbers c.lower_all.new.numbers c.loop-lane.invariant
    (subst (λ (xs : List UndoRecord). IsLowered c.loop-lane.numbers xs c.lower_all.new.numbers) c.records_in.ensures c.lower_all.ensures)

pub returns : goal.returns
returns c = begins_at c.args.logs.now c.loop-lane.numbers c.loop-lane.lane (omega (arith, c.loop-lane-test.false, c.requires.lanes)) c.requires.range c.loop-lane.invariant
