use Rattle.std.proofs.Common.{List, arith}
use Rattle.heap_model.specs.declared.record.UndoRecord.{UndoRecord}
use Rattle.recover_logs.specs.Tally.{acts_of}
use Rattle.recover_logs.proofs.TallyLemmas.{frees_first}
use Rattle.recover.proofs.LiveLemmas.{counted_short, acts_long}
use Rattle.recover.proofs.live_counts.live_of.Goals as goal

pub tally-acknowledged-requires : goal.tally-acknowledged-requires
tally-acknowledged-requires c = record { held = frees_first c.args.records.now c.args.settled c.requires.held }

pub overflow_add-result : goal.overflow_add-result
overflow_add-result c =
    let xs : List UndoRecord = c.args.records.now in
    omega (arith, c.if-held-eq0.false, c.tally-held.ensures.held, c.tally-held.ensures.ended, counted_short (acts_of xs) c.requires.held, acts_long xs)
