use Rattle.undo_log.specs.Runs.{HoldsFirst}
use Rattle.undo_log.proofs.reading.decode_run.Given as goal

abbrev pub invariant-loop-i : goal.invariant-loop-i
invariant-loop-i l = HoldsFirst l.layout l.bytes l.i l.records
