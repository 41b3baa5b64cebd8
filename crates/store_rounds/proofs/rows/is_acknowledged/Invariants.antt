use Rattle.std.proofs.Common.{◌≡◌, ◌<◌, ℕ}
use Rattle.heap_model.specs.Cuts.{counts_of}
use Rattle.undo_log.specs.StandsFor.{row_of}
use Rattle.store_rounds.proofs.rows.is_acknowledged.Given as goal

-- the lanes so far have the cut's sections
abbrev pub invariant-loop-lane : goal.invariant-loop-lane
invariant-loop-lane l = (k : ℕ) → k < l.lane → counts_of l.cut k ≡ (row_of l.rows k).kept
