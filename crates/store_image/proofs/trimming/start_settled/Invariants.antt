use Rattle.std.proofs.Common.{◌≡◌, ◌<◌, ℕ}
use Rattle.undo_log.specs.StandsFor.{row_of}
use Rattle.store_image.proofs.trimming.start_settled.Given as goal

-- the lanes so far start behind their settled records
abbrev pub invariant-loop-lane : goal.invariant-loop-lane
invariant-loop-lane l = (k : ℕ) → k < l.lane → (row_of l.rows k).start ≡ (row_of l.rows k).settled
