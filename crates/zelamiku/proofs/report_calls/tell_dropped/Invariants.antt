use Rattle.std.proofs.Common.{ℕ, ◌≡◌, ◌<◌, slice_get}
use Rattle.std.specs.List.{slice_index_or}
use Rattle.zelamiku.specs.ReportDoors.{told_at}
use Rattle.zelamiku.specs.declared.words.Dropped.{Dropped}
use Rattle.zelamiku.proofs.report_calls.tell_dropped.Given as goal

-- the entries so far tell of the sections of their places
abbrev pub invariant-loop-i : goal.invariant-loop-i
invariant-loop-i l = (k : ℕ) (d : Dropped) → k < l.i → slice_index_or l.dropped k d ≡ told_at (slice_get l.sections k)
