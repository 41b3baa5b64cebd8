use Rattle.std.proofs.Common.{◌≡◌, slice_index}
use Rattle.dependence.specs.Trace.{growth}
use Rattle.dependence.proofs.found.sections_beyond.Given as goal

-- those of the lanes so far
abbrev pub invariant-loop-lane : goal.invariant-loop-lane
invariant-loop-lane l = l.sections ≡ growth l.lane (slice_index l.cut) (slice_index l.before)
