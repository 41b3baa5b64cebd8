use Rattle.std.proofs.Common.{◌≡◌, length}
use Rattle.block_disk.specs.Calls.{stops_of, AllFit}
use Rattle.block_disk.specs.Crash.{filled}
use Rattle.block_disk.specs.Memory.{pending_after}
use Rattle.block_disk.proofs.crash.fill_pending.Given as goal

abbrev pub decreases-loop-newest : goal.decreases-loop-newest
decreases-loop-newest l = length l.rest

-- filling what is left gives the whole answer
abbrev pub invariant-loop-newest : goal.invariant-loop-newest
invariant-loop-newest l = (filled l.byte (pending_after (stops_of l.rest)) l.image ≡ filled l.byte (pending_after (stops_of l.fn.calls)) l.initial.image)
    × AllFit (length l.image) l.rest
