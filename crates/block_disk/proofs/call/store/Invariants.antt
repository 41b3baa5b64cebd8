use Rattle.std.proofs.Common.{◌≡◌, take}
use Rattle.block_disk.specs.Calls.{stops_of}
use Rattle.block_disk.specs.Memory.{bytes_after}
use Rattle.block_disk.proofs.call.store.Given as goal

-- what the calls so far wrote is stored
abbrev pub invariant-loop-call : goal.invariant-loop-call
invariant-loop-call l = l.image ≡ bytes_after l.initial.image (stops_of (take l.call-index l.calls))
