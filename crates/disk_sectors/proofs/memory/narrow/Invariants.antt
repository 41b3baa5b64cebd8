use Rattle.std.proofs.Common.{◌≡◌, take}
use Rattle.disk_sectors.proofs.memory.narrow.Given as goal

-- those so far are copied
abbrev pub invariant-loop-i : goal.invariant-loop-i
invariant-loop-i l = take l.i l.bytes ≡ take l.i l.numbers
