use Rattle.std.proofs.Common.{◌≡◌, length}
use Rattle.disk_sectors.proofs.marks.clear_all.Given as goal

abbrev pub invariant-loop-i : goal.invariant-loop-i
invariant-loop-i l = length l.marks.items ≡ length l.fn.marks.items
