use Rattle.std.proofs.Common.{ℕ, List, ◌++◌, length}
use Rattle.disk_file.specs.Backing.{IsPendingIn, KeepsBut, ReadsBut}
use Rattle.block_disk.specs.Device.{IsClear, Range}
use Rattle.disk_file.specs.Buffered.{AllWithin}
use Rattle.disk_file.proofs.buffered.write_spans.Given as goal

abbrev pub decreases-loop-first : goal.decreases-loop-first
decreases-loop-first g l = length l.rest

-- what is left has still to be written, and it is among the ranges, in which all lies that is pending
abbrev pub invariant-loop-first : goal.invariant-loop-first
invariant-loop-first g l = ReadsBut l.rest l.fn.bytes (g.F.BackingFile.holds l.file)
    × AllWithin (length l.fn.bytes) l.rest
    × ((i : ℕ) → IsClear i l.fn.spans → IsClear i l.rest)
    × IsPendingIn l.fn.spans (g.F.BackingFile.holds l.file)
    × ((stale : List Range) → KeepsBut (l.fn.spans ++ stale) l.fn.bytes (g.F.BackingFile.holds l.fn.file) → KeepsBut (l.rest ++ stale) l.fn.bytes (g.F.BackingFile.holds l.file))
