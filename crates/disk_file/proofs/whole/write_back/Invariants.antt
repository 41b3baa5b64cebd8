use Rattle.std.proofs.Common.{ℕ, length}
use Rattle.block_disk.specs.Device.{IsClear}
use Rattle.disk_file.specs.Backing.{bytes_at}
use Rattle.disk_file.proofs.WrittenBack.{HasStage}
use Rattle.disk_file.proofs.whole.write_back.Given as goal

abbrev pub decreases-loop-first : goal.decreases-loop-first
decreases-loop-first g l = length l.rest

-- what is left is among the places, and all others are done
abbrev pub invariant-loop-first : goal.invariant-loop-first
invariant-loop-first g l = HasStage l.fn.len l.fn.places l.rest (g.F.BackingFile.holds l.fn.file) (g.F.BackingFile.holds l.file)
    × ((i : ℕ) → IsClear i (bytes_at l.fn.places) → IsClear i (bytes_at l.rest))
