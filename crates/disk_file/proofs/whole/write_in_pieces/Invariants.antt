use Rattle.std.proofs.Common.{◌≡◌, ℕ, List, ◌++◌, length}
use Rattle.disk_file.specs.Backing.{Has}
use Rattle.disk_file.proofs.whole.write_in_pieces.Given as goal

abbrev pub decreases-loop-rest : goal.decreases-loop-rest
decreases-loop-rest g l = length l.rest

-- the file has all bytes but what is left
abbrev pub invariant-loop-rest : goal.invariant-loop-rest
invariant-loop-rest g l = (done : List ℕ) × (l.fn.bytes ≡ done ++ l.rest) × Has done (g.F.BackingFile.holds l.file)
