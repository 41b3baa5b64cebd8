use Rattle.std.proofs.Common.{◌≡◌, ◌<◌, ℕ, slice_index}
use Rattle.store_memory.proofs.bits.first_word.Given as goal

-- the words so far are 0
abbrev pub invariant-loop-place : goal.invariant-loop-place
invariant-loop-place l = (v : ℕ) → v < l.place → slice_index l.words v ≡ 0
