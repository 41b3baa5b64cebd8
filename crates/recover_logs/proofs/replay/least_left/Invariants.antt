use Rattle.std.proofs.Common.{ℕ, ◌≡◌, ◌<◌, slice_index}
use Rattle.recover_logs.proofs.replay.least_left.Given as goal

abbrev pub invariant-loop-lane : goal.invariant-loop-lane
invariant-loop-lane l = (m : ℕ) → m < l.lane → slice_index l.left m ≡ 0
