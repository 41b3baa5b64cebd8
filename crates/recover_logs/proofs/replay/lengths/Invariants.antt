use Rattle.std.proofs.Common.{ℕ, ◌≡◌, ◌<◌, ◌≤◌, length, slice_index}
use Rattle.recover_logs.specs.Logs.{records_of}
use Rattle.recover_logs.proofs.replay.lengths.Given as goal

abbrev pub invariant-loop-lane : goal.invariant-loop-lane
invariant-loop-lane l = record {
  all : length l.lengths ≡ 32;
  before : (m : ℕ) → m < l.lane → slice_index l.lengths m ≡ length (records_of l.logs m);
  rest : (m : ℕ) → l.lane ≤ m → slice_index l.lengths m ≡ 0;
}
