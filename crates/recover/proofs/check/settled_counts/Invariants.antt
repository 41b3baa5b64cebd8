use Rattle.std.proofs.Common.{ℕ, ◌≡◌, ◌<◌, ◌≤◌, length}
use Rattle.undo_log.specs.StandsFor.{settled_of}
use Rattle.recover_logs.specs.Logs.{count_of}
use Rattle.recover.specs.Settled.{kept_of}
use Rattle.recover.proofs.check.settled_counts.Given as goal

abbrev pub invariant-loop-lane : goal.invariant-loop-lane
invariant-loop-lane l = record {
  all : length l.counts ≡ 32;
  before : (m : ℕ) → m < l.lane → count_of l.counts m ≡ record { records = settled_of l.rows m; sections = kept_of l.rows m };
  rest : (m : ℕ) → l.lane ≤ m → count_of l.counts m ≡ record { records = 0; sections = 0 };
}
