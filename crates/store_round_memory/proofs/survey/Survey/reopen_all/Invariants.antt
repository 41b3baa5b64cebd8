use Rattle.std.proofs.Common.{ℕ, ◌≡◌, ◌+◌, ◌-◌, ◌≤◌, length, slice_index, take}
use Rattle.heap_model.specs.Log.{log_from}
use Rattle.store_round_memory.specs.Counting.{Counts, kept_takes, takes}
use Rattle.store_round_memory.specs.Surveys.{IsSurvey}
use Rattle.store_round_memory.proofs.survey.Survey.reopen_all.Given as goal

-- the newest records' takes are open
abbrev pub invariant-loop-newer : goal.invariant-loop-newer
invariant-loop-newer l = record {
  survey : (objects fields : ℕ) → IsSurvey objects fields l.initial.self → IsSurvey objects fields l.self;
  opened : (o : ℕ) → slice_index l.self.open_takes.items o + kept_takes l.counts o (log_from (take (length l.records - l.newer) l.records)) ≡ takes o (log_from l.records);
  left : Counts l.left (log_from (take (length l.records - l.newer) l.records));
  long : length l.left ≡ 32;
  far : l.newer ≤ length l.records - l.from;
  taken : l.self.taken ≡ l.initial.self.taken;
  changed : l.self.changed ≡ l.initial.self.changed;
  marks : l.self.marks ≡ l.initial.self.marks;
}
