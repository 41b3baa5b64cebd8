use Rattle.std.proofs.Common.{ℕ, ◌≡◌, ◌-◌, ◌≤◌, length, take}
use Rattle.heap_model.specs.Log.{log_from}
use Rattle.store_round_memory.specs.Counting.{Counts}
use Rattle.store_round_memory.specs.Surveys.{IsSurvey, TellsDownTo}
use Rattle.store_round_memory.proofs.survey.Survey.note_all.Given as goal

-- the newest records are noted
abbrev pub invariant-loop-newer : goal.invariant-loop-newer
invariant-loop-newer l = record {
  survey : (objects fields : ℕ) → IsSurvey objects fields l.initial.self → IsSurvey objects fields l.self;
  tells : TellsDownTo l.counts (log_from l.records) (log_from (take (length l.records - l.newer) l.records)) l.self;
  left : Counts l.left (log_from (take (length l.records - l.newer) l.records));
  long : length l.left ≡ 32;
  far : l.newer ≤ length l.records - l.from;
  taken : l.self.taken.items ≡ l.initial.self.taken.items;
}
