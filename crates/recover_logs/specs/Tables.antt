-- The tables of a replay: what is known of the monitors, and how many records of each lane are left.
use Rattle.std.specs.Prelude.{ℕ, ◌≡◌, ◌-◌, ◌<◌, ◌≤◌, List, length, map, reverse, drop, slice_get, slice_index, Some, Option, MatchOption, MatchResult, Result, Vec}
use Rattle.std.specs.declared.alloc.Global.{Global}
use Rattle.heap_model.specs.Log.{lane}
use Rattle.heap_model.specs.declared.ids.Lane.{Lane}
use Rattle.heap_model.specs.declared.ids.ObjectId.{ObjectId}
use Rattle.heap_model.specs.declared.record.UndoRecord.{UndoRecord}
use Rattle.recover_logs.specs.Limits.{IsInRange}
use Rattle.recover_logs.specs.Monitors.{AreMonitors, IsAllowedBy}
use Rattle.recover_logs.specs.declared.monitors.Monitors.{Monitors}
use Rattle.recover_logs.specs.Logs.{guard_in, lanes_of}
use Rattle.recover_logs.specs.Replay.{MayFollow, IsGreedy, RefusesReplay, Replays}
use Rattle.recover_logs.specs.declared.error.LogsError.{LogsError}
use Rattle.recover_logs.specs.declared.step.Step.{Step}

-- by the tables, the lane can go on with this record, where so many of its records are left; it has the newest first
pub record GoesOnBy (guard : ℕ → Option ObjectId) (t : Monitors) (records : List UndoRecord) (left l : ℕ) (r : UndoRecord) : Type 0 where
  pub some : 0 < left
  pub next : slice_get records (left - 1) ≡ Some r
  pub follows : MayFollow (slice_get records left) r
  pub allowed : IsAllowedBy guard t l r

-- the least lane below a limit that can go on by the tables, and its next record
pub record IsLeastBy (guard : ℕ → Option ObjectId) (t : Monitors) (lanes : ℕ → List UndoRecord) (left : ℕ → ℕ) (limit l : ℕ) (r : UndoRecord) : Type 0 where
  pub low : l < limit
  pub goes : GoesOnBy guard t (lanes l) (left l) l r
  pub least : (m : ℕ) (next : UndoRecord) → m < l → GoesOnBy guard t (lanes m) (left m) m next → ⊥

-- the step is of a lane that an image may have, and its record is one of an image's
pub record IsLow (s : Step) : Type 0 where
  pub low : s.lane.0 < 32
  pub range : IsInRange s.entry

-- the steps, which have the oldest first, as a log
abbrev pub log_of : List Step → List (ℕ × UndoRecord)
log_of steps = map (λ s. (s.lane.0, s.entry)) (reverse steps)

-- so many records of each lane are left, and the others were done
pub record AreLeft (lanes : ℕ → List UndoRecord) (done : List (ℕ × UndoRecord)) (left : ℕ → ℕ) : Type 0 where
  pub within : (l : ℕ) → left l ≤ length (lanes l)
  pub rest : (l : ℕ) → lane l done ≡ drop (left l) (lanes l)

-- the greedy replay has come so far
pub record IsMidway (guard : ℕ → Option ObjectId) (first : ℕ → ℕ) (lanes : ℕ → List UndoRecord) (done : List (ℕ × UndoRecord)) (t : Monitors) (left : ℕ → ℕ) : Type 0 where
  pub greedy : IsGreedy guard first lanes done
  pub monitors : AreMonitors first done t
  pub rest : AreLeft lanes done left

-- the lane's next step, where so many of its records, which have the oldest first, are left; none where it can't go on by the tables
abbrev pub FindsNextOf : (guards : List (Option ObjectId)) → Monitors → Lane → (records : List UndoRecord) → (left : ℕ) → Option Step → Type 0
FindsNextOf guards t lane records left result = MatchOption result
    ((r : UndoRecord) → GoesOnBy (guard_in guards) t (reverse records) left lane.0 r → ⊥)
    (λ s. (s.lane ≡ lane) × GoesOnBy (guard_in guards) t (reverse records) left lane.0 s.entry)

-- the next step of the least lane that can go on by the tables; none where no lane can
abbrev pub FindsNext : (guards : List (Option ObjectId)) → Monitors → (logs : List (Vec UndoRecord Global)) → (left : List ℕ) → Option Step → Type 0
FindsNext guards t logs left result = MatchOption result
    ((l : ℕ) (r : UndoRecord) → l < length logs → GoesOnBy (guard_in guards) t (lanes_of logs l) (slice_index left l) l r → ⊥)
    (λ s. IsLeastBy (guard_in guards) t (lanes_of logs) (slice_index left) (length logs) s.lane.0 s.entry)

-- the least lane with records left; none where none has
abbrev pub FindsLeft : (left : List ℕ) → Option Lane → Type 0
FindsLeft left result = MatchOption result ((l : ℕ) → slice_index left l ≡ 0)
    (λ l. (0 < slice_index left l.0) × ((m : ℕ) → m < l.0 → slice_index left m ≡ 0))

-- the steps, which have the oldest first, replay the logs to their end
abbrev pub AreReplay : (guards : List (Option ObjectId)) → (logs : List (Vec UndoRecord Global)) → List Step → Type 0
AreReplay guards logs steps = Replays (guard_in guards) (lanes_of logs) (log_of steps)

-- the logs are replayed to their end, or the replay is refused for what it says
abbrev pub ReplaysLogs : (guards : List (Option ObjectId)) → (logs : List (Vec UndoRecord Global)) → Result (Vec Step Global) LogsError → Type 0
ReplaysLogs guards logs result = MatchResult result (λ steps. AreReplay guards logs steps.items) (RefusesReplay (guard_in guards) (lanes_of logs))
