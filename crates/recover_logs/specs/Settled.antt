-- The acknowledged sections of the lanes' live records: those before the place up to which a lane is settled (this
-- project's own). Lists have their newest element first; places count from a lane's first live record.
use Rattle.std.specs.Prelude.{ℕ, ◌≡◌, ◌+◌, ◌<◌, ◌≤◌, ◌⊎◌, List, [], ◌∷◌, length, map, take, reverse, Vec, Option, MatchOption, MatchResult, Result}
use Rattle.std.specs.declared.alloc.Global.{Global}
use Rattle.heap_model.specs.Sections.{Frees, undo_action, holding, ended}
use Rattle.heap_model.specs.declared.ids.Lane.{Lane}
use Rattle.heap_model.specs.declared.ids.ObjectId.{ObjectId}
use Rattle.heap_model.specs.declared.record.UndoRecord.{UndoRecord}
use Rattle.heap_model.specs.declared.record.UndoRecord.TheVariants.{Acq}
use Rattle.recover_logs.specs.declared.error.LogsError.{LogsError}
use Rattle.recover_logs.specs.declared.error.LogsError.TheVariants.{IllegalLog, NoMemory}
use Rattle.recover_logs.specs.declared.settled_count.SettledCount.{SettledCount}
use Rattle.recover_logs.specs.Logs.{guard_in, kept_of, lanes_of, records_of, settled_of}
use Rattle.recover_logs.specs.Replay.{Replays, IsStuckAt}

-- the first n records
abbrev pub first_of : ℕ → List UndoRecord → List UndoRecord
first_of n records = reverse (take n (reverse records))

-- the lane's records before the place up to which it is settled
abbrev pub settled_records : (settled : ℕ → ℕ) → (lanes : ℕ → List UndoRecord) → (lane : ℕ) → List UndoRecord
settled_records settled lanes l = first_of (settled l) (lanes l)

-- the lane is settled up to a place where it holds nothing, and no more sections ended before it than are kept
pub record IsAtRest (settled sections : ℕ → ℕ) (lanes : ℕ → List UndoRecord) (l : ℕ) : Type 0 where
  pub free : holding (map undo_action (settled_records settled lanes l)) ≡ []
  pub kept : ended (map undo_action (settled_records settled lanes l)) ≤ sections l

-- the list has this record, which so many come before
abbrev pub HasAt : List UndoRecord → (place : ℕ) → UndoRecord → Type 0
HasAt [] i r = ⊥
HasAt (x ∷ older) i r = ((x ≡ r) × (i ≡ length older)) ⊎ HasAt older i r

-- The lane's record at this place, which is settled, takes what one that isn't settled freed: an acknowledged section
-- depends on one that isn't.
pub record TakesUnsettled (settled : ℕ → ℕ) (lanes : ℕ → List UndoRecord) (l i : ℕ) : Type 0 where
  pub object : ObjectId
  pub number : ℕ
  pub took : HasAt (lanes l) i (Acq object (number + 1))
  pub inside : i < settled l
  pub lane : ℕ
  pub place : ℕ
  pub release : UndoRecord
  pub had : HasAt (lanes lane) place release
  pub freed : undo_action release ≡ Frees object.0 number
  pub outside : settled lane ≤ place

-- that is the least lane with such a record, and its first
pub record IsLeastUnsettled (settled : ℕ → ℕ) (lanes : ℕ → List UndoRecord) (l i : ℕ) : Type 0 where
  pub takes : TakesUnsettled settled lanes l i
  pub least : (m j : ℕ) → TakesUnsettled settled lanes m j → (l < m) ⊎ ((l ≡ m) × (i ≤ j))

-- that is the least lane that isn't at rest
pub record IsLeastRestless (settled kept : ℕ → ℕ) (lanes : ℕ → List UndoRecord) (l : ℕ) : Type 0 where
  pub restless : IsAtRest settled kept lanes l → ⊥
  pub least : (m : ℕ) → m < l → IsAtRest settled kept lanes m

-- of so many lanes the answer is the least that isn't at rest; none where each is
abbrev pub FindsRestless : ℕ → (settled kept : ℕ → ℕ) → (lanes : ℕ → List UndoRecord) → Option Lane → Type 0
FindsRestless n settled kept lanes result = MatchOption result ((l : ℕ) → l < n → IsAtRest settled kept lanes l)
    (λ l. (l.0 < n) × IsLeastRestless settled kept lanes l.0)

-- the logs are those of a legal list, and each lane is at rest where it is settled
pub record AreAtRest (guard : ℕ → Option ObjectId) (settled kept : ℕ → ℕ) (lanes : ℕ → List UndoRecord) : Type 0 where
  pub done : List (ℕ × UndoRecord)
  pub replays : Replays guard lanes done
  pub rest : (l : ℕ) → IsAtRest settled kept lanes l

-- what no test of the logs refuses: they are those of a legal list, with whole acknowledged sections that depend on acknowledged ones alone
pub record AreLegal (guard : ℕ → Option ObjectId) (settled kept : ℕ → ℕ) (lanes : ℕ → List UndoRecord) : Type 0 where
  pub logs : AreAtRest guard settled kept lanes
  pub inside : (l i : ℕ) → TakesUnsettled settled lanes l i → ⊥

-- which place each of the three tests names, in their order: where the replay is stuck; the place up to which the least
-- restless lane is settled; the first acquire from outside
pub data IsIllegalAt (guard : ℕ → Option ObjectId) (settled kept : ℕ → ℕ) (lanes : ℕ → List UndoRecord) (l place : ℕ) : Type 0 where
  Stuck : IsStuckAt guard lanes l place → IsIllegalAt guard settled kept lanes l place
  Restless : (done : List (ℕ × UndoRecord)) → Replays guard lanes done → IsLeastRestless settled kept lanes l → place ≡ settled l → IsIllegalAt guard settled kept lanes l place
  Crossing : AreAtRest guard settled kept lanes → IsLeastUnsettled settled lanes l place → IsIllegalAt guard settled kept lanes l place

-- what each refusal of the logs says
abbrev pub RefusesLegal : (guard : ℕ → Option ObjectId) → (settled kept : ℕ → ℕ) → (lanes : ℕ → List UndoRecord) → LogsError → Type 0
RefusesLegal guard settled kept lanes (IllegalLog lane place) = IsIllegalAt guard settled kept lanes lane.0 place
RefusesLegal guard settled kept lanes NoMemory = Unit {0}

-- the lane is one of these, and the place is that of one of its records or the one after them
abbrev pub IsPlaceIn : List (Vec UndoRecord Global) → LogsError → Type 0
IsPlaceIn logs (IllegalLog lane place) = (lane.0 < length logs) × (place ≤ length (records_of logs lane.0))
IsPlaceIn logs NoMemory = Unit {0}

-- each lane is settled up to the place of one of its records, or the one after them
abbrev pub AreWithin : List SettledCount → List (Vec UndoRecord Global) → Type 0
AreWithin counts logs = (l : ℕ) → l < length logs → settled_of counts l ≤ length (records_of logs l)

-- this lane of the logs is at rest, by its count
abbrev pub IsLaneAtRest : List SettledCount → List (Vec UndoRecord Global) → Lane → Type 0
IsLaneAtRest counts logs lane = IsAtRest (settled_of counts) (kept_of counts) (lanes_of logs) lane.0

-- the least lane of the logs that isn't at rest, by their counts; none where each is
abbrev pub FindsRestlessLane : List SettledCount → List (Vec UndoRecord Global) → Option Lane → Type 0
FindsRestlessLane counts logs result = FindsRestless (length logs) (settled_of counts) (kept_of counts) (lanes_of logs) result

-- the logs are accepted where they are legal, or refused for what the refusal says
abbrev pub TestsLogs : {T : Type 0} → (guards : List (Option ObjectId)) → List SettledCount → List (Vec UndoRecord Global) → Result T LogsError → Type 0
TestsLogs guards counts logs result = MatchResult result
    (λ _. AreLegal (guard_in guards) (settled_of counts) (kept_of counts) (lanes_of logs))
    (RefusesLegal (guard_in guards) (settled_of counts) (kept_of counts) (lanes_of logs))
