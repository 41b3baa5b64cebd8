-- How far a lane has come after its records: what it holds, its sections (Atlas), and what it waits for. A lane's records
-- have the newest first.
use Rattle.std.specs.Prelude.{ℕ, ◌≡◌, ◌+◌, ◌-◌, ◌<◌, ◌^◌, ◌==◌, if◌then◌else◌, Bool, true, false, List, [], ◌∷◌, length, map, reverse, Contains, Option, Some, None}
use Rattle.heap_model.specs.Sections.{Action, Takes, Frees, Stores, undo_action, holding, ended}
use Rattle.heap_model.specs.declared.ids.ObjectId.{ObjectId}
use Rattle.heap_model.specs.declared.record.UndoRecord.{UndoRecord}
use Rattle.heap_model.specs.declared.record.UndoRecord.TheVariants.{Acq, Rel, WaitRel, Put}
use Rattle.recover_logs.specs.declared.lane_count.LaneCount.{LaneCount}

-- each release is of an object that the lane holds
abbrev pub FreesHeld : List Action → Type 0
FreesHeld [] = Unit {0}
FreesHeld (Takes o n ∷ older) = FreesHeld older
FreesHeld (Frees o n ∷ older) = FreesHeld older × Contains (holding older) o
FreesHeld (Stores ∷ older) = FreesHeld older

-- how many records the lane's open section has, none where it holds nothing; before these records it held nothing
abbrev pub open_records : List UndoRecord → ℕ
open_records [] = 0
open_records (r ∷ older) = if length (holding (undo_action r ∷ map undo_action older)) == 0 then 0 else open_records older + 1

-- the object on which the lane waits after the record: the one that it freed by a wait
abbrev pub awaited_after : UndoRecord → Option ObjectId
awaited_after (Acq o n) = None
awaited_after (Rel o n) = None
awaited_after (WaitRel o n) = Some o
awaited_after (Put f before) = None

-- the object on which the lane waits after these records, where it waited on this one before them
abbrev pub awaited : (before : Option ObjectId) → List UndoRecord → Option ObjectId
awaited before [] = before
awaited before (r ∷ older) = awaited_after r

-- a lane that waits on an object takes that next (JLS 17.2.1)
abbrev pub MayFollow : (awaited : Option ObjectId) → UndoRecord → Type 0
MayFollow None r = Unit {0}
MayFollow (Some o) (Acq p n) = p ≡ o
MayFollow (Some o) (Rel p n) = ⊥
MayFollow (Some o) (WaitRel p n) = ⊥
MayFollow (Some o) (Put f before) = ⊥

-- the lane, which held nothing at the first count, has the second one after these records
pub record Counts (first : LaneCount) (records : List UndoRecord) (now : LaneCount) : Type 0 where
  pub place_is : now.place ≡ first.place + length records
  pub held_is : now.held ≡ length (holding (map undo_action records))
  pub ended_is : now.ended ≡ first.ended + ended (map undo_action records)
  pub since_is : now.since ≡ open_records records
  pub awaited_is : now.awaited ≡ awaited first.awaited records

-- how many objects a lane that holds so many holds after the action
abbrev pub held_after : Action → (held : ℕ) → ℕ
held_after (Takes o n) held = held + 1
held_after (Frees o n) held = held - 1
held_after Stores held = held

-- how many sections of the lane have ended after the action
abbrev pub ended_after : Action → (held ended : ℕ) → ℕ
ended_after (Takes o n) held ended = ended
ended_after (Frees o n) held ended = if held == 1 then ended + 1 else ended
ended_after Stores held ended = ended

-- the record frees the last of so many objects that its lane holds: it ends a section
abbrev pub ends_at : UndoRecord → (held : ℕ) → Bool
ends_at (Acq o n) held = false
ends_at (Rel o n) held = held == 1
ends_at (WaitRel o n) held = held == 1
ends_at (Put f before) held = false

-- the count after one more record
abbrev pub count_after : LaneCount → UndoRecord → LaneCount
count_after c r = record {
  place = c.place + 1;
  held = held_after (undo_action r) c.held;
  ended = ended_after (undo_action r) c.held c.ended;
  since = if held_after (undo_action r) c.held == 0 then 0 else c.since + 1;
  awaited = awaited_after r;
}

-- one more fits each of its numbers
pub record HasRoom (c : LaneCount) : Type 0 where
  pub place : c.place + 1 < 2 ^ 64
  pub held : c.held + 1 < 2 ^ 64
  pub ended : c.ended + 1 < 2 ^ 64
  pub since : c.since + 1 < 2 ^ 64

-- the count of a lane with no records
abbrev pub new_count : LaneCount
new_count = record { place = 0; held = 0; ended = 0; since = 0; awaited = None }

-- the count of a lane that has these records alone
abbrev pub count_of : List UndoRecord → LaneCount
count_of [] = new_count
count_of (r ∷ older) = count_after (count_of older) r

-- a count of records becomes that of the records and this one, which frees what the lane holds if it frees
abbrev pub CountsRecord : (old : LaneCount) → UndoRecord → (new : LaneCount) → Type 0
CountsRecord old r new = (first : LaneCount) (records : List UndoRecord) → FreesHeld (undo_action r ∷ map undo_action records) → Counts first records old → Counts first (r ∷ records) new

-- the count of a lane after these records, which have the oldest first
abbrev pub CountsAll : List UndoRecord → LaneCount → Type 0
CountsAll records now = FreesHeld (map undo_action (reverse records)) → Counts new_count (reverse records) now
