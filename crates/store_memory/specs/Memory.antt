-- What a store remembers, as plain data (this project's own).
use Rattle.std.specs.Prelude.{ℕ, ◌≡◌, ◌+◌, ◌-◌, ◌==◌, if◌then◌else◌, Bool, false, List, Option, Some, None, length, slice_index_or, slice_set}
use Rattle.heap_model.specs.declared.ids.Lane.{Lane}
use Rattle.heap_model.specs.declared.ids.ObjectId.{ObjectId}
use Rattle.heap_model.specs.declared.record.Record.{Record}
use Rattle.heap_model.specs.declared.record.Record.TheVariants.{Acq, Rel, WaitRel, Put}
use Rattle.heap_model.specs.declared.record.LaneRecord.{LaneRecord}
use Rattle.heap_model.specs.Events.{lane_number}
use Rattle.store_memory.specs.declared.states.MonitorState.{MonitorState}
use Rattle.store_memory.specs.declared.states.FieldState.{FieldState}
use Rattle.store_memory.specs.declared.states.LaneState.{LaneState}
use Rattle.store_memory.specs.Dirty.{DirtySet}

-- The bound on release numbers, the records that a lane's area holds; by lane, by object and by field what is known of it;
-- the records not yet logged, the oldest first; and the fields to be written home.
pub record Memory : Type 0 where
  pub last : ℕ
  pub capacity : ℕ
  pub lanes : List LaneState
  pub monitors : List MonitorState
  pub fields : List FieldState
  pub fresh : List LaneRecord
  pub dirty : DirtySet

-- a monitor, a field and a lane of which nothing is known yet
abbrev pub new_monitor : MonitorState
new_monitor = record { holder = None; number = 0 }

abbrev pub new_field : FieldState
new_field = record { guard = record { 0 = 0 }; is_logged = false; value = 0; logged = 0 }

abbrev pub new_lane : LaneState
new_lane = record { start = 0; place = 0; section = 0; held = 0; awaited = None }

-- the object's monitor, the field and the lane, by number
abbrev pub monitor_in : List MonitorState → ℕ → MonitorState
monitor_in monitors o = slice_index_or monitors o new_monitor

abbrev pub field_in : List FieldState → ℕ → FieldState
field_in fields f = slice_index_or fields f new_field

abbrev pub lane_in : List LaneState → ℕ → LaneState
lane_in lanes l = slice_index_or lanes l new_lane

-- the lane that holds the object, its release number, the field's value and the object that guards it
abbrev pub holder_in : List MonitorState → ℕ → Option ℕ
holder_in monitors o = lane_number (monitor_in monitors o).holder

abbrev pub number_in : List MonitorState → ℕ → ℕ
number_in monitors o = (monitor_in monitors o).number

abbrev pub value_in : List FieldState → ℕ → ℕ
value_in fields f = (field_in fields f).value

abbrev pub guard_in : List FieldState → ℕ → ℕ
guard_in fields f = (field_in fields f).guard.0

-- whether logs keep the field's stores
abbrev pub is_logged_in : List FieldState → ℕ → Bool
is_logged_in fields f = (field_in fields f).is_logged

-- what no record changes: the bounds, how many lanes, objects and fields there are, and what was trimmed
pub record KeepsLayout (old new : Memory) : Type 0 where
  pub last : new.last ≡ old.last
  pub capacity : new.capacity ≡ old.capacity
  pub lanes : length new.lanes ≡ length old.lanes
  pub objects : length new.monitors ≡ length old.monitors
  pub fields : length new.fields ≡ length old.fields
  pub starts : (l : ℕ) → (lane_in new.lanes l).start ≡ (lane_in old.lanes l).start

-- the number of the object, if there is one
abbrev pub object_number : Option ObjectId → Option ℕ
object_number None = None
object_number (Some o) = Some o.0

-- how many monitors the lane holds after the record
abbrev pub held_after : Record → (held : ℕ) → ℕ
held_after (Acq o n) held = held + 1
held_after (Rel o n) held = held - 1
held_after (WaitRel o n) held = held - 1
held_after (Put f before after) held = held

-- the object on which the lane waits after its record
abbrev pub awaited_after : Record → Option ObjectId
awaited_after (Acq o n) = None
awaited_after (Rel o n) = None
awaited_after (WaitRel o n) = Some o
awaited_after (Put f before after) = None

-- the lane after its record
abbrev pub lane_after : Record → LaneState → LaneState
lane_after r l = record l { place = l.place + 1; held = held_after r l.held; section = if held_after r l.held == 0 then 0 else l.section + 1; awaited = awaited_after r }

-- the monitors after the lane's record
abbrev pub monitors_after : Lane → Record → List MonitorState → List MonitorState
monitors_after l (Acq o n) monitors = slice_set monitors o.0 (record { holder = Some l; number = number_in monitors o.0 })
monitors_after l (Rel o n) monitors = slice_set monitors o.0 (record { holder = None; number = n + 1 })
monitors_after l (WaitRel o n) monitors = slice_set monitors o.0 (record { holder = None; number = n + 1 })
monitors_after l (Put f before after) monitors = monitors

-- the fields after the record
abbrev pub fields_after : Record → List FieldState → List FieldState
fields_after (Acq o n) fields = fields
fields_after (Rel o n) fields = fields
fields_after (WaitRel o n) fields = fields
fields_after (Put f before after) fields = slice_set fields f.0 (record (field_in fields f.0) { value = after })
