-- What is true of the fields of `Applied`.
use Rattle.std.specs.Prelude.{ℕ, ◌≡◌, ◌<◌, length}
use Rattle.heap_model.specs.Setting.{Setting}
use Rattle.store_memory.specs.declared.applied.Applied.TheInside.{Inside}
use Rattle.heap_model.specs.Past.{Past}
use Rattle.store_memory.specs.Memory.{Memory, lane_in}
use Rattle.store_memory.specs.Remembers.{Remembers}
use Rattle.heap_model.specs.Log.{log_from}
use Rattle.store_memory.specs.Limits.{IsWithin, FitWords}

-- the plain data of the fields
abbrev pub memory_of : Inside → Memory
memory_of a = record { last = a.last; capacity = a.capacity; lanes = a.lanes.items; monitors = a.monitors.items; fields = a.fields.items; fresh = a.fresh.records; dirty = a.dirty }

-- there is a past of which this is the memory, and each lane is within its limits
pub record IsKept (a : Inside) : Type 0 where
  pub setting : Setting
  pub past : Past
  pub remembers : Remembers setting (memory_of a) past
  pub within : (l : ℕ) → l < length a.lanes.items → IsWithin a.capacity (lane_in a.lanes.items l)
  pub fresh_lanes : a.fresh.lanes ≡ length a.lanes.items
  pub fresh_room : a.fresh.room ≡ a.capacity
  pub words : FitWords (log_from a.fresh.records)
