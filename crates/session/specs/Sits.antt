-- What a session keeps in addition to its seat's view.
use Rattle.std.specs.Prelude.{ℕ, ◌≡◌, ◌+◌, ◌<◌, ◌≤◌, List, length, Some, None, true}
use Rattle.heap_model.specs.declared.limits.TheConstants.{SECTION_RECORDS, LEAST_CAPACITY, MOST_CAPACITY, LAST_PLACE}
use Rattle.heap_model.specs.declared.ids.ObjectId.{ObjectId}
use Rattle.heap_model.specs.declared.record.Record.{Record}
use Rattle.heap_model.specs.Limits.{IsWithinLimits}
use Rattle.thread_steps.specs.declared.grip.Grip.{Grip}
use Rattle.thread_steps.specs.Views.{View, hold, Keeps, IsAwake, IsClear}
use Rattle.session.specs.declared.limits.TheConstants.{MOST_HELD}
use Rattle.session.specs.Past.{BeganBelow}
use Rattle.session.specs.Grips.{grip_in, objects_of, are_apart}
use Rattle.session.specs.Logs.{sent_in, actions_in, held_objects, place, section_records, sections_ended}

-- The grips are those of the monitors that the thread holds by its own events.
pub record Holds (v : View) (held : List Grip) : Type 0 where
  pub keeps : (o : ℕ) (g : Grip) → grip_in o held ≡ Some g → Keeps v g
  pub free : (o : ℕ) → grip_in o held ≡ None → hold v o ≡ None
  pub listed : objects_of held ≡ held_objects v
  pub apart : are_apart (objects_of held) ≡ true

-- What was sent is the log of the thread's own events, and these are its numbers: the records of the open section, all
-- records, and the sections that have ended.
pub record IsTold (v : View) (pushed : List Record) (r p k : ℕ) : Type 0 where
  pub sent : pushed ≡ sent_in v
  pub records : r ≡ section_records v
  pub places : p ≡ place v
  pub sections : k ≡ sections_ended v

-- The numbers are within the limits.
pub record IsWithin (held records places sections c : ℕ) : Type 0 where
  -- the open section with the releases that it needs
  pub short : records + held ≤ SECTION_RECORDS
  pub few : held ≤ MOST_HELD
  pub closed : held ≡ 0 → records ≡ 0
  pub low : places < LAST_PLACE + SECTION_RECORDS + 1
  pub ended : sections ≤ places
  pub capacity : (LEAST_CAPACITY ≤ c) × (c ≤ MOST_CAPACITY)

-- There is room for the rest of an open section: in the lane, in the ring and among the places.
pub record HasRoom (records places capacity trimmed free : ℕ) : Type 0 where
  pub lane : places + SECTION_RECORDS ≤ trimmed + capacity + records
  pub ring : SECTION_RECORDS ≤ free + records
  pub low : places < LAST_PLACE + records

-- What a session keeps, whether it waits or not: its grips, what it pushed, and how many slots of the ring it knows to be free. It counts
-- the records of its open section, its place and the sections that have ended. It has the lane's capacity and the trimmed place that it
-- read last.
pub record Stays (v : View) (gs : List Grip) (pushed : List Record) (free r p k c t : ℕ) : Type 0 where
  pub holds : Holds v gs
  pub told : IsTold v pushed r p k
  pub within : IsWithin (length gs) r p k c
  pub room : 0 < length gs → HasRoom r p c t free
  pub known : t ≤ v.trimmed
  pub limits : IsWithinLimits (actions_in v)
  pub began : BeganBelow (t + c) (actions_in v)

-- What it keeps while it doesn't wait.
pub record Sits (v : View) (gs : List Grip) (pushed : List Record) (free r p k c t : ℕ) : Type 0 where
  pub stays : Stays v gs pushed free r p k c t
  pub idle : IsAwake v × IsClear v

-- The session has this grip on the object.
pub record Finds (v : View) (gs : List Grip) (o : ObjectId) (g : Grip) : Type 0 where
  pub object : g.object ≡ o
  pub there : grip_in o.0 gs ≡ Some g
  pub keeps : Keeps v g
  pub hold : hold v o.0 ≡ Some (record { count = g.count; number = g.number })

-- The session has no grip on the object.
pub record FindsNone (v : View) (gs : List Grip) (o : ObjectId) : Type 0 where
  pub none : grip_in o.0 gs ≡ None
  pub free : hold v o.0 ≡ None
