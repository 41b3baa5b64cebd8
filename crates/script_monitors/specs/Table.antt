-- All monitors and values of a schema, as `heap_model`'s plain state.
use Rattle.std.specs.Prelude.{ℕ, ◌≡◌, ◌<◌, ◌≤◌, ◌^◌, List, length, All, slice_index, slice_index_or}
use Rattle.guards.specs.Schema as schemas
use Rattle.guards.specs.Schema.{Declarations, object_count, field_count, firsts_of}
use Rattle.heap_model.specs.declared.event.Event.{Event}
use Rattle.heap_model.specs.declared.event.Event.TheVariants.{Enter, NestedEnter, NestedExit, Exit, Load, Store, Wait, Resume, Notify, NotifyAll, Look}
use Rattle.heap_model.specs.Setting.{Setting}
use Rattle.heap_model.specs.State.{State}
use Rattle.heap_model.specs.Events.{after_event}
use Rattle.script_monitors.specs.declared.monitor.Monitor.{Monitor}
use Rattle.script_monitors.specs.declared.monitor.Monitor.TheVariants.{Free}
use Rattle.script_monitors.specs.Monitor.{owner_in, count_in, number_in, MayRise}
use Rattle.script_monitors.specs.WaitSets.{waiting_in, IsPauseOf}
use Rattle.script_monitors.specs.declared.pause.Pause.{Pause}
use Rattle.script_monitors.specs.declared.pause.Pause.TheVariants.{Awake}

-- the schema, the bound on release numbers, the monitors by object, what threads wait for by lane, and the values by field
pub record Table : Type 0 where
  pub schema : Declarations
  pub last : ℕ
  pub monitors : List Monitor
  pub pauses : List Pause
  pub values : List ℕ

-- there is a monitor for each object and a value for each field, each monitor that is held may become free, and of the
-- threads, 32 at most, each waits for an object of the schema or for none
pub record IsWhole (table : Table) : Type 0 where
  pub objects : length table.monitors ≡ object_count table.schema
  pub fields : length table.values ≡ field_count table.schema
  pub bound : table.last < 2 ^ 64
  pub rise : All MayRise table.monitors
  pub few : length table.pauses ≤ 32
  pub waits : All (IsPauseOf (object_count table.schema)) table.pauses

-- the object's monitor
abbrev pub monitor_at : Table → (object : ℕ) → Monitor
monitor_at table object = slice_index_or table.monitors object (Free 0)

-- how many threads there are
abbrev pub lanes_of : Table → ℕ
lanes_of table = length table.pauses

-- what the thread waits for
abbrev pub pause_at : Table → (thread : ℕ) → Pause
pause_at table thread = slice_index_or table.pauses thread Awake

-- what events and records are judged by where the fields begin with the schema's values
abbrev pub setting_in : Declarations → (last : ℕ) → Setting
setting_in schema last = schemas.setting_of schema (firsts_of schema.fields) last

abbrev pub setting_of : Table → Setting
setting_of table = setting_in table.schema table.last

-- the plain state
abbrev pub state_of : Table → State
state_of table = record {
  owner = λ o. owner_in (monitor_at table o);
  count = λ o. count_in (monitor_at table o);
  number = λ o. number_in (monitor_at table o);
  value = λ f. slice_index table.values f;
  waiting = λ t. waiting_in (pause_at table t);
}

-- the event is a step that is asked for before it is done, on an object or a field of the setting's. Who notifies is told
-- whom it woke by the step itself, and none looks
abbrev pub IsStepOf : Setting → Event → Type 0
IsStepOf g (Enter o n) = o.0 < g.objects
IsStepOf g (NestedEnter o) = o.0 < g.objects
IsStepOf g (NestedExit o) = o.0 < g.objects
IsStepOf g (Exit o n) = o.0 < g.objects
IsStepOf g (Load f v) = f.0 < g.fields
IsStepOf g (Store f before after) = f.0 < g.fields
IsStepOf g (Wait o n) = o.0 < g.objects
IsStepOf g (Resume o n) = o.0 < g.objects
IsStepOf g (Notify o woken) = ⊥
IsStepOf g (NotifyAll o woken) = ⊥
IsStepOf g (Look o sight) = ⊥

-- the same schema, bound and threads
pub record SameSetting (old new : Table) : Type 0 where
  pub schema : new.schema ≡ old.schema
  pub last : new.last ≡ old.last
  pub lanes : lanes_of new ≡ lanes_of old

-- what the thread's event leaves
pub record IsAfter (old : Table) (thread : ℕ) (event : Event) (new : Table) : Type 0 where
  pub setting : SameSetting old new
  pub state : state_of new ≡ after_event (state_of old) thread event

-- the first of these values, so many, are those
abbrev pub Has : List ℕ → (count : ℕ) → (value : ℕ → ℕ) → Type 0
Has values count value = (f : ℕ) → f < count → slice_index values f ≡ value f
