-- What a line does to the machine, and which lines are refused, and why (docs/SCRIPTS.md, "Lines" and "Refusals").
use Rattle.std.specs.Prelude.{ℕ, false, ◌+◌, ◌≡◌, ◌≢◌, ◌<◌, ◌≤◌, ◌⊎◌, List, Option, Some, None, Ok, length, take, slice_index}
use Rattle.guards.specs.Schema.{Declarations, object_count, field_count, names_of, guard_of, first_of, nothing}
use Rattle.script_declarations.specs.Declares.{Declares, Tests, Named}
use Rattle.script_declarations.specs.declared.declared.Declared.{Declared}
use Rattle.heap_model.specs.declared.limits.TheConstants.{LAST_NUMBER}
use Rattle.heap_model.specs.declared.ids.ObjectId.{ObjectId}
use Rattle.heap_model.specs.declared.ids.FieldId.{FieldId}
use Rattle.heap_model.specs.declared.ids.Lane.{Lane}
use Rattle.heap_model.specs.declared.record.Record.{Record}
use Rattle.heap_model.specs.declared.event.Event.{Event}
use Rattle.heap_model.specs.declared.event.Event.TheVariants.{Enter, NestedEnter, NestedExit, Exit, Store, Wait, Resume, Notify, NotifyAll}
use Rattle.heap_model.specs.Setting.{Setting}
use Rattle.heap_model.specs.State.{initial_state, Awake, InSet, Woken}
use Rattle.heap_model.specs.Events.{MayDo, IsEventOf}
use Rattle.heap_model.specs.History.{logged}
use Rattle.heap_model.specs.Log.{value}
use Rattle.heap_model.specs.Sections.{actions}
use Rattle.heap_model.specs.Cuts.{IsStable}
use Rattle.block_disk.specs.Crash.{done_at, LeftSinceStop}
use Rattle.block_disk.specs.Device.{Image, SameMoments}
use Rattle.block_disk.specs.Images.{LeavesOnly}
use Rattle.block_disk.specs.Memory.{Memory, fresh, device_of, moment_after}
use Rattle.block_disk.specs.declared.crash.Fill.{Fill}
use Rattle.image_parts.specs.Layout.{size_of}
use Rattle.store_memory.specs.Apply.{Answers}
use Rattle.durable.specs.Calls.{IsClean, RefusesApply, RefusesLog, RefusesSettle, RefusesTrim}
use Rattle.store_image.specs.Formatting.{layout_with}
use Rattle.store_image.specs.KeptHeap.{StandsForCut, StandsForEither}
use Rattle.heap_model.specs.Past.{Past, IsTrimmed, applied, no_past, after_apply, after_log, after_settle, after_trim}
use Rattle.durable.specs.Steps.{ShowsUpToMeanwhile}
use Rattle.durable.specs.Store.{Parts, ShowsStep}
use Rattle.durable.specs.declared.doubt.Doubt.{Doubt}
use Rattle.durable.specs.declared.doubt.Doubt.TheVariants.{Nothing, Logging, Settling, Trimming}
use Rattle.heap_model.specs.declared.store_error.StoreError.{StoreError}
use Rattle.recover.specs.Reading as reading
use Rattle.recover.specs.Recovery.{IsTooOld}
use Rattle.recover.specs.Study.{IsStudyOf}
use Rattle.recover_heap.specs.declared.error.RecoverError.{RecoverError}
use Rattle.recover.specs.declared.studied.Study.{Study}
use Rattle.recover.specs.declared.versions.Versions.{Versions}
use Rattle.recover.specs.declared.versions.Versions.TheVariants.{Current, Both}
use Rattle.script_machine.specs.declared.answer.Answer.{Answer}
use Rattle.script_machine.specs.declared.answer.Answer.TheVariants.{Done, Formatted, Value, Waiting, Logged, Wrote, Crashed, Shown, Refused}
use Rattle.script_machine.specs.declared.answer.Answer.TheVariants as answers
use Rattle.script_machine.specs.declared.answer.Report.{Report}
use Rattle.script_machine.specs.declared.answer.Refusal.{Refusal}
use Rattle.script_machine.specs.declared.answer.Refusal.TheVariants as why
use Rattle.script_machine.specs.Agreement.{Agrees, BeginsWith}
use Rattle.script_machine.specs.Answers.{heap_in, acknowledged_in, woken_in}
use Rattle.script_machine.specs.Homes.{BringsHome}
use Rattle.script_machine.specs.Limits.{IsFormattable}
use Rattle.script_machine.specs.Lookups.{object_of, field_of}
use Rattle.script_machine.specs.OfSchema.{IsDiskOf, IsOfSchema, formatted_device}
use Rattle.script_lines.specs.Orders.{Order, Action}
use Rattle.script_lines.specs.Orders as order
use Rattle.script_machine.specs.Refusals.{told_of_declared, told_of_recovery, told_of_store}
use Rattle.script_machine.specs.States.{Live, Wreck, Tells, begun_at, crash_back}
use Rattle.script_machine.specs.Reports.{Restores, RefusesDisk}
use Rattle.script_monitors.specs.Table.{Table, lanes_of, setting_of, state_of, IsAfter}
use Rattle.script_monitors.specs.WaitSets.{wait_set, least_of}

-- The machine declares, runs, or is down; after want of memory it is spent, and refuses each line
pub data MachineState : Type 0 where
  Declaring : Declarations → MachineState
  Running : Live → MachineState
  Down : Wreck → MachineState
  Spent : MachineState

-- at first nothing is declared
abbrev pub IsStart : MachineState → Type 0
IsStart state = state ≡ Declaring nothing

-- all monitors are free, so many threads are awake, and the fields have these values
pub record IsFresh (schema : Declarations) (lanes : ℕ) (first : ℕ → ℕ) (table : Table) : Type 0 where
  pub schema_is : table.schema ≡ schema
  pub last : table.last ≡ LAST_NUMBER
  pub lanes_are : lanes_of table ≡ lanes
  pub state : state_of table ≡ initial_state first

-- all monitors are free, and the fields have the values of this heap
pub record IsRestored (schema : Declarations) (lanes : ℕ) (heap : List ℕ) (table : Table) : Type 0 where
  pub first : ℕ → ℕ
  pub fresh_monitors : IsFresh schema lanes first table
  -- After `recover` each field has the value of the recovered heap.
  pub values : (f : ℕ) → f < field_count schema → first f ≡ slice_index heap f

-- the threads of the object's wait set, in order
abbrev pub waiters : Table → (object : ℕ) → List Lane
waiters table o = wait_set (lanes_of table) (state_of table) o

-- the store took the lane's record: it was the next that the lane may do, and there was room for it
pub record Takes (old : Parts Memory) (lane : ℕ) (next : Record) (new : Parts Memory) : Type 0 where
  pub judged : (s : Setting) (p : Past) → Tells old s p → Answers s old.known.memory p lane next (Ok tt)
  -- The store is told the record of a line's event. A store of a transient field has none.
  pub after : (s : Setting) (p : Past) → Tells old s p → Tells new s (after_apply p lane next)
  pub disk : new.disk ≡ old.disk
  pub layout : new.known.layout ≡ old.known.layout
  pub running : new.known.has_failed ≡ false

-- what the store makes of an event's record, if it has one
abbrev pub Keeps : Parts Memory → (lane : ℕ) → Option Record → Parts Memory → Type 0
Keeps old lane None new = new ≡ old
Keeps old lane (Some next) new = Takes old lane next new

-- why the store refuses an event's record
abbrev pub RefusesRecord : Parts Memory → Setting → Past → (lane : ℕ) → Option Record → StoreError → Type 0
RefusesRecord x s p lane None reason = ⊥
RefusesRecord x s p lane (Some next) reason = RefusesApply x.known s p lane next reason

-- the call takes one sequence of controls at most, and a crash inside it shows none beyond that
pub record TakesSequence (m : Live) (store : Parts Memory) : Type 0 where
  -- No line wears the control out. A `log`, `settle` or `trim` takes one sequence of controls at most.
  pub sequence : store.known.committed.sequence ≤ m.store.known.committed.sequence + 1
  -- Whatever a crash leaves inside the line shows at most one sequence more than before.
  pub any_sequence : ShowsUpToMeanwhile device_of m.store store (m.store.known.committed.sequence + 1)

module _ (old : MachineState) (answer : Answer) (new : MachineState) where
  -- the line is refused for this reason, and changes nothing
  abbrev pub Refuses : Refusal → Type 0
  Refuses reason = (answer ≡ Refused reason) × (new ≡ old)

  -- the declaration is answered, and the machine has what it makes of what was declared
  pub record AnswersDeclaration (d : Declarations) (asked : Order) : Type 0 where
    pub said : Declared
    pub declared : Declarations
    pub declares : Declares d asked said declared
    pub answers : answer ≡ told_of_declared said
    pub declaring : new ≡ Declaring declared

  -- an image was formatted: each field has its first value, the store was told nothing, and the disk has had no calls but
  -- those of formatting
  pub record Formats (d : Declarations) (lanes capacity : ℕ) : Type 0 where
    pub live : Live
    pub answers : answer ≡ Formatted (size_of (layout_with d lanes capacity))
    pub runs : new ≡ Running live
    pub layout : live.store.known.layout ≡ layout_with d lanes capacity
    pub fresh_monitors : IsFresh d lanes (first_of d) live.monitors
    pub tells : Tells live.store (setting_of live.monitors) no_past
    pub running : live.store.known.has_failed ≡ false
    -- `format` makes the disk that formatting so many zeros makes. `crash .. back` counts just these writes and syncs.
    pub made : device_of live.store.disk ≡ formatted_device d (layout_with d lanes capacity)
    -- A script's disk has no image but of its schema. Whatever a crash leaves of it, at any write or sync since it was
    -- made, has the schema's objects, fields, guards, marks and transient first values, if its header and guard rows
    -- can be read.
    pub of_schema : IsDiskOf d live.store.disk

  -- an image is formatted where there is an object and a field, and lanes and capacity are within their limits
  abbrev pub FormatsImage : Declarations → (lanes capacity : ℕ) → Type 0
  FormatsImage d lanes capacity =
      Tests ((object_count d ≡ 0) ⊎ (field_count d ≡ 0)) (Refuses why.Empty) (
      Tests (¬ IsFormattable lanes capacity) (Refuses why.BadHeader) (
      Formats d lanes capacity))

  -- the store refuses a call for a reason that has P of all that it may have been told
  pub record IsRefusedByStore (m : Live) (P : Setting → Past → StoreError → Type 0) : Type 0 where
    pub reason : StoreError
    pub refusal : Refusal
    pub told : told_of_store reason ≡ Ok refusal
    pub refuses : Refuses refusal
    pub because : (s : Setting) (p : Past) → Tells m.store s p → P s p reason

  -- the event is done, and the store keeps its record, if logs keep one
  pub record Completes (m : Live) (thread : ℕ) (event : Event) (said : Answer) : Type 0 where
    pub live : Live
    pub answers : answer ≡ said
    pub runs : new ≡ Running live
    pub after : IsAfter m.monitors thread event live.monitors
    pub kept : Keeps m.store thread (logged (setting_of m.monitors) event) live.store

  -- the event is allowed (JLS 17.1, 17.2). It is done, unless the store refuses its record
  pub record Does (m : Live) (thread : ℕ) (said : Answer) (event : Event) : Type 0 where
    -- A line's event is one that the model allows (JLS 17.1, 17.2).
    pub allowed : MayDo (setting_of m.monitors) (state_of m.monitors) thread event
    pub named : IsEventOf (setting_of m.monitors) event
    -- A line's event is done, in the monitors and in the store; or the store refuses its record, and neither changes.
    pub outcome : Completes m thread event said ⊎ IsRefusedByStore m (λ s p reason. RefusesRecord m.store s p thread (logged (setting_of m.monitors) event) reason)

  -- a lock of the object's monitor
  pub record Enters (m : Live) (thread : ℕ) (o : ObjectId) : Type 0 where
    pub held : (u : ℕ) → (state_of m.monitors).owner o.0 ≡ Some u → u ≢ thread → Refuses why.Held
    pub worn : (state_of m.monitors).owner o.0 ≡ None → m.monitors.last ≤ (state_of m.monitors).number o.0 → Refuses why.Worn
    pub free : (state_of m.monitors).owner o.0 ≡ None → (state_of m.monitors).number o.0 < m.monitors.last → Does m thread Done (Enter o ((state_of m.monitors).number o.0))
    pub nested : (state_of m.monitors).owner o.0 ≡ Some thread → Does m thread Done (NestedEnter o)

  -- an unlock of the object's monitor
  pub record Exits (m : Live) (thread : ℕ) (o : ObjectId) : Type 0 where
    pub not_held : (state_of m.monitors).owner o.0 ≢ Some thread → Refuses why.NotHeld
    pub last : (state_of m.monitors).owner o.0 ≡ Some thread → (state_of m.monitors).count o.0 ≡ 1 → Does m thread Done (Exit o ((state_of m.monitors).number o.0))
    pub nested : (state_of m.monitors).owner o.0 ≡ Some thread → 1 < (state_of m.monitors).count o.0 → Does m thread Done (NestedExit o)

  -- a load of the field, by a thread that owns its guard
  pub record Loads (m : Live) (thread : ℕ) (f : FieldId) : Type 0 where
    pub not_held : (state_of m.monitors).owner (guard_of m.monitors.schema f.0) ≢ Some thread → Refuses why.NotHeld
    pub ok : (state_of m.monitors).owner (guard_of m.monitors.schema f.0) ≡ Some thread → (answer ≡ Value ((state_of m.monitors).value f.0)) × (new ≡ old)

  -- a store to the field, by a thread that owns its guard
  pub record Stores (m : Live) (thread : ℕ) (f : FieldId) (after : ℕ) : Type 0 where
    pub not_held : (state_of m.monitors).owner (guard_of m.monitors.schema f.0) ≢ Some thread → Refuses why.NotHeld
    pub ok : (state_of m.monitors).owner (guard_of m.monitors.schema f.0) ≡ Some thread → Does m thread Done (Store f ((state_of m.monitors).value f.0) after)

  -- a wait on the object's monitor (JLS 17.2.1)
  pub record Waits (m : Live) (thread : ℕ) (o : ObjectId) : Type 0 where
    pub not_held : (state_of m.monitors).owner o.0 ≢ Some thread → Refuses why.NotHeld
    pub ok : (state_of m.monitors).owner o.0 ≡ Some thread → Does m thread Waiting (Wait o ((state_of m.monitors).number o.0))

  -- a woken thread takes its monitor again (JLS 17.2.1)
  pub record Resumes (m : Live) (thread : ℕ) : Type 0 where
    pub not_waiting : (state_of m.monitors).waiting thread ≡ Awake → Refuses why.NotWaiting
    pub in_set : (o c : ℕ) → (state_of m.monitors).waiting thread ≡ InSet o c → Refuses why.InSet
    pub held : (o c u : ℕ) → (state_of m.monitors).waiting thread ≡ Woken o c → (state_of m.monitors).owner o ≡ Some u → Refuses why.Held
    pub worn : (o c : ℕ) → (state_of m.monitors).waiting thread ≡ Woken o c → (state_of m.monitors).owner o ≡ None
        → m.monitors.last ≤ (state_of m.monitors).number o → Refuses why.Worn
    pub ok : (o c : ℕ) → (state_of m.monitors).waiting thread ≡ Woken o c → (state_of m.monitors).owner o ≡ None
        → (state_of m.monitors).number o < m.monitors.last → Does m thread Done (Resume (object_of o) ((state_of m.monitors).number o))

  -- the event wakes these threads; the store isn't told
  pub record Wakes (m : Live) (thread : ℕ) (event : Event) (woken : List Lane) : Type 0 where
    pub monitors : Table
    pub allowed : MayDo (setting_of m.monitors) (state_of m.monitors) thread event
    pub named : IsEventOf (setting_of m.monitors) event
    pub answers : woken_in answer ≡ Some woken
    pub runs : new ≡ Running (record m { monitors = monitors })
    pub after : IsAfter m.monitors thread event monitors

  -- the least thread of the wait set is woken, if there is one (JLS 17.2.2 leaves open which)
  pub record Notifies (m : Live) (thread : ℕ) (o : ObjectId) : Type 0 where
    pub not_held : (state_of m.monitors).owner o.0 ≢ Some thread → Refuses why.NotHeld
    pub ok : (state_of m.monitors).owner o.0 ≡ Some thread
        → Wakes m thread (Notify o (least_of (waiters m.monitors o.0))) (take 1 (waiters m.monitors o.0))

  -- all threads of the wait set are woken (JLS 17.2.2)
  pub record NotifiesAll (m : Live) (thread : ℕ) (o : ObjectId) : Type 0 where
    pub not_held : (state_of m.monitors).owner o.0 ≢ Some thread → Refuses why.NotHeld
    pub ok : (state_of m.monitors).owner o.0 ≡ Some thread → Wakes m thread (NotifyAll o (waiters m.monitors o.0)) (waiters m.monitors o.0)

  -- the step is one of a thread that there is, on a name that is declared, and the thread doesn't wait
  abbrev pub WhileAwake : Live → (thread : ℕ) → (names : List (List ℕ)) → (name : List ℕ) → (rest : ℕ → Type 0) → Type 0
  WhileAwake m t names name rest =
      Tests (lanes_of m.monitors ≤ t) (Refuses why.Lane) (
      Named names name (Refuses why.Unknown) (λ number.
      Tests ((state_of m.monitors).waiting t ≢ Awake) (Refuses why.Waiting) (rest number)))

  -- what a thread's step does
  abbrev pub StepsAs : Live → (thread : ℕ) → Action → Type 0
  StepsAs m t (order.Enter name) = WhileAwake m t m.monitors.schema.objects name (λ o. Enters m t (object_of o))
  StepsAs m t (order.Exit name) = WhileAwake m t m.monitors.schema.objects name (λ o. Exits m t (object_of o))
  StepsAs m t (order.Load name) = WhileAwake m t (names_of m.monitors.schema.fields) name (λ f. Loads m t (field_of f))
  StepsAs m t (order.Store name value) = WhileAwake m t (names_of m.monitors.schema.fields) name (λ f. Stores m t (field_of f) value)
  StepsAs m t (order.Wait name) = WhileAwake m t m.monitors.schema.objects name (λ o. Waits m t (object_of o))
  StepsAs m t order.Resume = Tests (lanes_of m.monitors ≤ t) (Refuses why.Lane) (Resumes m t)
  StepsAs m t (order.Notify name) = WhileAwake m t m.monitors.schema.objects name (λ o. Notifies m t (object_of o))
  StepsAs m t (order.NotifyAll name) = WhileAwake m t m.monitors.schema.objects name (λ o. NotifiesAll m t (object_of o))

  -- a call of a store that hadn't failed, after which the monitors are as they were. A crash inside it leaves the image before
  -- or after it
  pub record Calls (m : Live) (said : Answer) (store : Parts Memory) (w : Doubt) : Type 0 where
    pub answers : answer ≡ said
    pub runs : new ≡ Running (record m { store = store })
    pub layout : store.known.layout ≡ m.store.known.layout
    pub ran : m.store.known.has_failed ≡ false
    pub running : store.known.has_failed ≡ false
    pub shown : (s : Setting) (p : Past) → Tells m.store s p
        → LeavesOnly (device_of m.store.disk) (device_of store.disk) (ShowsStep m.store.known.layout s p w)

  -- a crash inside the call leaves what stands for the sections that were acknowledged before it, and for no others
  abbrev pub KeepsAcknowledged : Live → Parts Memory → Type 0
  KeepsAcknowledged m store = (s : Setting) (p : Past) → Tells m.store s p
      → LeavesOnly (device_of m.store.disk) (device_of store.disk) (StandsForCut m.store.known.layout s p.logged p.cut)

  -- the records that no log has yet are logged. That acknowledges nothing
  pub record Logs (m : Live) : Type 0 where
    pub store : Parts Memory
    pub records : ℕ
    pub call : Calls m (Logged records) store Logging
    pub takes : TakesSequence m store
    -- A crash inside the line keeps exactly what was acknowledged.
    pub stands : KeepsAcknowledged m store
    -- `log` prints how many records are newly logged.
    pub count : (s : Setting) (p : Past) → Tells m.store s p → records ≡ length p.fresh
    -- `log` logs all that was applied.
    pub after : (s : Setting) (p : Past) → Tells m.store s p → Tells store s (after_log p)

  -- unless the control is worn
  abbrev pub LogsRecords : Live → Type 0
  LogsRecords m = Logs m ⊎ IsRefusedByStore m (λ s p reason. RefusesLog m.store.known p reason)

  -- home cells are written until no field is dirty. That acknowledges nothing
  pub record WritesHome (m : Live) : Type 0 where
    pub store : Parts Memory
    pub cells : ℕ
    pub call : Calls m (Wrote cells) store Nothing
    -- `home` leaves the control's sequence.
    pub sequence : store.known.committed.sequence ≡ m.store.known.committed.sequence
    -- A crash inside the line keeps exactly what was acknowledged.
    pub stands : KeepsAcknowledged m store
    -- `home` writes home cells until no field is dirty, and prints how many.
    pub after : (s : Setting) (p : Past) → Tells m.store s p → BringsHome store s p cells

  -- the stable cut is acknowledged
  pub record Acknowledges (m : Live) : Type 0 where
    pub store : Parts Memory
    pub sections : List ℕ
    pub answers : acknowledged_in answer ≡ Some sections
    pub runs : new ≡ Running (record m { store = store })
    pub layout : store.known.layout ≡ m.store.known.layout
    pub ran : m.store.known.has_failed ≡ false
    pub running : store.known.has_failed ≡ false
    pub shown : (s : Setting) (p : Past) → Tells m.store s p
        → LeavesOnly (device_of m.store.disk) (device_of store.disk) (ShowsStep m.store.known.layout s p Settling)
    pub takes : TakesSequence m store
    -- A crash inside `settle` leaves what stands for the sections that were acknowledged before, or for those that it
    -- acknowledges.
    pub stands : (s : Setting) (p : Past) (cut : ℕ → ℕ) → Tells m.store s p → IsStable (actions p.logged) cut
        → LeavesOnly (device_of m.store.disk) (device_of store.disk) (StandsForEither m.store.known.layout s p.logged p.cut cut)
    pub clean : (s : Setting) (p : Past) → Tells m.store s p → IsClean s p
    pub lanes : length sections ≡ m.store.known.layout.lanes
    -- `settle` acknowledges the stable cut of what was logged.
    pub after : (s : Setting) (p : Past) (cut : ℕ → ℕ) → Tells m.store s p → IsStable (actions p.logged) cut → Tells store s (after_settle p cut)
    -- `settle` prints the sections of the stable cut.
    pub counts : (s : Setting) (p : Past) (cut : ℕ → ℕ) → Tells m.store s p → IsStable (actions p.logged) cut
        → (l : ℕ) → l < m.store.known.layout.lanes → slice_index sections l ≡ cut l

  -- unless a field is dirty or the control is worn
  abbrev pub Settles : Live → Type 0
  Settles m = Acknowledges m ⊎ IsRefusedByStore m (λ s p reason. RefusesSettle m.store.known s p reason)

  -- What is acknowledged is trimmed, so that its places are free; where nothing is to be trimmed nothing changes. That acknowledges nothing
  pub record Trims (m : Live) : Type 0 where
    pub store : Parts Memory
    pub call : Calls m Done store Trimming
    pub takes : TakesSequence m store
    -- A crash inside the line keeps exactly what was acknowledged.
    pub stands : KeepsAcknowledged m store
    -- After `trim` what was acknowledged is trimmed.
    pub after : (s : Setting) (p : Past) → Tells m.store s p → Tells store s (after_trim p)
    -- Where nothing is to be trimmed, nothing changes.
    pub none : (s : Setting) (p : Past) → Tells m.store s p → IsTrimmed p → store ≡ m.store

  -- unless the control is worn
  abbrev pub TrimsLogs : Live → Type 0
  TrimsLogs m = Trims m ⊎ IsRefusedByStore m (λ s p reason. RefusesTrim m.store.known p reason)

  -- the values of all fields after all stores are told
  pub record TellsHeap (m : Live) : Type 0 where
    pub values : List ℕ
    pub answers : heap_in answer ≡ Some values
    pub same : new ≡ old
    pub count : length values ≡ m.store.known.layout.fields
    pub each : (s : Setting) (p : Past) → Tells m.store s p → (f : ℕ) → f < m.store.known.layout.fields
        → slice_index values f ≡ value s.first f (applied p)

  -- the machine goes down with the disk that a crash leaves, all but the last so many writes and syncs ended and the next
  -- begun: such bytes as the device may hold after a crash at that very moment. Until then the monitors and the store agreed,
  -- and so the image, if it is one, is of the machine's schema
  pub record GoesDown (m : Live) (fill : Fill) (back : ℕ) : Type 0 where
    pub answers : answer ≡ Crashed
    pub agrees : Agrees m.monitors m.store
    pub down : new ≡ Down (record { schema = m.monitors.schema; disk = fresh (crash_back fill back m.store.disk) })
    pub possible : Image (moment_after m.store.disk.first (done_at (begun_at back m.store.disk) m.store.disk.stops)) (crash_back fill back m.store.disk)
    pub any_moment : LeftSinceStop (begun_at back m.store.disk) m.store.disk (crash_back fill back m.store.disk)
    -- A script's disk has no image but of its schema. Whatever a crash leaves of it, at any write or sync since it was
    -- made, has the schema's objects, fields, guards, marks and transient first values, if its header and guard rows
    -- can be read.
    pub of_schema : IsOfSchema m.monitors.schema (crash_back fill back m.store.disk)

  -- unless there were fewer writes and syncs
  abbrev pub Crashes : Live → Fill → (back : ℕ) → Type 0
  Crashes m fill back =
      Tests (length m.store.disk.stops < back) (Refuses why.Back) (GoesDown m fill back)

  -- the study of the image is shown. The machine stays down, with a device on which nothing was done
  pub record Shows (w : Wreck) : Type 0 where
    pub study : Study
    pub disk : Memory
    pub answers : answer ≡ Shown study
    pub stays : new ≡ Down (record w { disk = disk })
    -- `show` prints the study of the image on the crashed device.
    pub studied : IsStudyOf (device_of w.disk).now.bytes study
    -- After `show` the machine stays down, and the device reads as before.
    pub same : SameMoments (device_of w.disk) (device_of disk)

  -- there is none: the image is refused by the first thing that is wrong with it
  pub record ShowsNone (w : Wreck) : Type 0 where
    pub reason : RecoverError
    pub refusal : Refusal
    pub disk : Memory
    pub told : told_of_recovery reason ≡ Ok refusal
    pub answers : answer ≡ Refused refusal
    pub stays : new ≡ Down (record w { disk = disk })
    pub because : reading.RefusesImage (device_of w.disk).now.bytes reason
    pub same : SameMoments (device_of w.disk) (device_of disk)

  -- the image is shown, or refused
  abbrev pub ShowsImage : Wreck → Type 0
  ShowsImage w = Shows w ⊎ ShowsNone w

  -- the device is recovered: the store is over what recovery made of it and was told nothing, and each field has the value
  -- that is told of it, a transient one its first value. Its image was of one of these versions
  pub record Recovers (versions : Versions) (w : Wreck) : Type 0 where
    pub taken : IsTooOld versions (device_of w.disk).now.bytes → ⊥
    pub live : Live
    pub report : Report
    pub answers : answer ≡ answers.Recovered report
    pub runs : new ≡ Running live
    pub restores : Restores w.disk live.store report
    pub begins : BeginsWith w.schema report.heap.items live.store
    pub restored : IsRestored w.schema live.store.known.layout.lanes report.heap.items live.monitors

  -- the image is refused, and the machine stays down
  pub record RefusesImage (versions : Versions) (w : Wreck) : Type 0 where
    pub refusal : Refusal
    pub disk : Memory
    pub answers : answer ≡ Refused refusal
    pub stays : new ≡ Down (record w { disk = disk })
    pub refuses : RefusesDisk versions w.disk disk refusal

  -- the device is recovered, or its image is refused
  abbrev pub RecoversDevice : Versions → Wreck → Type 0
  RecoversDevice versions w = Recovers versions w ⊎ RefusesImage versions w

-- what is so while the machine declares, and what is so in any other state
abbrev pub WhileDeclaring : MachineState → (declaring : Declarations → Type 0) → (other : Type 0) → Type 0
WhileDeclaring (Declaring d) declaring other = declaring d
WhileDeclaring (Running m) declaring other = other
WhileDeclaring (Down d) declaring other = other
WhileDeclaring Spent declaring other = other

-- what is so while the machine runs, and what is so in any other state
abbrev pub WhileRunning : MachineState → (running : Live → Type 0) → (other : Type 0) → Type 0
WhileRunning (Declaring d) running other = other
WhileRunning (Running m) running other = running m
WhileRunning (Down d) running other = other
WhileRunning Spent running other = other

-- what is so while the machine is down, and what is so in any other state
abbrev pub WhileDown : MachineState → (down : Wreck → Type 0) → (other : Type 0) → Type 0
WhileDown (Declaring d) down other = other
WhileDown (Running m) down other = other
WhileDown (Down d) down other = down d
WhileDown Spent down other = other

-- while the machine is down its device is recovered, if its image is of one of these versions
abbrev pub RecoversWhileDown : Versions → (old : MachineState) → Answer → (new : MachineState) → Type 0
RecoversWhileDown versions old answer new = WhileDown old (RecoversDevice old answer new versions) (Refuses old answer new why.State)

-- what the line makes of the machine, and what is answered. A line that doesn't belong to the state is refused as `state`
abbrev pub Steps : (old : MachineState) → Order → Answer → (new : MachineState) → Type 0
Steps old (order.Object name) answer new = WhileDeclaring old (λ d. AnswersDeclaration old answer new d (order.Object name)) (Refuses old answer new why.State)
Steps old (order.Field name owner guard first is_transient) answer new = WhileDeclaring old (λ d. AnswersDeclaration old answer new d (order.Field name owner guard first is_transient)) (Refuses old answer new why.State)
Steps old (order.Format lanes capacity) answer new = WhileDeclaring old (λ d. FormatsImage old answer new d lanes capacity) (Refuses old answer new why.State)
Steps old (order.Act l asked) answer new = WhileRunning old (λ m. StepsAs old answer new m l.0 asked) (Refuses old answer new why.State)
Steps old order.Log answer new = WhileRunning old (LogsRecords old answer new) (Refuses old answer new why.State)
Steps old order.Home answer new = WhileRunning old (WritesHome old answer new) (Refuses old answer new why.State)
Steps old order.Settle answer new = WhileRunning old (Settles old answer new) (Refuses old answer new why.State)
Steps old order.Trim answer new = WhileRunning old (TrimsLogs old answer new) (Refuses old answer new why.State)
Steps old order.Heap answer new = WhileRunning old (TellsHeap old answer new) (Refuses old answer new why.State)
Steps old (order.Crash fill back) answer new = WhileRunning old (λ m. Crashes old answer new m fill back) (Refuses old answer new why.State)
Steps old order.Show answer new = WhileDown old (ShowsImage old answer new) (Refuses old answer new why.State)
Steps old order.Recover answer new = RecoversWhileDown Current old answer new
Steps old order.Upgrade answer new = RecoversWhileDown Both old answer new
