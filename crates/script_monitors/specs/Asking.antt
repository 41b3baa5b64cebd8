-- What a thread is answered that asks for a step, before it is done (JLS 17.1, 17.2).
use Rattle.std.specs.Prelude.{ℕ, ◌≡◌, ◌≢◌, ◌<◌, ◌≤◌, Result, Ok, Err, IfOk, Some, None, List, [], ◌∷◌, if◌then◌else◌}
use Rattle.guards.specs.Schema.{guard_of}
use Rattle.heap_model.specs.declared.ids.FieldId.{FieldId}
use Rattle.heap_model.specs.declared.ids.Lane.{Lane}
use Rattle.heap_model.specs.declared.ids.ObjectId.{ObjectId}
use Rattle.heap_model.specs.declared.event.Event.{Event}
use Rattle.heap_model.specs.declared.event.Event.TheVariants.{Enter, NestedEnter, NestedExit, Exit, Load, Store, Wait, Resume, Notify}
use Rattle.heap_model.specs.Events.{MayDo}
use Rattle.heap_model.specs.State.{State, Awake, InSet, Woken, with_at, woken_from}
use Rattle.script_monitors.specs.declared.refusal.MonitorRefusal.{MonitorRefusal}
use Rattle.script_monitors.specs.declared.refusal.MonitorRefusal.TheVariants as why
use Rattle.script_monitors.specs.Table.{Table, lanes_of, setting_of, state_of, IsStepOf}
use Rattle.script_monitors.specs.WaitSets.{is_in_set, least_of, wait_set}

-- the event that a lock of the object's monitor would be
pub record EnterIs (m : Table) (t : Lane) (o : ObjectId) (result : Result Event MonitorRefusal) : Type 0 where
  -- An event that is answered is one that the model allows (JLS 17.1, 17.2).
  pub allowed : (state_of m).waiting t.0 ≡ Awake → IfOk result (MayDo (setting_of m) (state_of m) t.0)
  pub kind : IfOk result (IsStepOf (setting_of m))
  -- A free monitor is taken at its release number.
  pub free : (state_of m).owner o.0 ≡ None → (state_of m).number o.0 < m.last → result ≡ Ok (Enter o ((state_of m).number o.0))
  -- The owner locks its monitor once more.
  pub nested : (state_of m).owner o.0 ≡ Some t.0 → result ≡ Ok (NestedEnter o)
  -- A monitor that another thread owns is refused.
  pub held : (u : ℕ) → (state_of m).owner o.0 ≡ Some u → u ≢ t.0 → result ≡ Err why.Held
  -- A monitor whose release number has come to the bound is refused.
  pub worn : (state_of m).owner o.0 ≡ None → m.last ≤ (state_of m).number o.0 → result ≡ Err why.Worn

-- the event that giving up a lock of the object's monitor would be
pub record ExitIs (m : Table) (t : Lane) (o : ObjectId) (result : Result Event MonitorRefusal) : Type 0 where
  -- An event that is answered is one that the model allows (JLS 17.1, 17.2).
  pub allowed : (state_of m).waiting t.0 ≡ Awake → IfOk result (MayDo (setting_of m) (state_of m) t.0)
  pub kind : IfOk result (IsStepOf (setting_of m))
  -- The owner's last lock frees the monitor, at its release number.
  pub last : (state_of m).owner o.0 ≡ Some t.0 → (state_of m).count o.0 ≡ 1 → result ≡ Ok (Exit o ((state_of m).number o.0))
  -- An owner of several locks gives up one.
  pub nested : (state_of m).owner o.0 ≡ Some t.0 → 1 < (state_of m).count o.0 → result ≡ Ok (NestedExit o)
  -- A thread that doesn't own the monitor is refused.
  pub not_held : (state_of m).owner o.0 ≢ Some t.0 → result ≡ Err why.NotHeld

-- what a load of the field gives
pub record LoadIs (m : Table) (t : Lane) (f : FieldId) (result : Result ℕ MonitorRefusal) : Type 0 where
  -- A load that is answered is one that the model allows.
  pub allowed : (state_of m).waiting t.0 ≡ Awake → IfOk result (λ v. MayDo (setting_of m) (state_of m) t.0 (Load f v))
  -- A load gives the field's value to the thread that owns the field's guard.
  pub ok : (state_of m).owner (guard_of m.schema f.0) ≡ Some t.0 → result ≡ Ok ((state_of m).value f.0)
  -- A load is refused where the thread doesn't own the field's guard.
  pub not_held : (state_of m).owner (guard_of m.schema f.0) ≢ Some t.0 → result ≡ Err why.NotHeld

-- the event that a store to the field would be
pub record StoreIs (m : Table) (t : Lane) (f : FieldId) (after : ℕ) (result : Result Event MonitorRefusal) : Type 0 where
  -- An event that is answered is one that the model allows (JLS 17.1, 17.2).
  pub allowed : (state_of m).waiting t.0 ≡ Awake → IfOk result (MayDo (setting_of m) (state_of m) t.0)
  pub kind : IfOk result (IsStepOf (setting_of m))
  -- A thread that owns the field's guard stores, over the field's value.
  pub ok : (state_of m).owner (guard_of m.schema f.0) ≡ Some t.0 → result ≡ Ok (Store f ((state_of m).value f.0) after)
  -- A store is refused where the thread doesn't own the field's guard.
  pub not_held : (state_of m).owner (guard_of m.schema f.0) ≢ Some t.0 → result ≡ Err why.NotHeld

-- the event that a wait on the object's monitor would be
pub record WaitIs (m : Table) (t : Lane) (o : ObjectId) (result : Result Event MonitorRefusal) : Type 0 where
  -- An event that is answered is one that the model allows (JLS 17.1, 17.2).
  pub allowed : (state_of m).waiting t.0 ≡ Awake → IfOk result (MayDo (setting_of m) (state_of m) t.0)
  pub kind : IfOk result (IsStepOf (setting_of m))
  -- The owner waits, and frees the monitor at its release number.
  pub ok : (state_of m).owner o.0 ≡ Some t.0 → result ≡ Ok (Wait o ((state_of m).number o.0))
  -- A thread that doesn't own the monitor is refused.
  pub not_held : (state_of m).owner o.0 ≢ Some t.0 → result ≡ Err why.NotHeld

-- the event that taking a monitor again after a wait would be
pub record ResumeIs (m : Table) (t : Lane) (result : Result Event MonitorRefusal) : Type 0 where
  -- An event that is answered is one that the model allows (JLS 17.1, 17.2).
  pub allowed : IfOk result (MayDo (setting_of m) (state_of m) t.0)
  pub kind : IfOk result (IsStepOf (setting_of m))
  -- A thread that doesn't wait is refused.
  pub not_waiting : (state_of m).waiting t.0 ≡ Awake → result ≡ Err why.NotWaiting
  -- A thread that is in a wait set still is refused.
  pub in_set : (o c : ℕ) → (state_of m).waiting t.0 ≡ InSet o c → result ≡ Err why.InSet
  -- A woken thread is refused while another one owns the monitor.
  pub held : (o c u : ℕ) → (state_of m).waiting t.0 ≡ Woken o c → (state_of m).owner o ≡ Some u → result ≡ Err why.Held
  -- A woken thread is refused where the monitor's release number has come to the bound.
  pub worn : (o c : ℕ) → (state_of m).waiting t.0 ≡ Woken o c → (state_of m).owner o ≡ None → m.last ≤ (state_of m).number o → result ≡ Err why.Worn
  -- A woken thread takes a free monitor again, at its release number.
  pub ok : (o c : ℕ) → (state_of m).waiting t.0 ≡ Woken o c → (state_of m).owner o ≡ None → (state_of m).number o < m.last
      → result ≡ Ok (Resume (record { 0 = o }) ((state_of m).number o))

-- the threads in the object's wait set, in order
abbrev pub waiters : Table → ObjectId → List Lane
waiters m o = wait_set (lanes_of m) (state_of m) o.0

-- the thread, if it is in the object's wait set
abbrev pub member_of : Table → Lane → ObjectId → List Lane
member_of m l o = if is_in_set o.0 ((state_of m).waiting l.0) then l ∷ [] else []

-- the event of waking the least of them, if there is one
abbrev pub notice : Table → ObjectId → Event
notice m o = Notify o (least_of (waiters m o))

-- the owner of the object's monitor may wake by this event, if it doesn't wait
abbrev pub MayNotify : Table → Lane → ObjectId → Event → Type 0
MayNotify m t o e = (state_of m).waiting t.0 ≡ Awake → (state_of m).owner o.0 ≡ Some t.0 → MayDo (setting_of m) (state_of m) t.0 e

-- the thread is woken, if it is in the object's wait set
abbrev pub less_one : State → Lane → ObjectId → State
less_one s l o = record s { waiting = with_at s.waiting l.0 (woken_from o.0 (s.waiting l.0)) }
