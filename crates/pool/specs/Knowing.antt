-- What a session knows of fields as cells, by its thread's own events (this project's own).
use Rattle.std.specs.Prelude.{ℕ, ◌≡◌, ◌+◌, nat_lt, if◌then◌else◌, List, [], ◌∷◌, Option, Some, None}
use Rattle.heap_model.specs.declared.limits.TheConstants.{SECTION_RECORDS}
use Rattle.heap_model.specs.declared.event.Event.{Event}
use Rattle.heap_model.specs.declared.event.Event.TheVariants.{Load, Store}
use Rattle.heap_model.specs.Setting.{Setting}
use Rattle.heap_model.specs.Own.{Hold, own}
use Rattle.heap_model.specs.OwnSections.{held_in, open_records}
use Rattle.heap_model.specs.Known.{known_value}
use Rattle.monitor.specs.Seats.{Home}
use Rattle.thread_steps.specs.Views.{View, plan, Lengthens}
use Rattle.session.specs.declared.session.Session.{Session}
use Rattle.session.specs.declared.error.SessionError.{SessionError}
use Rattle.session.specs.declared.error.SessionError.TheVariants.{UnknownField, NotHeld, SectionFull}
use Rattle.session.specs.Calls.{records_of}
use Rattle.session.specs.Sessions.{SameRing, view_of}
use Rattle.pool.specs.Knowledge.{Access, Loaded, Stored, Knowledge}
use Rattle.pool.specs.declared.in_section.InSection.{InSection}

-- the session, and the shared words that it uses
abbrev pub session_of : InSection → Session
session_of u = u.session

abbrev pub home_of : InSection → Home
home_of u = u.shared.now

-- the answer where the monitor is held, or that it isn't
abbrev pub where_held : Option Hold → Option SessionError → Option SessionError
where_held None held = Some NotHeld
where_held (Some h) held = held

-- why a load of the field is refused
abbrev pub load_fault_in : Setting → List Event → (field : ℕ) → Option SessionError
load_fault_in g events f = if nat_lt f g.fields then where_held ((own events).hold (g.guard f)) None else Some UnknownField

-- why stores that make so many records are refused to a section
abbrev pub full_fault_in : Setting → List Event → (records : ℕ) → Option SessionError
full_fault_in g events n =
    if nat_lt 0 n then (if nat_lt SECTION_RECORDS (open_records g events + held_in g events + n) then Some SectionFull else None) else None

-- how many records the stores to these two fields make
abbrev pub records_of_two : Setting → (first second : ℕ) → ℕ
records_of_two g f h = records_of g (record { 0 = f }) + records_of g (record { 0 = h })

-- why a store to two fields is refused
abbrev pub store_fault_in : Setting → List Event → (first second : ℕ) → Option SessionError
store_fault_in g events f h =
    if nat_lt f g.fields
    then (if nat_lt h g.fields then where_held ((own events).hold (g.guard f)) (where_held ((own events).hold (g.guard h)) (full_fault_in g events (records_of_two g f h))) else Some UnknownField)
    else Some UnknownField

-- what a thread knows by its own events: the values that it loaded or stored since it took the field's guard
abbrev pub knowledge_in : Setting → List Event → Knowledge SessionError
knowledge_in g events = record { value = known_value g events; load_fault = load_fault_in g events; store_fault = store_fault_in g events }

abbrev pub known_by : InSection → Knowledge SessionError
known_by u = knowledge_in (plan (home_of u)) (view_of (session_of u)).events

-- each is a load or a store
abbrev pub AreOfFields : List Event → Type 0
AreOfFields [] = Unit {0}
AreOfFields (Load f v ∷ older) = AreOfFields older
AreOfFields (Store f before after ∷ older) = AreOfFields older
AreOfFields (_ ∷ older) = ⊥

-- what they loaded and stored
abbrev pub accesses_of : List Event → List Access
accesses_of [] = []
accesses_of (Load f v ∷ older) = Loaded f.0 v ∷ accesses_of older
accesses_of (Store f before after ∷ older) = Stored f.0 after ∷ accesses_of older
accesses_of (_ ∷ older) = accesses_of older

-- the thread was told just these loads and stores, and nothing else
abbrev pub TellsOfFields : View → View → List Access → Type 0
TellsOfFields v w done = (newer : List Event) × AreOfFields newer × (accesses_of newer ≡ done) × Lengthens v w newer

-- The heap, the session's end of its ring and its lane are the same, and the thread was told just these loads and stores.
pub record Keeps (u v : InSection) (done : List Access) : Type 0 where
  pub home : home_of v ≡ home_of u
  pub ring : SameRing (session_of u) (session_of v)
  pub told : TellsOfFields (view_of (session_of u)) (view_of (session_of v)) done
