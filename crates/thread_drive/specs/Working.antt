-- What a worker holds in its sections, and why its session refuses a call.
use Rattle.std.specs.Prelude.{ℕ, ◌≡◌, ◌≢◌, ◌⊎◌, ◌+◌, ◌<◌, ◌≤◌, ◌==◌, if◌then◌else◌, List, [], ◌∷◌, length, Option, None, Some, option_map, IfErr, MatchResult}
use Rattle.heap_model.specs.Own as by_events
use Rattle.heap_model.specs.OwnSections.{held_objects, open_records}
use Rattle.heap_model.specs.Setting.{Setting}
use Rattle.heap_model.specs.declared.event.Event.{Event}
use Rattle.heap_model.specs.declared.event.Event.TheVariants.{Look}
use Rattle.heap_model.specs.declared.event.Sight.TheVariants.{Found}
use Rattle.heap_model.specs.declared.ids.FieldId.{FieldId}
use Rattle.heap_model.specs.declared.ids.ObjectId.{ObjectId}
use Rattle.heap_model.specs.declared.limits.TheConstants.{LAST_PLACE, RING_RECORDS, SECTION_RECORDS}
use Rattle.monitor.specs.Seats.{Home}
use Rattle.thread_work.specs.Bodies.{Answer}
use Rattle.session.specs.Calls.{IsBehind}
use Rattle.session.specs.Logs.{place, rooms}
use Rattle.session.specs.Sessions.{IsSessionOf, capacity_of, view_of}
use Rattle.session.specs.declared.limits.TheConstants.{MOST_HELD}
use Rattle.session.specs.declared.error.SessionError.{SessionError}
use Rattle.session.specs.declared.session.Session.{Session}
use Rattle.session.specs.declared.error.SessionError.TheVariants.{UnknownObject, UnknownField, NotHeld, Behind, Worn}
use Rattle.thread_steps.specs.Views.{View, plan}

-- how many locks of the object a thread has by its events; `None` where it doesn't hold it
abbrev pub locks_in : List Event → (object : ℕ) → Option ℕ
locks_in events o = option_map (λ h. h.count) ((by_events.own events).hold o)

-- one lock of each of these objects
abbrev pub locks_of : (objects : List ℕ) → (object : ℕ) → Option ℕ
locks_of [] p = None
locks_of (o ∷ objects) p = if o == p then Some 1 else locks_of objects p

-- By its events a thread holds these objects, the one that it took last first, by one lock each, and its section has so many records at most.
pub record HoldsBy (g : Setting) (events : List Event) (objects : List ℕ) (records : ℕ) : Type 0 where
  pub held : held_objects g events ≡ objects
  pub once : (o : ℕ) → locks_in events o ≡ locks_of objects o
  pub few : open_records g events ≤ records

-- the same, by a view
abbrev pub HoldsJust : View → (objects : List ℕ) → (records : ℕ) → Type 0
HoldsJust v objects records = HoldsBy v.plan v.events objects records

-- a section with so many records in which these objects are held has room for one more, which isn't among them
pub record MayTake (objects : List ℕ) (records object : ℕ) : Type 0 where
  pub other : locks_of objects object ≡ None
  pub few : length objects < MOST_HELD
  pub room : records + length objects + 2 ≤ SECTION_RECORDS

-- a look showed the monitor free, at the last number
pub record SawLast (v : View) : Type 0 where
  pub object : ObjectId
  pub number : ℕ
  pub last : v.plan.last ≤ number
  pub older : List Event
  pub seen : v.events ≡ Look object (Found None 0 number) ∷ older

-- numbers have come to their end: places of the lane, or the release numbers of a monitor
abbrev pub IsAtEnd : View → Type 0
IsAtEnd v = (LAST_PLACE ≤ place v) ⊎ SawLast v

-- a view by the plan of this heap; whose it is isn't said
abbrev pub ViewOf : Home → (View → Type 0) → Type 0
ViewOf h is = (v : View) × (v.plan ≡ plan h) × is v

-- A session of this heap refuses to enter an object that isn't held: the heap has no object of this number, its lane has no room until the helper's next round, or numbers have come to their end.
abbrev pub RefusesEnter : Home → (capacity : ℕ) → ObjectId → SessionError → Type 0
RefusesEnter h capacity o UnknownObject = (plan h).objects ≤ o.0
RefusesEnter h capacity o Behind = ViewOf h (IsBehind (rooms RING_RECORDS capacity) SECTION_RECORDS)
RefusesEnter h capacity o Worn = ViewOf h IsAtEnd
RefusesEnter h capacity o _ = ⊥

-- it refuses to count in a field while these objects are held: the heap has no field of this number, or its guard isn't among them
abbrev pub RefusesCount : Home → FieldId → (objects : List ℕ) → SessionError → Type 0
RefusesCount h f objects UnknownField = (plan h).fields ≤ f.0
RefusesCount h f objects NotHeld = locks_of objects ((plan h).guard f.0) ≡ None
RefusesCount h f objects _ = ⊥

-- Why a worker ends early, by the clauses of `HeapThread::{enter, load, store, exit}`, where it uses objects and fields up to this number. Worker
-- k counts in field k + 1 with object k + 1 held, and then in field 0 with object 0 held. Either the heap has too few objects or fields, or
-- another object guards one of them; or its lane has no room until the helper's next round; or numbers have come to their end.
abbrev pub StopsAt : Home → (most capacity : ℕ) → SessionError → Type 0
StopsAt h most capacity UnknownObject = (plan h).objects ≤ most
StopsAt h most capacity UnknownField = (plan h).fields ≤ most
StopsAt h most capacity NotHeld = (f : ℕ) × (f ≤ most) × ((plan h).guard f ≢ f)
StopsAt h most capacity Behind = ViewOf h (IsBehind (rooms RING_RECORDS capacity) SECTION_RECORDS)
StopsAt h most capacity Worn = ViewOf h IsAtEnd
StopsAt h most capacity _ = ⊥

-- why one of as many workers as the words have lanes does
abbrev pub StopsWorker : Home → (capacity : ℕ) → SessionError → Type 0
StopsWorker h capacity e = StopsAt h h.plan.lanes capacity e

-- What a worker makes of its session: it holds nothing at the end, and where it has ended early, its session has refused a call.
pub record HasCounted (h : Home) (old new : Session) (answer : Answer) : Type 0 where
  pub of : IsSessionOf h new
  pub free : HoldsJust (view_of new) [] 0
  pub refused : IfErr answer (StopsAt h ((view_of old).lane.0 + 1) (capacity_of old))

-- A monitor that isn't held is taken, in a section with room for it, or its enter is refused and nothing else has changed.
abbrev pub TakesOne : Home → (old new : Session) → ObjectId → Answer → Type 0
TakesOne h old new o answer = (objects : List ℕ) (records : ℕ) → MayTake objects records o.0 → HoldsJust (view_of old) objects records →
    MatchResult answer (λ done. (o.0 < (plan h).objects) × HoldsJust (view_of new) (o.0 ∷ objects) (records + 1)) (λ e. RefusesEnter h (capacity_of old) o e × HoldsJust (view_of new) objects records)

-- The section has at most one record more, and the same monitors are held.
abbrev pub AddsRecord : (old new : Session) → Type 0
AddsRecord old new = (objects : List ℕ) (records : ℕ) → 0 < length objects → HoldsJust (view_of old) objects records → HoldsJust (view_of new) objects (records + 1)

-- Why a field isn't counted in, where the section has room for the record.
abbrev pub RefusesToCount : Home → (old : Session) → FieldId → Answer → Type 0
RefusesToCount h old f answer = (objects : List ℕ) (records : ℕ) → records + length objects < SECTION_RECORDS → HoldsJust (view_of old) objects records → IfErr answer (RefusesCount h f objects)

-- The monitor of this object is the last one that was taken.
abbrev pub HoldsLast : Session → (object : ℕ) → Type 0
HoldsLast s o = (objects : List ℕ) × (records : ℕ) × HoldsJust (view_of s) (o ∷ objects) records

-- It is given back, and the others are held.
abbrev pub GivesBack : (old new : Session) → (object : ℕ) → Type 0
GivesBack old new o = (objects : List ℕ) (records : ℕ) → locks_of objects o ≡ None → HoldsJust (view_of old) (o ∷ objects) records → HoldsJust (view_of new) objects (records + 1)
