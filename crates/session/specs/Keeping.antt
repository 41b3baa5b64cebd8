-- What the parts of a call keep of a session.
use Rattle.std.specs.Bool.{OnFalse}
use Rattle.std.specs.Prelude.{ℕ, ◌≡◌, ◌+◌, ◌<◌, ◌≤◌, Bool, true, [], ◌∷◌, Option, Some, None, Result, Err, IfErr, MatchBool, MatchOption, MatchResult, length}
use Rattle.rtrb.specs.Ring.{known_free}
use Rattle.heap_model.specs.declared.limits.TheConstants.{SECTION_RECORDS}
use Rattle.heap_model.specs.declared.event.Event.TheVariants.{Look, Resume, Store}
use Rattle.heap_model.specs.declared.event.Sight.TheVariants.{Found, StillInSet}
use Rattle.heap_model.specs.declared.ids.FieldId.{FieldId}
use Rattle.heap_model.specs.declared.ids.ObjectId.{ObjectId}
use Rattle.heap_model.specs.Own.{Hold}
use Rattle.lock_word.specs.declared.lock_word.TheConstants.{FAT_SLOTS}
use Rattle.monitor.specs.Seats.{Home, Sitting}
use Rattle.thread_steps.specs.Views.{Fattens, IsSeatOf, KeepsEach, Lengthens, plan, view}
use Rattle.thread_steps.specs.declared.grip.Grip.{Grip}
use Rattle.thread_steps.specs.declared.grip.Seen.{Seen}
use Rattle.session.specs.declared.error.SessionError.{SessionError}
use Rattle.session.specs.declared.error.SessionError.TheVariants.{NotHeld, UnknownObject}
use Rattle.session.specs.declared.error.Still.{Still}
use Rattle.session.specs.declared.parts.Parts.{Parts}
use Rattle.session.specs.declared.session.Session.{Session}
use Rattle.session.specs.declared.waiting.Waiting.{Waiting}
use Rattle.session.specs.Sits.{Finds, FindsNone}
use Rattle.session.specs.Calls.{HasRingToWait, IsQuiet, IsWaitWorn, Lacks, Owns, RefusesWait, SeesTaken}
use Rattle.session.specs.Logs.{held_count}
use Rattle.session.specs.Sessions.{awaited, rooms_of, view_of, view_waiting, IsSessionOf, SameRing}
use Rattle.session.specs.Steps.{MissesResume, RefusesFat, RefusesRoom}

-- the hold that a grip is of
abbrev pub hold_of : Grip → Hold
hold_of g = record { count = g.count; number = g.number }

-- the session has this grip on the object, or none
abbrev pub HasGrip : Session → ObjectId → Grip → Type 0
HasGrip s o g = Finds (view_of s) s.parts.held.items o g

abbrev pub HasNoGrip : Session → ObjectId → Type 0
HasNoGrip s o = FindsNone (view_of s) s.parts.held.items o

-- nothing was pushed or counted
pub record SameNumbers (p q : Parts) : Type 0 where
  pub ring : q.ring ≡ p.ring
  pub records : q.records ≡ p.records
  pub place : q.place ≡ p.place
  pub capacity : q.capacity ≡ p.capacity
  pub trimmed : q.trimmed ≡ p.trimmed
  pub held : length q.held.items ≡ length p.held.items

-- A write of a field, which makes so many records: it is told, they are counted, and the session holds what it held.
pub record Writes (h : Home) (x y : Session) (f : FieldId) (before value more : ℕ) : Type 0 where
  pub seat : IsSessionOf h y
  pub ring : SameRing x y
  pub told : Lengthens (view_of x) (view_of y) (Store f before value ∷ [])
  pub held : y.parts.held ≡ x.parts.held
  pub records : y.parts.records ≡ x.parts.records + more

-- A look whether records up to this place fit a lane of this capacity: by the trimmed place that was known, or by the one that is read
-- from the published word now. Nothing is told.
pub record LooksForRoom (h : Home) (s t : Sitting) (was least last capacity : ℕ) (fits : Bool) : Type 0 where
  pub seat : IsSeatOf h t
  pub mark : (view t).mark ≡ (view s).mark
  pub told : Lengthens (view s) (view t) []
  pub grips : KeepsEach (view s) (view t)
  pub known : least ≤ (view t).trimmed
  pub rises : was ≤ least
  pub room : MatchBool fits (last ≤ least + capacity) ((view t).trimmed + capacity < last)
  pub looked : OnFalse fits ((view s).trimmed_looks < (view t).trimmed_looks)

-- there is room for a wait, for the acquire after it and its release; and for a section where the wait ends one
pub record HasRoomToWait (p : Parts) : Type 0 where
  pub ring : length p.held.items ≡ 1 → SECTION_RECORDS + 1 ≤ known_free p.ring
  pub lane : length p.held.items ≡ 1 → p.place + SECTION_RECORDS + 1 ≤ p.trimmed + p.capacity
  pub short : 1 < length p.held.items → p.records + length p.held.items + 2 ≤ SECTION_RECORDS

-- the session may wait on this object, which is fat
pub record MayWait (s : Session) (o : ObjectId) (h : Hold) (g : Grip) : Type 0 where
  pub found : Finds (view_of s) s.parts.held.items o g
  pub number : g.number ≡ h.number
  pub fat : (i : ℕ) × (g.slot ≡ Some i)
  pub room : HasRoomToWait s.parts
  pub fresh : ¬ IsWaitWorn (view_of s) h

-- the monitor of this grip was made fat, or no slot is left
abbrev pub MakesFat : Session → Grip → Option Grip → Type 0
MakesFat t g x = MatchOption x (FAT_SLOTS ≤ (view_of t).slots) (λ fat. Fattens (view_of t) g fat × HasGrip t g.object fat)

-- whether there is room for a wait: `s` is the session before the test, and `t` after it
abbrev pub FindsRoom : (s t : Session) → Result (Unit {0}) SessionError → Type 0
FindsRoom s t x = MatchResult x (λ _. HasRoomToWait t.parts) (RefusesRoom (rooms_of s) (view_of s) (view_of t))

-- the fat grip by which the session may wait, or the reason
abbrev pub FindsFat : (s t : Session) → Grip → Result Grip SessionError → Type 0
FindsFat s t g x = MatchResult x (MayWait t g.object (hold_of g)) (RefusesFat (view_of s) (view_of t) g.object (hold_of g))

-- a refusal of a wait that would end the section: the ring has room for the wait, or that is the reason
abbrev pub LooksAtRing : {A : Type 0} → (s t : Session) → Result A SessionError → Type 0
LooksAtRing s t x = held_count (view_of s) ≡ 1 → IfErr x (λ e. HasRingToWait s (t, e))

-- both tests
abbrev pub PreparesWait : (s t : Session) → ObjectId → Hold → Result Grip SessionError → Type 0
PreparesWait s t o h x = MatchResult x (MayWait t o h) (RefusesWait (rooms_of s) (view_of s) (view_of t) o h)

-- Both tests on a monitor, whether it is held or not: the refusals in their order, and nothing was told.
pub record AsksForGrip (h : Home) (s t : Session) (o : ObjectId) (x : Result Grip SessionError) : Type 0 where
  pub unknown : (plan h).objects ≤ o.0 → x ≡ Err UnknownObject
  pub not_held : o.0 < (plan h).objects → Lacks s o → x ≡ Err NotHeld
  pub held : (k : Hold) → o.0 < (plan h).objects → Owns s o k → PreparesWait s t o k x
  pub ring_room : (k : Hold) → o.0 < (plan h).objects → Owns s o k → LooksAtRing s t x

-- still in the wait set, by a look; or out of it, of which nothing more is told
abbrev pub TellsOfSet : (w x : Waiting) → (still : Bool) → Type 0
TellsOfSet w x still = MatchBool still
    (Lengthens (view_waiting w) (view_waiting x) (Look (awaited w) StillInSet ∷ []))
    (IsQuiet (view_waiting w) (view_waiting x) × (x.removed ≡ true))

-- a look at the monitor: free at this number, or held or worn
abbrev pub LooksAgain : (w x : Waiting) → (last : ℕ) → Result ℕ Seen → Type 0
LooksAgain w x last r = MatchResult r
    (λ n. (n < last) × Lengthens (view_waiting w) (view_waiting x) (Look (awaited w) (Found None 0 n) ∷ []))
    (SeesTaken (view_waiting w) (view_waiting x) (awaited w))

-- a try to take it at this number
abbrev pub Retakes : Waiting → (number : ℕ) → Result Session (Waiting × Still) → Type 0
Retakes w n r = MatchResult r
    (λ s. Lengthens (view_waiting w) (view_of s) (Resume (awaited w) n ∷ []))
    (λ e. MissesResume (view_waiting w) (view_waiting e.0) (awaited w) n e.1)
