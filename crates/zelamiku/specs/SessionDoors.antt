-- The calls of a session, as C makes them: the calls of `host_heap` on what a handle has (this project's own). Each relates
-- what the handle has before and after, and the status that C gets.
use Rattle.std.specs.Prelude.{ℕ, ◌≡◌, [], ◌∷◌, ◌++◌, Option, Some, None, Result, Ok, Err, IfOk}
use Rattle.std.specs.FinSet as set
use Rattle.std.specs.Int.{bit_at}
use Rattle.std.specs.Ordering.{nat_cmp}
use Rattle.std.specs.Result.{result_unwrap_or}
use Rattle.heap_model.specs.declared.event.Sight.{Sight}
use Rattle.heap_model.specs.declared.event.Sight.TheVariants.{Found, StillInSet}
use Rattle.heap_model.specs.declared.ids.FieldId.{FieldId}
use Rattle.heap_model.specs.declared.ids.Lane.{Lane}
use Rattle.heap_model.specs.declared.ids.ObjectId.{ObjectId}
use Rattle.rtrb.specs.Ring.{sent}
use Rattle.host_heap.specs.Sessions.{SamePlace, SamePlaceResume, SamePlaceWait, Seated, SeatedWaiting, inner_resume, inner_wait}
use Rattle.lock_word.specs.Spelling.{sight_of}
use Rattle.lock_word.specs.WaitMask.{bit_of}
use Rattle.lock_word.specs.declared.fat_word.FatShape.{FatShape}
use Rattle.lock_word.specs.declared.lock_word.Shape.{Shape}
use Rattle.session.specs.Logs.{sections_ended}
use Rattle.session.specs.Sessions.{view_of}
use Rattle.session.specs.Calls.{AsksToResume, AsksToWait, Enters, Exits, Loads, Looks, Notifies, NotifiesAll, ReadsStable, StoresAs}
use Rattle.session.specs.declared.error.SessionError.{SessionError}
use Rattle.session.specs.declared.error.Still.{Still}
use Rattle.zelamiku.specs.Handles.{holding, Answers, ended_held, session_held, waiting_held}
use Rattle.zelamiku.specs.Own.{Held}
use Rattle.zelamiku.specs.SessionStatuses.{refusal_status, status_of, still_status}
use Rattle.zelamiku.specs.StopDoors.{UnlessStopped, UnlessStoppedWaiting}
use Rattle.zelamiku.specs.declared.session_calls.TheConstants.{NOBODY}
use Rattle.zelamiku.specs.declared.state.Open.{Open}
use Rattle.zelamiku.specs.declared.state.Open.TheVariants as kind
use Rattle.zelamiku.specs.declared.status.TheConstants.{NOTHING, OK, WAITING, WRONG_KIND}
use Rattle.zelamiku.specs.declared.words.Sight as words

-- no session is there that could make a call: the status says so, and what is there stays
abbrev pub HasNoSession : Open → Held → ℕ → Type 0
HasNoSession (kind.Waiting w) after status = (status ≡ WAITING) × (after ≡ waiting_held w)
HasNoSession (kind.Ended back) after status = (status ≡ NOTHING) × (after ≡ ended_held back)
HasNoSession other after status = (status ≡ WRONG_KIND) × (after ≡ holding other)

-- a call that a session makes
abbrev pub OfSession : (Seated → Held → ℕ → Type 0) → Open → Held → ℕ → Type 0
OfSession p (kind.Session s) after status = p s after status
OfSession p other after status = HasNoSession other after status

-- the session is there again, of the same heap, with its lane, its ring and the way by which it comes back
abbrev pub Stays : (Seated → Seated → ℕ → Type 0) → Seated → Held → ℕ → Type 0
Stays p s after status = (t : Seated) × (after ≡ session_held t) × SamePlace s t × p s t status

-- A call of a session through its handle: `p` is the call itself, of the session before it and after it.
abbrev pub AnswersAs : (p : Seated → Seated → (status : ℕ) → Type 0) → (before after : Held) (status : ℕ) → Type 0
AnswersAs p = Answers (OfSession (Stays p))

-- the same, by a call that a session doesn't make once it has seen that its heap has stopped
abbrev pub AnswersUnlessStopped : (p : Seated → Seated → (status : ℕ) → Type 0) → (before after : Held) (status : ℕ) → Type 0
AnswersUnlessStopped p = Answers (OfSession (UnlessStopped (Stays p)))

-- the object of this number, and the field
abbrev pub object_at : ℕ → ObjectId
object_at n = record { 0 = n }

abbrev pub field_at : ℕ → FieldId
field_at n = record { 0 = n }

-- an enter of the object of this number
abbrev pub EntersAt : (object : ℕ) → Seated → Seated → ℕ → Type 0
EntersAt object s t status = (answer : Result (Unit {0}) SessionError)
    × Enters s.home s.session t.session (object_at object) answer × (status ≡ status_of answer)

-- an exit
abbrev pub ExitsAt : (object : ℕ) → Seated → Seated → ℕ → Type 0
ExitsAt object s t status = (answer : Result (Unit {0}) SessionError)
    × Exits s.home s.session t.session (object_at object) answer × (status ≡ status_of answer)

-- the value that a load gives C: 0 where it is refused
abbrev pub value_told : Result ℕ SessionError → ℕ
value_told answer = result_unwrap_or answer 0

-- a load of the field of this number
abbrev pub LoadsAt : (field value : ℕ) → Seated → Seated → ℕ → Type 0
LoadsAt field value s t status = (answer : Result ℕ SessionError)
    × Loads s.home s.session t.session (field_at field) answer × (value ≡ value_told answer) × (status ≡ status_of answer)

-- a store
abbrev pub StoresAt : (field value : ℕ) → Seated → Seated → ℕ → Type 0
StoresAt field value s t status = (answer : Result (Unit {0}) SessionError)
    × StoresAs s.home s.session t.session (field_at field) value answer × (status ≡ status_of answer)

-- the lane that a notification took out, or that there was none
abbrev pub lane_told : Result (Option Lane) SessionError → ℕ
lane_told (Ok (Some lane)) = lane.0
lane_told (Ok None) = NOBODY
lane_told (Err e) = NOBODY

-- a notification of one
abbrev pub NotifiesAt : (object lane : ℕ) → Seated → Seated → ℕ → Type 0
NotifiesAt object lane s t status = (answer : Result (Option Lane) SessionError)
    × Notifies s.home s.session t.session (object_at object) answer × (lane ≡ lane_told answer) × (status ≡ status_of answer)

-- a lane's bit is set where the lane is in the mask
abbrev pub AreBitsOf : (lanes : ℕ) → set.FinSet nat_cmp → Type 0
AreBitsOf lanes mask = (l : ℕ) → bit_at lanes l ≡ bit_of mask l

-- a notification of all
abbrev pub NotifiesAllAt : (object lanes : ℕ) → Seated → Seated → ℕ → Type 0
NotifiesAllAt object lanes s t status = (answer : Result (set.FinSet nat_cmp) SessionError)
    × NotifiesAll s.home s.session t.session (object_at object) answer × IfOk answer (AreBitsOf lanes) × (status ≡ status_of answer)

-- the sight of a free monitor
abbrev pub free_sight : (number : ℕ) → words.Sight
free_sight number = record { owner = NOBODY; locks = 0; number = number }

-- what a look shows: the owner's lane, its locks, and how often the monitor has become free
abbrev pub sight_told : Sight → words.Sight
sight_told (Found None count number) = free_sight number
sight_told (Found (Some lane) count number) = record { owner = lane.0; locks = count; number = number }
sight_told StillInSet = free_sight 0

-- C is shown what these words show
abbrev pub IsSightOf : words.Sight → Shape × Option FatShape → Type 0
IsSightOf sight found = sight ≡ sight_told (sight_of found.0 found.1)

-- a look
abbrev pub LooksAt : (object : ℕ) (sight : words.Sight) → Seated → Seated → ℕ → Type 0
LooksAt object sight s t status = (answer : Result (Shape × Option FatShape) SessionError)
    × Looks s.home s.session t.session (object_at object) answer × IfOk answer (IsSightOf sight) × (status ≡ status_of answer)

-- what the session learns of its lane's acknowledged sections
abbrev pub ReadsStableAt : (sections : ℕ) → Seated → Seated → ℕ → Type 0
ReadsStableAt sections s t status = (status ≡ OK) × ReadsStable s.session t.session sections

-- the session's lane, and how many sections of it have ended; the session is as it was
pub record TellsLaneAt (lane sections : ℕ) (s t : Seated) (status : ℕ) : Type 0 where
  -- A session's lane is told.
  pub lane_is : lane ≡ (view_of s.session).lane.0
  -- The answer tells how many sections of the session have ended since the opening.
  pub ended : sections ≡ sections_ended (view_of s.session)
  -- A session whose lane is told stays as it was.
  pub same : t ≡ s
  pub ok : status ≡ OK

-- What a wait gave is there: a session that waits, or the session that was refused.
abbrev pub IsThereAfterWait : Result SeatedWaiting (Seated × SessionError) → Held → ℕ → Type 0
IsThereAfterWait (Ok w) after status = (after ≡ waiting_held w) × (status ≡ OK)
IsThereAfterWait (Err e) after status = (after ≡ session_held e.0) × (status ≡ refusal_status e.1)

-- a wait that a session asks for
abbrev pub WaitsFrom : (object : ℕ) → Seated → Held → ℕ → Type 0
WaitsFrom object s after status = (answer : Result SeatedWaiting (Seated × SessionError))
    × AsksToWait s.home s.session (object_at object) (inner_wait answer) × SamePlaceWait s answer × IsThereAfterWait answer after status

-- and through its handle
abbrev pub WaitsAt : (object : ℕ) → Open → Held → ℕ → Type 0
WaitsAt object = OfSession (UnlessStopped (WaitsFrom object))

-- What a resume gave is there: the session, or one that waits on.
abbrev pub IsThereAfterResume : Result Seated (SeatedWaiting × Still) → Held → ℕ → Type 0
IsThereAfterResume (Ok s) after status = (after ≡ session_held s) × (status ≡ OK)
IsThereAfterResume (Err e) after status = (after ≡ waiting_held e.0) × (status ≡ still_status e.1)

-- a resume of what waits
abbrev pub ResumesFrom : SeatedWaiting → Held → ℕ → Type 0
ResumesFrom w after status = (answer : Result Seated (SeatedWaiting × Still))
    × AsksToResume w.waiting (inner_resume answer) × SamePlaceResume w answer × IsThereAfterResume answer after status

-- and through its handle
abbrev pub Resumes : Open → Held → ℕ → Type 0
Resumes (kind.Waiting w) after status = UnlessStoppedWaiting ResumesFrom w after status
Resumes (kind.Ended back) after status = (status ≡ NOTHING) × (after ≡ ended_held back)
Resumes other after status = (status ≡ WRONG_KIND) × (after ≡ holding other)

-- A session that is ended has come back to its heap: it is the last that went into the ring by which it comes back. The handle keeps that ring's end.
abbrev pub EndsFrom : Seated → Held → ℕ → Type 0
EndsFrom s after status = (status ≡ OK) × (after ≡ ended_held (sent s.back ++ s.session ∷ []))

-- and through its handle
abbrev pub Ends : Open → Held → ℕ → Type 0
Ends = OfSession EndsFrom
