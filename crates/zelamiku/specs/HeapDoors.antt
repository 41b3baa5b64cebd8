-- What C's calls of a heap do to what its handle has, and what they answer, by the kind of what is there (this project's own).
use Rattle.std.specs.Prelude.{ℕ, ◌≡◌, ◌<◌, ◌≤◌, ◌↔◌, List, [], ◌∷◌, ◌++◌, ◌==◌, not, if◌then◌else◌, Option, Some, None, Result, Ok, Err, IfOk, IsErrOf, MatchResult, OnOk, drop, length, map, min, take}
use Rattle.disk_deferred.specs.Deferred.{stop_of}
use Rattle.disk_deferred.specs.Host.{Fetches, HasLooked, HaveMet, Host}
use Rattle.disk_deferred.specs.declared.call.DeviceCall.{DeviceCall}
use Rattle.disk_deferred.specs.declared.call.DeviceCall.TheVariants.{Write, Sync}
use Rattle.disk_deferred.specs.declared.call.TheConstants.{MOST_BYTES}
use Rattle.host_heap.specs.Again.{HandsAgain, HasNoneIdle}
use Rattle.host_heap.specs.Closing.{IsNotClosed}
use Rattle.host_heap.specs.Hosting.{Hosting, IsClosedWith, SameHeap, hosted_device}
use Rattle.host_heap.specs.Lanes.{IsAwaitedBy, IsJoinedHere}
use Rattle.host_heap.specs.Meeting.{AreAllMade, FetchesAll, SameButMet}
use Rattle.host_heap.specs.Opening.{IsMade, RefusesMaking}
use Rattle.host_heap.specs.Rounds.{HasRound}
use Rattle.host_heap.specs.Sessions.{Seated}
use Rattle.host_heap.specs.declared.closing.Closed.{Closed}
use Rattle.host_heap.specs.declared.closing.NotClosed.{NotClosed}
use Rattle.host_heap.specs.declared.closing.NotClosed.TheVariants as unclosed
use Rattle.host_heap.specs.declared.error.AcknowledgedError.{AcknowledgedError}
use Rattle.host_heap.specs.declared.error.AcknowledgedError.TheVariants.{BadLane, CallsLeft}
use Rattle.host_heap.specs.declared.error.HostError.{HostError}
use Rattle.host_heap.specs.declared.error.RoundError.{RoundError}
use Rattle.host_heap.specs.declared.lane_end.LaneEnd.{LaneEnd}
use Rattle.host_journal.specs.Hosted.{Hosted, SameButCalls}
use Rattle.law_hosted.specs.Safe.{KeepsFrom, KeepsNow}
use Rattle.image_parts.specs.Layout.{size_of}
use Rattle.rtrb.specs.Ring.{known_items}
use Rattle.image_parts.specs.declared.guard_row.GuardRow.{GuardRow}
use Rattle.recover.specs.declared.report.Report.{Report}
use Rattle.session.specs.Sessions.{view_of}
use Rattle.thread_steps.specs.Views.{plan}
use Rattle.heap_model.specs.Past.{Past}
use Rattle.trim_helper.specs.Parts.{IsServing}
use Rattle.zelamiku.specs.Own.{Held}
use Rattle.zelamiku.specs.Handles.{Answers, OfDevice, OfHeap, OfHost, nothing_held, heap_held, closed_held, journal_held, session_held}
use Rattle.zelamiku.specs.HeapStatuses.{acknowledged_status, host_status, not_closed_status, round_status}
use Rattle.zelamiku.specs.declared.heap_calls.TheConstants.{ALL}
use Rattle.zelamiku.specs.declared.state.Open.{Open}
use Rattle.zelamiku.specs.declared.status.TheConstants.{OK, OPEN, NO_MEMORY, NONE_LEFT, BAD_HEADER}
use Rattle.zelamiku.specs.declared.words.Call.{Call}
use Rattle.zelamiku.specs.declared.words.Field.{Field}
use Rattle.zelamiku.specs.declared.words.Found.{Found}

-- C sees an answer as its number and `OK`, or as the status of the refusal.
abbrev pub IsSeen : {E : Type 0} (status_of : E → ℕ) → Result ℕ E → (number status : ℕ) → Type 0
IsSeen status_of (Ok n) number status = (number ≡ n) × (status ≡ OK)
IsSeen status_of (Err e) number status = status ≡ status_of e

-- the fields that C declares: a transient one by a mark other than 0
abbrev pub row_of : Field → GuardRow
row_of f = record { guard = record { 0 = f.guard }; owner = record { 0 = f.owner }; first = f.first; transient = not (f.transient == 0) }

abbrev pub rows_of : List Field → List GuardRow
rows_of fields = map row_of fields

-- how many threads C has, as the heap counts them: more than 255 count as 255
abbrev pub wanted_of : (threads : ℕ) → ℕ
wanted_of threads = min threads 255

-- Why no heap is made: lanes that a byte can't count, before all else; want of memory; or the reason of the heap itself.
pub data RefusesFormat (objects : ℕ) (fields : List Field) (lanes capacity status : ℕ) : Type 0 where
  PastLanes : 255 < lanes → status ≡ BAD_HEADER → RefusesFormat objects fields lanes capacity status
  NoRoom : lanes ≤ 255 → status ≡ NO_MEMORY → RefusesFormat objects fields lanes capacity status
  NotMade : (e : HostError) → lanes ≤ 255 → RefusesMaking objects (rows_of fields) lanes capacity e → status ≡ host_status e → RefusesFormat objects fields lanes capacity status

-- a heap as C asks for it, or the status that says why there is none
abbrev pub MakesHeap : (objects : ℕ) (fields : List Field) (lanes capacity threads ring : ℕ) → Result Hosting ℕ → Type 0
MakesHeap objects fields lanes capacity threads ring answer =
    MatchResult answer (IsMade objects (rows_of fields) lanes capacity (wanted_of threads) ring) (RefusesFormat objects fields lanes capacity)

-- `zelamiku_format`, where the handle had nothing: a heap of these objects and fields, for so many threads, with rings of this room, and
-- the size of its image; or none, of size 0
pub data FormatsAt (threads ring objects : ℕ) (fields : List Field) (lanes capacity size : ℕ) (after : Held) (status : ℕ) : Type 0 where
  IsFormatted : (x : Hosting) → IsMade objects (rows_of fields) lanes capacity (wanted_of threads) ring x → size ≡ size_of x.helper.store.known.layout → after ≡ heap_held x → status ≡ OK
      → FormatsAt threads ring objects fields lanes capacity size after status
  NotFormatted : RefusesFormat objects fields lanes capacity status → size ≡ 0 → after ≡ nothing_held → FormatsAt threads ring objects fields lanes capacity size after status

-- what C is told of a heap and of what recovery reports: its layout, how many of its lanes threads have, and two counts
abbrev pub found_of : Hosting → Report → Found
found_of x report =
    record {
      size = size_of x.helper.store.known.layout;
      objects = x.helper.store.known.layout.objects;
      fields = x.helper.store.known.layout.fields;
      lanes = x.helper.store.known.layout.lanes;
      capacity = x.helper.store.known.layout.capacity;
      threads = x.helper.store.known.threads;
      dropped = length report.dropped.items;
      undone = report.undone;
    }

abbrev pub nothing_found : Found
nothing_found = record { size = 0; objects = 0; fields = 0; lanes = 0; capacity = 0; threads = 0; dropped = 0; undone = 0 }

-- the session of the next lane, which was told nothing, is joined to the helper and comes back where it is awaited, and the heap that handed
-- it out
pub record IsNext (x y : Hosting) (s : Seated) : Type 0 where
  pub lane : x.unused ≡ (view_of s.session).lane.0 ∷ y.unused
  pub untold : (view_of s.session).events ≡ []
  pub home_is : s.home ≡ x.home
  pub word_is : s.stop.word ≡ x.stop.word
  pub end : LaneEnd
  pub out : y.out ≡ end ∷ x.out
  pub awaited : IsAwaitedBy s end
  pub joined : IsJoinedHere x.home x.helper.store.known.layout.capacity x.helper.rings s
  pub home : y.home ≡ x.home
  pub helper : y.helper ≡ x.helper
  pub calls : y.calls ≡ x.calls
  pub stop : y.stop ≡ x.stop

-- a heap hands out that session; or once all were, one that has ended and holds no monitor; or none is left, or there is no memory
pub data HandsOne (x : Hosting) (handed after : Held) (status : ℕ) : Type 0 where
  IsHanded : (y : Hosting) (s : Seated) → IsNext x y s → handed ≡ session_held s → after ≡ heap_held y → status ≡ OK → HandsOne x handed after status
  IsHandedAgain : (y : Hosting) (s : Seated) → x.unused ≡ [] → HandsAgain x y s → handed ≡ session_held s → after ≡ heap_held y → status ≡ OK → HandsOne x handed after status
  NoneIsLeft : (y : Hosting) → x.unused ≡ [] → HasNoneIdle x y → after ≡ heap_held y → status ≡ NONE_LEFT → HandsOne x handed after status
  NoRoomForOne : after ≡ heap_held x → status ≡ NO_MEMORY → HandsOne x handed after status

-- `zelamiku_session`, by what the heap's handle has
abbrev pub HandsOutAt : (handed : Held) → Open → (after : Held) → (status : ℕ) → Type 0
HandsOutAt handed = OfHeap (λ x after status. HandsOne x handed after status)

-- and by what the session's handle had
abbrev pub HandsOut : (was handed before after : Held) (status : ℕ) → Type 0
HandsOut None handed before after status = Answers (HandsOutAt handed) before after status
HandsOut (Some there) handed before after status = (after ≡ before) × (status ≡ OPEN)

-- the first of the calls that are left
abbrev pub first_of : List DeviceCall → Option DeviceCall
first_of [] = None
first_of (call ∷ later) = Some call

-- a call as C sees it: its kind, where it writes, and how many bytes
abbrev pub told_of : Option DeviceCall → Call
told_of None = record { kind = 0; at = 0; size = 0 }
told_of (Some (Write at content)) = record { kind = 1; at = at; size = length content.items }
told_of (Some Sync) = record { kind = 2; at = 0; size = 0 }

-- the buffer then: the bytes to be written, as many as there is room for, and after them what was there
abbrev pub filled_of : Option DeviceCall → (buffer : List ℕ) → List ℕ
filled_of None buffer = buffer
filled_of (Some (Write at content)) buffer = take (length buffer) content.items ++ drop (length content.items) buffer
filled_of (Some Sync) buffer = buffer

-- the first of the calls that are left is told, which has MOST_BYTES at most, and its bytes are in the buffer
pub record TellsFirst (left : List DeviceCall) (call : Call) (buffer filled : List ℕ) (status : ℕ) : Type 0 where
  pub told : call ≡ told_of (first_of left)
  pub small : call.size ≤ MOST_BYTES
  pub bytes : filled ≡ filled_of (first_of left) buffer
  pub ok : status ≡ OK

-- `zelamiku_next_call`
abbrev pub TellsNextAt : (call : Call) (buffer filled : List ℕ) → Open → (after : Held) → (status : ℕ) → Type 0
TellsNextAt call buffer filled = OfHost
    (λ x after status. (y : Hosting) × SameHeap x y × Fetches x.calls y.calls × TellsFirst y.calls.left call buffer filled status × (after ≡ heap_held y))
    (λ x after status. (y : Closed) × (y.disk ≡ x.disk) × Fetches x.calls y.calls × TellsFirst y.calls.left call buffer filled status × (after ≡ closed_held y))
    (λ x after status. (y : Hosted) × SameButCalls x y × Fetches x.calls y.calls × TellsFirst y.calls.left call buffer filled status × (after ≡ journal_held y))

-- of the calls that are left, these, the first is made, if there is one
abbrev pub MakesFirst : (left : List DeviceCall) → (x y : Host) (status : ℕ) → Type 0
MakesFirst [] x y status = (status ≡ NONE_LEFT) × (y ≡ x)
MakesFirst (call ∷ later) x y status = (status ≡ OK) × (y.left ≡ later) × (y.made ≡ stop_of call ∷ x.made)

-- `zelamiku_call_done`
abbrev pub MakesCallAt : Open → (after : Held) → (status : ℕ) → Type 0
MakesCallAt = OfHost
    (λ x after status. (y : Hosting) × SameHeap x y × MakesFirst x.calls.left x.calls y.calls status × (after ≡ heap_held y))
    (λ x after status. (y : Closed) × (y.disk ≡ x.disk) × MakesFirst x.calls.left x.calls y.calls status × (after ≡ closed_held y))
    (λ x after status. (y : Hosted) × SameButCalls x y × MakesFirst x.calls.left x.calls y.calls status × (after ≡ journal_held y))

-- a number as C sees it: more than 2^32 - 1 are told as so many
abbrev pub counted : ℕ → ℕ
counted n = min n 4294967295

-- how many groups of calls a look finds handed over, which aren't fetched
pub record TellsWaiting (count : ℕ) (x y : Host) (status : ℕ) : Type 0 where
  pub looked : HasLooked x y
  pub told : count ≡ counted (length (known_items y.ring))
  pub ok : status ≡ OK

-- `zelamiku_waiting`
abbrev pub TellsWaitingAt : (count : ℕ) → Open → (after : Held) → (status : ℕ) → Type 0
TellsWaitingAt count = OfDevice
    (λ x after status. (y : Hosting) × SameHeap x y × TellsWaiting count x.calls y.calls status × (after ≡ heap_held y))
    (λ x after status. (y : Closed) × (y.disk ≡ x.disk) × TellsWaiting count x.calls y.calls status × (after ≡ closed_held y))

-- how many records C lets a round apply, or that there is no bound, by `ALL`
abbrev pub bound_of : (most : ℕ) → Option ℕ
bound_of most = if most == ALL then None else Some most

-- `zelamiku_round`
abbrev pub RoundsAt : (most applied : ℕ) → Open → (after : Held) → (status : ℕ) → Type 0
RoundsAt most applied = OfHeap (λ x after status.
    (y : Hosting) × (answer : Result ℕ RoundError) × HasRound (bound_of most) x y answer × IsSeen round_status answer applied status × (after ≡ heap_held y))

-- How many sections of the lane are acknowledged, where each call was made, or why that isn't told. Recovery takes whatever a crash of the
-- host's device leaves then, or after whatever calls since, and keeps so many sections.
pub record HasAcknowledged (x y : Hosting) (lane : ℕ) (answer : Result ℕ AcknowledgedError) : Type 0 where
  -- What is told as acknowledged is the acknowledged cut's count of the lane.
  pub acknowledged : (p : Past) → IsServing hosted_device x.helper (plan x.home) p → IfOk answer (λ n. n ≡ p.cut lane)
  -- What is told as acknowledged no crash of the host's device loses, right then. Recovery accepts whatever a crash
  -- leaves, and keeps at least so many sections of the lane.
  pub safe : OnOk answer (KeepsNow x y)
  -- What is told as acknowledged no later crash of the host's device loses, provided the host makes exactly the calls
  -- that it is given.
  pub kept : OnOk answer (KeepsFrom x y)
  -- What is acknowledged is told only where each call was made.
  pub all_made : OnOk answer (AreAllMade y.calls)
  -- `BAD_LANE` is answered exactly for a lane that no thread has: past the last one, or the helper's.
  pub bad_lane : (answer ≡ Err BadLane) ↔ (x.helper.store.known.threads ≤ lane)
  -- `CALLS_LEFT` is answered exactly where a thread has the lane and a call is left.
  pub calls_left : IsErrOf answer CallsLeft ↔ (lane < x.helper.store.known.threads) × (¬ AreAllMade y.calls)
  pub fetches : lane < x.helper.store.known.threads → FetchesAll x.calls y.calls
  pub met : lane < x.helper.store.known.threads → HaveMet y.helper.store.disk y.calls
  pub untouched : x.helper.store.known.threads ≤ lane → y ≡ x
  pub heap : SameButMet x y

-- `zelamiku_acknowledged`
abbrev pub AcknowledgesAt : (lane sections : ℕ) → Open → (after : Held) → (status : ℕ) → Type 0
AcknowledgesAt lane sections = OfHeap (λ x after status.
    (y : Hosting) × (answer : Result ℕ AcknowledgedError) × HasAcknowledged x y lane answer × IsSeen acknowledged_status answer sections status × (after ≡ heap_held y))

-- what the handle of a heap has that wasn't closed: the heap, which goes on, or what is left of it
abbrev pub left_held : NotClosed → Held
left_held (unclosed.Running y) = heap_held y
left_held (unclosed.CallsLeft y) = heap_held y
left_held (unclosed.InUse y) = heap_held y
left_held (unclosed.Stopped y e) = closed_held y

-- the heap is closed, as one history of what its sessions were told; or it isn't, for this reason
pub data ClosesOne (x : Hosting) (after : Held) (status : ℕ) : Type 0 where
  IsNowClosed : (y : Closed) → IsClosedWith x.home x.helper y.disk → HasLooked x.calls y.calls → after ≡ closed_held y → status ≡ OK → ClosesOne x after status
  IsNotYetClosed : (why : NotClosed) → IsNotClosed x why → after ≡ left_held why → status ≡ not_closed_status why → ClosesOne x after status

-- `zelamiku_close`
abbrev pub ClosesAt : Open → (after : Held) → (status : ℕ) → Type 0
ClosesAt = OfHeap (λ x after status. ClosesOne x after status)
