-- A session of the next lane is handed out, and the calls that the host makes (this project's own).
use Rattle.std.specs.Prelude.{◌≡◌, List, [], ◌∷◌, Bool, true, Option, MatchOption}
use Rattle.std.specs.Borrow.{Bor}
use Rattle.disk_deferred.specs.Deferred.{stop_of}
use Rattle.disk_deferred.specs.Host.{Host}
use Rattle.disk_deferred.specs.declared.call.DeviceCall.{DeviceCall}
use Rattle.thread_heap.specs.Joined.{IsJoined}
use Rattle.session.specs.Sessions.{view_of}
use Rattle.host_heap.specs.Hosting.{Hosting}
use Rattle.host_heap.specs.Lanes.{IsAwaitedBy}
use Rattle.host_heap.specs.Sessions.{Seated}
use Rattle.host_heap.specs.declared.lane_end.LaneEnd.{LaneEnd}

-- the session is of the least lane whose session wasn't handed out
abbrev pub IsOfNextLane : (x y : Hosting) → Seated → Type 0
IsOfNextLane x y s = x.unused ≡ (view_of s.session).lane.0 ∷ y.unused

-- the heap awaits the session at the end of its lane, by the ring that the session has
abbrev pub IsAwaitedOut : (x y : Hosting) → Seated → Type 0
IsAwaitedOut x y s = (end : LaneEnd) × (y.out ≡ end ∷ x.out) × IsAwaitedBy s end

-- the session is joined to the heap's helper
abbrev pub IsJoinedTo : Hosting → Seated → Type 0
IsJoinedTo x s = IsJoined x.home x.helper.store.known.layout.capacity x.helper.rings s.session

-- nothing of the heap has changed but which sessions are out
abbrev pub SameButOut : (x y : Hosting) → Type 0
SameButOut x y = (y.home ≡ x.home) × (y.helper ≡ x.helper) × (y.calls ≡ x.calls) × (y.stop ≡ x.stop)

-- the first of the calls that are left is given, or none where none is left
abbrev pub GivesFirst : (left : List DeviceCall) → Option (Bor DeviceCall) → Type 0
GivesFirst left given = MatchOption given (left ≡ []) (λ call. (later : List DeviceCall) × (left ≡ call.now ∷ later))

-- where a call is left, the first of them is made
abbrev pub MakesFirst : (x y : Host) (is_done : Bool) → Type 0
MakesFirst x y is_done = (call : DeviceCall) (later : List DeviceCall) → x.left ≡ call ∷ later
    → (is_done ≡ true) × (y.left ≡ later) × (y.made ≡ stop_of call ∷ x.made)
