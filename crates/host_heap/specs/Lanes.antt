-- Where sessions come back (this project's own).
use Rattle.std.specs.Prelude.{ℕ, ◌≡◌, ◌<◌, ◌⊎◌, List, ◌∷◌, ◌++◌, [], Option, Some, None, All, IfSome, IsSome, fold, option_to_list, set}
use Rattle.std.specs.List.{AllZip, slice_index_or}
use Rattle.monitor.specs.Seats.{Home}
use Rattle.rtrb.specs.Ring.{IsPair, SameConsumer, known_items, received}
use Rattle.thread_heap.specs.Joined.{IsJoined}
use Rattle.session.specs.Logs.{held_count}
use Rattle.session.specs.Sessions.{view_of}
use Rattle.session.specs.declared.session.Session.{Session}
use Rattle.trim_helper.specs.Endings.{Rings}
use Rattle.host_heap.specs.Sessions.{Seated}
use Rattle.host_heap.specs.declared.lane_end.LaneEnd.{LaneEnd}

-- the first of these is a session that is joined to the helper
abbrev pub BeginsJoined : (h : Home) (capacity : ℕ) (rings : Rings) → List Session → Type 0
BeginsJoined h capacity rings items = (s : Session) × (more : List Session) × (items ≡ s ∷ more) × IsJoined h capacity rings s

-- the lane of the first of these
abbrev pub lane_in : List Session → ℕ
lane_in [] = 0
lane_in (s ∷ more) = (view_of s).lane.0

-- the lane whose end this is: that of the session that came through first
abbrev pub lane_at : LaneEnd → ℕ
lane_at l = lane_in (received l.back)

-- the lanes of these ends, the last one first
abbrev pub lanes_at : List LaneEnd → List ℕ
lanes_at ends = fold (λ later l. lane_at l ∷ later) [] ends

-- the session is joined to the helper, and of this lane
pub record IsBack (h : Home) (capacity : ℕ) (rings : Rings) (lane : ℕ) (s : Session) : Type 0 where
  pub joined : IsJoined h capacity rings s
  pub lane_is : (view_of s).lane.0 ≡ lane

-- what came through is a session that is joined to the helper, and what has come back is that session
pub record IsLaneEnd (h : Home) (capacity : ℕ) (rings : Rings) (l : LaneEnd) : Type 0 where
  pub first : BeginsJoined h capacity rings (received l.back)
  pub came : IfSome l.came (IsBack h capacity rings (lane_at l))

-- after a look through the ring, what came through first is a session of the same lane, joined as before
abbrev pub KeepsFirst : (old new : List Session) → Type 0
KeepsFirst old new = (h : Home) (capacity : ℕ) (rings : Rings) → BeginsJoined h capacity rings old → BeginsJoined h capacity rings new × (lane_in new ≡ lane_in old)

-- what comes through next is a session of the same lane, joined to the same helper
abbrev pub GivesBack : (before : List Session) → Option Session → Type 0
GivesBack before given = (h : Home) (capacity : ℕ) (rings : Rings) → BeginsJoined h capacity rings before → IfSome given (IsBack h capacity rings (lane_in before))

-- the end of this place is one that is so, and the others are as they were
abbrev pub SetsEnd : (old : List LaneEnd) (place : ℕ) (is : LaneEnd → Type 0) (new : List LaneEnd) → Type 0
SetsEnd old place is new = (end : LaneEnd) × (new ≡ set old place end) × is end

-- they are ends of lanes of this heap
abbrev pub AreLaneEnds : Home → List LaneEnd → Type 0
AreLaneEnds h ends = (capacity : ℕ) × (rings : Rings) × All (IsLaneEnd h capacity rings) ends

-- this has come back at the end of this place, and nothing else has changed
abbrev pub SetsCame : (old : List LaneEnd) (place : ℕ) (came : Option Session) (new : List LaneEnd) → Type 0
SetsCame old place came new = (d : LaneEnd) → new ≡ set old place (record (slice_index_or old place d) { came = came })

-- it is the end of the same lane
abbrev pub KeepsEnd : (old new : LaneEnd) → Type 0
KeepsEnd old new = (h : Home) (capacity : ℕ) (rings : Rings) → IsLaneEnd h capacity rings old → IsLaneEnd h capacity rings new × (lane_at new ≡ lane_at old)

-- they are ends of the same lanes
abbrev pub KeepsEnds : (old new : List LaneEnd) → Type 0
KeepsEnds old new = (h : Home) (capacity : ℕ) (rings : Rings) → All (IsLaneEnd h capacity rings) old → All (IsLaneEnd h capacity rings) new × (lanes_at new ≡ lanes_at old)

-- What had come back there is there still. Else what its ring has given since then has come back, and nothing that it gave is gone.
pub record KeepsCome (old new : LaneEnd) : Type 0 where
  pub ring : SameConsumer old.back new.back
  pub stays : IsSome old.came → new ≡ old
  pub since : old.came ≡ None → received new.back ≡ received old.back ++ option_to_list new.came

-- and so at each of these ends
abbrev pub KeepCome : (old new : List LaneEnd) → Type 0
KeepCome old new = AllZip KeepsCome old new

-- its session has come back
abbrev pub HasCome : LaneEnd → Type 0
HasCome l = IsSome l.came

-- after a look its session hasn't come back
pub record IsAwaited (l : LaneEnd) : Type 0 where
  pub out : l.came ≡ None
  pub looked : known_items l.back ≡ []

-- its session has come back, and holds no monitor
abbrev pub IsIdle : LaneEnd → Type 0
IsIdle l = (s : Session) × (l.came ≡ Some s) × (held_count (view_of s) ≡ 0)

-- its session has come back, and holds one
abbrev pub CameHolding : LaneEnd → Type 0
CameHolding l = (s : Session) × (l.came ≡ Some s) × (0 < held_count (view_of s))

-- after a look its session hasn't come back, or holds a monitor
abbrev pub IsTaken : LaneEnd → Type 0
IsTaken l = IsAwaited l ⊎ CameHolding l

-- a session of these words that was told nothing, and learns of a stop by this word
pub record IsNewHere (h : Home) (word : ℕ) (s : Seated) : Type 0 where
  pub home : s.home ≡ h
  pub word_is : s.stop.word ≡ word
  pub untold : (view_of s.session).events ≡ []

abbrev pub AreNewHere : Home → (word : ℕ) → List Seated → Type 0
AreNewHere h word sessions = All (IsNewHere h word) sessions

-- the session in it is joined to the helper
abbrev pub IsJoinedHere : (h : Home) (capacity : ℕ) (rings : Rings) → Seated → Type 0
IsJoinedHere h capacity rings s = IsJoined h capacity rings s.session

-- The session goes back by the ring of this end, by which it was handed out, and is awaited there.
pub record IsAwaitedBy (s : Seated) (l : LaneEnd) : Type 0 where
  pub ring : IsPair s.back l.back
  pub begins : received l.back ≡ s.session ∷ []
  pub none : l.came ≡ None

-- so these sessions are, each by one of these ends, the first by the first
abbrev pub ArePaired : List Seated → List LaneEnd → Type 0
ArePaired [] ends = Unit {0}
ArePaired (s ∷ unused) [] = ⊥
ArePaired (s ∷ unused) (l ∷ ends) = IsAwaitedBy s l × ArePaired unused ends

-- they are ends of the same lanes, also once these sessions have come back to the first of them
abbrev pub TakesBack : List Seated → (old new : List LaneEnd) → Type 0
TakesBack unused old new = (h : Home) (capacity : ℕ) (rings : Rings) → ArePaired unused old → All (IsJoinedHere h capacity rings) unused
    → All (IsLaneEnd h capacity rings) old → All (IsLaneEnd h capacity rings) new × (lanes_at new ≡ lanes_at old)
