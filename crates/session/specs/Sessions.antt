-- What a contract sees of a session, of one that waits, and of one that has ended.
use Rattle.std.specs.Prelude.{ℕ, ◌≡◌, ◌+◌, ◌≤◌}
use Rattle.rtrb.specs.Ring.{SameProducer, known_free, producer_capacity}
use Rattle.thread_rings.specs.Rings.{Sending}
use Rattle.heap_model.specs.declared.limits.TheConstants.{SECTION_RECORDS}
use Rattle.heap_model.specs.declared.ids.ObjectId.{ObjectId}
use Rattle.monitor.specs.Seats.{Home, Sitting}
use Rattle.thread_steps.specs.Views.{View, view, IsSeatOf}
use Rattle.session.specs.declared.parts.Parts.{Parts}
use Rattle.session.specs.declared.session.Session.{Session}
use Rattle.session.specs.declared.waiting.Waiting.{Waiting}
use Rattle.session.specs.declared.ended.Ended.{Ended}
use Rattle.session.specs.Logs.{Rooms, rooms, place, section_records}

-- what the session's seat knows: its view
abbrev pub view_of : Session → View
view_of s = view s.parts.seat

abbrev pub view_waiting : Waiting → View
view_waiting w = view w.parts.seat

-- its seat
abbrev pub seat_of : Session → Sitting
seat_of s = s.parts.seat

abbrev pub seat_waiting : Waiting → Sitting
seat_waiting w = w.parts.seat

-- how many records its lane holds
abbrev pub capacity_of : Session → ℕ
capacity_of s = s.parts.capacity

-- the room of its ring and of its lane
abbrev pub rooms_in : Parts → Rooms
rooms_in p = rooms (producer_capacity p.ring) p.capacity

abbrev pub rooms_of : Session → Rooms
rooms_of s = rooms_in s.parts

-- its end of the ring to the helper
abbrev pub ring_of : Session → Sending
ring_of s = s.parts.ring

abbrev pub ring_waiting : Waiting → Sending
ring_waiting w = w.parts.ring

-- how many slots of its ring it knows to be free
abbrev pub free_of : Session → ℕ
free_of s = known_free s.parts.ring

abbrev pub free_waiting : Waiting → ℕ
free_waiting w = known_free w.parts.ring

-- There is room for what an open section may still log: in the ring and in the lane.
pub record HasRoomLeft (s : Session) : Type 0 where
  pub ring : SECTION_RECORDS ≤ free_of s + section_records (view_of s)
  pub lane : place (view_of s) + SECTION_RECORDS ≤ (view_of s).trimmed + capacity_of s + section_records (view_of s)

-- the object that it waits for
abbrev pub awaited : Waiting → ObjectId
awaited w = w.object

-- the session is of this heap
abbrev pub IsSessionOf : Home → Session → Type 0
IsSessionOf h s = IsSeatOf h s.parts.seat

abbrev pub IsWaitingOf : Home → Waiting → Type 0
IsWaitingOf h w = IsSeatOf h w.parts.seat

-- the same ring, the same capacity of the lane, and the same lane
abbrev pub SameLane : Parts → Parts → Type 0
SameLane p q = SameProducer p.ring q.ring × (q.capacity ≡ p.capacity) × ((view q.seat).lane ≡ (view p.seat).lane)

abbrev pub SameRing : Session → Session → Type 0
SameRing s t = SameLane s.parts t.parts

abbrev pub SameRingWaiting : Session → Waiting → Type 0
SameRingWaiting s w = SameLane s.parts w.parts

abbrev pub SameRingResumed : Waiting → Session → Type 0
SameRingResumed w s = SameLane w.parts s.parts

abbrev pub SameRingStill : Waiting → Waiting → Type 0
SameRingStill w x = SameLane w.parts x.parts

-- the session has ended with its seat and its end of the ring as they were
pub record Ends (s : Session) (e : Ended) : Type 0 where
  pub seat : e.seat ≡ s.parts.seat
  pub ring : e.ring ≡ s.parts.ring
  pub capacity : e.capacity ≡ s.parts.capacity

-- the ended session has this seat, this end of the ring, and this capacity
pub record IsMadeOf (e : Ended) (s : Sitting) (p : Sending) (c : ℕ) : Type 0 where
  pub seat : s ≡ e.seat
  pub ring : p ≡ e.ring
  pub capacity : c ≡ e.capacity
