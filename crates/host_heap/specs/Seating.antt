-- The sessions of a heap that begins, with the ends where they come back (this project's own).
use Rattle.std.specs.Prelude.{ℕ, ◌≡◌, List, All, length}
use Rattle.monitor.specs.Seats.{Home}
use Rattle.thread_heap.specs.Joined.{IsJoined}
use Rattle.session.specs.declared.session.Session.{Session}
use Rattle.trim_helper.specs.Endings.{Rings}
use Rattle.host_heap.specs.Hosting.{lanes_of}
use Rattle.host_heap.specs.Lanes.{AreNewHere, ArePaired, IsJoinedHere, IsLaneEnd, lanes_at}
use Rattle.host_heap.specs.Sessions.{Seated}
use Rattle.host_heap.specs.declared.lane_end.LaneEnd.{LaneEnd}

-- These sessions have the words, learn of a stop by this word, and were told nothing. Each is awaited at the end of its lane.
pub record AreSeated (h : Home) (sessions : List Session) (word : ℕ) (unused : List Seated) (ends : List LaneEnd) : Type 0 where
  pub homes : AreNewHere h word unused
  pub ends_at : lanes_at ends ≡ lanes_of unused
  pub paired : ArePaired unused ends
  pub count : length unused ≡ length ends
  -- where the sessions were joined to a helper, they are, and the ends are its
  pub joined : (capacity : ℕ) (rings : Rings) → All (IsJoined h capacity rings) sessions
      → All (IsLaneEnd h capacity rings) ends × All (IsJoinedHere h capacity rings) unused
