use Rattle.std.proofs.Common.{ℕ, ◌≡◌, ◌+◌, List, All, length, vec_len}
use Rattle.thread_heap.specs.Joined.{AreNew, IsJoined}
use Rattle.session.specs.Sessions.{IsSessionOf}
use Rattle.std.specs.Arc.{arc_value}
use Rattle.trim_helper.specs.Endings.{Rings}
use Rattle.session.specs.declared.session.Session.{Session}
use Rattle.std.specs.List.{range_with_len}
use Rattle.host_heap.specs.Hosting.{lanes_of}
use Rattle.host_heap.specs.Sessions.{Seated}
use Rattle.host_heap.specs.Lanes.{AreNewHere, ArePaired, IsJoinedHere, IsLaneEnd, lanes_at}
use Rattle.host_heap.proofs.beginning.begin_all.Given as goal

-- the lanes of those that are left come before these, which are in order
abbrev pub IsDown : (left : List Session) (unused : List Seated) (all : ℕ) → Type 0
IsDown left unused all = (lanes_of unused ≡ range_with_len (length left) (length unused)) × (length left + length unused ≡ all)

abbrev pub invariant-sessions : goal.invariant-sessions
invariant-sessions l = AreNew 0 l.left.items × IsDown l.left.items l.unused.items (length l.fn.sessions.items) × (length l.unused.items ≡ length l.lanes.items)
    × All (IsSessionOf (arc_value l.fn.shared)) l.left.items × AreNewHere (arc_value l.fn.shared) l.initial.stop.word l.unused.items
    × ((k : ℕ) (rings : Rings) → All (IsJoined (arc_value l.fn.shared) k rings) l.fn.sessions.items
    → All (IsJoined (arc_value l.fn.shared) k rings) l.left.items × All (IsLaneEnd (arc_value l.fn.shared) k rings) l.lanes.items × All (IsJoinedHere (arc_value l.fn.shared) k rings) l.unused.items)
    × (lanes_at l.lanes.items ≡ lanes_of l.unused.items) × (l.stop ≡ l.initial.stop) × ArePaired l.unused.items l.lanes.items

abbrev pub decreases-sessions : goal.decreases-sessions
decreases-sessions l = vec_len l.left
