use Rattle.std.proofs.Common.{ℕ, ◌≡◌, ◌≤◌, All, drop, length, vec_len}
use Rattle.monitor.specs.Seats.{Home}
use Rattle.trim_helper.specs.Endings.{Rings}
use Rattle.host_heap.specs.Lanes.{ArePaired, HasCome, IsJoinedHere, IsLaneEnd, lanes_at}
use Rattle.host_heap.proofs.closing.bring_back.Given as goal

-- the sessions behind those that are left have come back
abbrev pub invariant-sessions : goal.invariant-sessions
invariant-sessions l = (length l.unused.items ≤ length l.lanes.items) × All HasCome (drop (length l.unused.items) l.lanes.items)
    × ((h : Home) (k : ℕ) (rings : Rings) → ArePaired l.fn.unused.items l.fn.lanes.items → All (IsJoinedHere h k rings) l.fn.unused.items → All (IsLaneEnd h k rings) l.fn.lanes.items
    → ArePaired l.unused.items l.lanes.items × All (IsJoinedHere h k rings) l.unused.items × All (IsLaneEnd h k rings) l.lanes.items × (lanes_at l.lanes.items ≡ lanes_at l.fn.lanes.items))
    × (length l.unused.items ≤ length l.fn.unused.items) × (drop (length l.fn.unused.items) l.lanes.items ≡ drop (length l.fn.unused.items) l.fn.lanes.items)

abbrev pub decreases-sessions : goal.decreases-sessions
decreases-sessions l = vec_len l.unused
