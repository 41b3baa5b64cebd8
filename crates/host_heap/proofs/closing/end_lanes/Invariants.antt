use Rattle.std.proofs.Common.{ℕ, ◌≡◌, ◌++◌, All, vec_len}
use Rattle.monitor.specs.Seats.{Home}
use Rattle.trim_helper.specs.Endings.{IsEnded, Rings}
use Rattle.trim_helper.specs.Endings.{lanes_ended}
use Rattle.host_heap.specs.Lanes.{HasCome, IsLaneEnd, lanes_at}
use Rattle.host_heap.proofs.closing.end_lanes.Given as goal

abbrev pub invariant-lanes : goal.invariant-lanes
invariant-lanes l = All HasCome l.left.items
    × ((h : Home) (k : ℕ) (rings : Rings) → All (IsLaneEnd h k rings) l.fn.lanes.items → All (IsLaneEnd h k rings) l.left.items × All (IsEnded h k rings) l.ended.items
    × (lanes_ended l.ended.items ++ lanes_at l.left.items ≡ lanes_at l.fn.lanes.items))

abbrev pub decreases-lanes : goal.decreases-lanes
decreases-lanes l = vec_len l.left
