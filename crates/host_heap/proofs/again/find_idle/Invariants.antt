use Rattle.std.proofs.Common.{ℕ, ◌≡◌, ◌<◌, ◌≤◌, length, take}
use Rattle.std.specs.List.{slice_index_or}
use Rattle.host_heap.specs.Lanes.{IsTaken, KeepCome, KeepsEnds}
use Rattle.host_heap.specs.declared.lane_end.LaneEnd.{LaneEnd}
use Rattle.host_heap.proofs.again.find_idle.Given as goal

-- none of these lanes has a session that has come back and holds nothing
abbrev pub invariant-loop-place : goal.invariant-loop-place
invariant-loop-place l = KeepsEnds l.initial.lanes.items l.lanes.items × (length l.lanes.items ≡ length l.initial.lanes.items)
    × ((i : ℕ) (d : LaneEnd) → l.fn.first ≤ i → i < l.place → IsTaken (slice_index_or l.lanes.items i d))
    × KeepCome l.initial.lanes.items l.lanes.items × (take l.fn.first l.lanes.items ≡ take l.fn.first l.initial.lanes.items)
