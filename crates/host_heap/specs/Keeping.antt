-- What is true of a hosted heap between its calls (this project's own).
use Rattle.std.specs.Prelude.{ℕ, ◌≡◌, ◌≤◌, List, All, length}
use Rattle.std.specs.List.{range_with_len}
use Rattle.disk_deferred.specs.Deferred.{Deferred}
use Rattle.disk_deferred.specs.Host.{Host, IsHostOf}
use Rattle.image_parts.specs.Layout.{IsLayout}
use Rattle.image_parts.specs.declared.layout.Layout.{Layout}
use Rattle.monitor.specs.Seats.{Home}
use Rattle.thread_heap.specs.Joined.{IsHelping}
use Rattle.trim_helper.specs.Parts.{Parts}
use Rattle.host_heap.specs.Hosting.{hosted_device}
use Rattle.host_heap.specs.Lanes.{AreNewHere, ArePaired, IsJoinedHere, IsLaneEnd, lanes_at}
use Rattle.host_heap.specs.Sessions.{Seated}
use Rattle.host_heap.specs.declared.lane_end.LaneEnd.{LaneEnd}

-- The helper is of these words, and the host's calls are those of its disk. The sessions that weren't handed out are of these words too, and
-- learn of a stop by this word, and what comes back meets the helper. There is an end for each lane of the threads', the last one's
-- first, and the sessions that weren't handed out are awaited by the first of these.
pub record IsHosting (h : Home) (x : Parts Deferred) (c : Host) (l : Layout) (word : ℕ) (unused : List Seated) (lanes : List LaneEnd) : Type 0 where
  pub helping : IsHelping hosted_device h x
  pub host : IsHostOf x.store.disk c
  pub layout_is : l ≡ x.store.known.layout
  pub within : IsLayout l
  pub unused_are : AreNewHere h word unused
  pub count : length unused ≤ length lanes
  pub lanes_are : All (IsLaneEnd h x.store.known.layout.capacity x.rings) lanes
  pub order : lanes_at lanes ≡ range_with_len 0 h.plan.lanes
  pub joined : All (IsJoinedHere h x.store.known.layout.capacity x.rings) unused
  pub paired : ArePaired unused lanes
