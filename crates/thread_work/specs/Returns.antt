-- What is known of a heap whose threads have come back (this project's own).
use Rattle.std.specs.Prelude.{ℕ, ◌≡◌, ◌≤◌, All, false}
use Rattle.std.specs.List.{range_with_len}
use Rattle.block_disk.specs.Device.{Device}
use Rattle.guards.specs.Schema.{Declarations}
use Rattle.image_parts.specs.Recovered.{Parts}
use Rattle.monitor.specs.Seats.{Home}
use Rattle.thread_heap.specs.Joined.{IsHelping}
use Rattle.session.specs.declared.session.Session.{Session}
use Rattle.heap_model.specs.Past.{Past}
use Rattle.trim_helper.specs.Parts as helpers
use Rattle.trim_helper.specs.Endings.{IsEnded, lanes_ended}
use Rattle.thread_work.specs.Bodies.{Answer, WereCalled}
use Rattle.thread_work.specs.Crashes.{HaveLeft, KeepsLater}
use Rattle.thread_work.specs.Serving.{HasStayed, IsLiving, LivesOn}
use Rattle.thread_work.specs.Stops.{IsHomeOf}
use Rattle.thread_work.specs.declared.returned.Returned.{Returned}

-- what a body does, and the device of a disk
module _ (does : Home → Session → Session → Answer → Type 0) {D : Type 0} (device : D → Device) where
  -- The helper of a heap whose threads have come back hasn't failed. There is one session a thread, which has ended ready to meet it, and a body was called
  -- for each.
  pub record IsBack (r : Returned D) : Type 0 where
    pub helping : IsHelping device r.shared r.helper
    pub running : r.helper.store.known.has_failed ≡ false
    pub ended : All (IsEnded r.shared r.helper.store.known.layout.capacity r.helper.rings) r.ended.items
    pub lanes : lanes_ended r.ended.items ≡ range_with_len 0 r.shared.plan.lanes
    -- A body was called for each thread of a heap whose threads have come back, and has done with its session what its
    -- `Work` says. What is answered is the refusal of the least lane whose body has answered one.
    pub called : WereCalled does r.shared r.helper.store.known.layout.capacity r.answer r.ended.items

  -- They leave their heap as it is, and this is the device that is given back, whatever the helper had lived through.
  abbrev pub LeavesBack : (r : Returned D) → (new : Device) → Type 0
  LeavesBack r new = (opened : Device) (p : Past) → IsLiving device r.shared opened r.helper p → HaveLeft does r.shared r.helper.store.known.layout r.ended.items opened new

  -- they have come back to these words and what this helper has become
  pub record HaveReturned (h : Home) (helper : helpers.Parts D) (r : Returned D) : Type 0 where
    pub shared : r.shared ≡ h
    pub stayed : HasStayed device helper r.helper
    pub lives : LivesOn device h helper r.helper
    pub back : IsBack r

  -- So many threads of a heap of this schema have come back, which began with an image in this state.
  pub record HasReturned (schema : Declarations) (threads : ℕ) (was : Parts D) (r : Returned D) : Type 0 where
    pub plan : IsHomeOf schema was.heap threads r.shared
    pub layout : r.helper.store.known.layout ≡ was.layout
    pub later : (device was.disk).failures ≤ (device r.helper.store.disk).failures
    pub past : Past
    pub living : IsLiving device r.shared (device was.disk) r.helper past
    -- Whatever a crash left until threads had come back, recovery accepts. It keeps one set of sections: whole ones of
    -- each legal history that goes on from what the helper has seen.
    pub crashes : KeepsLater r.shared was.layout r.helper.seat.view.history (device was.disk) (device r.helper.store.disk)
    pub back : IsBack r
