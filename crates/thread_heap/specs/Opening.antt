-- What a heap that is open for threads begins with (this project's own).
use Rattle.std.specs.Prelude.{ℕ, ◌≡◌, All, false, true, length}
use Rattle.block_disk.specs.Device.{Device}
use Rattle.guards.specs.Schema.{Declarations}
use Rattle.image_parts.specs.Recovered.{Parts}
use Rattle.thread_steps.specs.Views.{plan}
use Rattle.heap_model.specs.Past.{no_past}
use Rattle.trim_helper.specs.Parts.{IsServing}
use Rattle.thread_heap.specs.Joined.{AreNew, HaveRoom, IsHelping, IsJoined}
use Rattle.thread_heap.specs.declared.running_heap.RunningHeap.{RunningHeap}

module _ {D : Type 0} (device : D → Device) where
  -- The heap runs with what was recovered, by this schema, for so many threads: with its values, its layout and its device. Release numbers stay
  -- at `last` or below. Each lane's ring has room for `ring` records.
  pub record IsOpened (schema : Declarations) (recovered : Parts D) (threads last ring : ℕ) (o : RunningHeap D) : Type 0 where
    pub plan_is : o.shared.plan ≡ record { schema = schema; first = recovered.heap; last = last; lanes = threads }
    -- Each new session is joined to the helper's ring of its lane.
    pub joined : All (IsJoined o.shared recovered.layout.capacity o.helper.rings) o.sessions.items
    -- Each ring of a new heap has the room that was asked for.
    pub rings : HaveRoom ring o.helper.rings
    -- The sessions of a new heap are new, and come lane by lane.
    pub fresh : AreNew 0 o.sessions.items
    -- A new heap has one session for each of the threads' lanes.
    pub count : length o.sessions.items ≡ threads
    -- The store of a new heap has so many lanes for its threads.
    pub lanes : o.helper.store.known.threads ≡ threads
    -- The helper of a new heap is the heap's.
    pub helping : IsHelping device o.shared o.helper
    pub past : IsServing device o.helper (plan o.shared) no_past
    -- The store of a new heap hasn't failed.
    pub running : o.helper.store.known.has_failed ≡ false
    -- The helper of a new heap is settled.
    pub settled : o.helper.is_settled ≡ true
    pub layout : o.helper.store.known.layout ≡ recovered.layout
    pub disk : o.helper.store.disk ≡ recovered.disk
