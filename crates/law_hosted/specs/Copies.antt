-- A copy of a heap's disk in memory, which its host made between two rounds or after the closing (this project's own).
use Rattle.std.specs.Prelude.{ℕ, List}
use Rattle.heap_model.specs.declared.event.Event.{Event}
use Rattle.disk_deferred.specs.Deferred.{Deferred}
use Rattle.monitor.specs.Seats.{Home}
use Rattle.law_running.specs.Running.{KeepsRunning, Rests}
use Rattle.thread_steps.specs.Views.{plan}
use Rattle.heap_model.specs.Past.{Past}
use Rattle.trim_helper.specs.Parts.{IsServing, Parts}
use Rattle.host_heap.specs.Hosting.{Hosting, IsClosedWith, hosted_device}
use Rattle.law_hosted.specs.Safe.{IsHeapOf, IsSafe}

-- the bytes of the disk in memory: what the host's device holds once each call that was told is made
abbrev pub copy_of : Deferred → List ℕ
copy_of d = (hosted_device d).now.bytes

-- Recovery accepts a copy, and keeps of each lane at least the sections that are acknowledged now. It does so too of a heap whose store has failed.
abbrev pub CopyLaw : Type 0
CopyLaw = (x : Hosting) (p : Past) → IsServing hosted_device x.helper (plan x.home) p
    → IsSafe x.helper.store.known.layout p.cut (copy_of x.helper.store.disk)

-- What it keeps of a copy are whole sections of each legal history that goes on from what the helper has seen, as after a crash right now.
abbrev pub RunningCopyLaw : Type 0
RunningCopyLaw = (x : Hosting) (p : Past) (seen : List (ℕ × Event)) → Rests hosted_device x.home p x.helper seen
    → KeepsRunning x.helper.store.known.layout (plan x.home) p seen (copy_of x.helper.store.disk)

-- A copy of a heap that was closed is the heap of the closing's history, with all its sections.
abbrev pub ClosedCopyLaw : Type 0
ClosedCopyLaw = (h : Home) (x : Parts Deferred) (d : Deferred) → (closing : IsClosedWith h x d)
    → IsHeapOf (plan h) x.store.known.layout h.plan.lanes closing.closed.history closing.closed.now (copy_of d)
