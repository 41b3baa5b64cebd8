-- What a thread has read as durable, and what recovery keeps of it (this project's own).
use Rattle.std.specs.Prelude.{ℕ, ◌≡◌, ◌≤◌, List, MatchResult}
use Rattle.heap_model.specs.declared.event.Event.{Event}
use Rattle.heap_model.specs.Cuts.{counts_of}
use Rattle.heap_model.specs.Past.{Past}
use Rattle.block_disk.specs.Device.{Device}
use Rattle.disk_deferred.specs.Deferred.{Deferred}
use Rattle.disk_deferred.specs.Host.{Host}
use Rattle.image_parts.specs.declared.layout.Layout.{Layout}
use Rattle.monitor.specs.Seats.{Home}
use Rattle.session.specs.Sessions.{view_of}
use Rattle.session.specs.declared.session.Session.{Session}
use Rattle.law_survival.specs.Promise.{Answer}
use Rattle.trim_helper.specs.Parts.{Parts}
use Rattle.law_running.specs.Running.{RunsOn}
use Rattle.law_running.specs.Told.{HasReadOf}
use Rattle.host_heap.specs.Hosting.{hosted_device}
use Rattle.law_hosted.specs.Safe.{LeavesSince}
use Rattle.headline.specs.Headline.{MayFail}
use Rattle.headline.specs.Life.{LifeSince, Lives}

-- recovery keeps at least so many sections of the session's lane, or may fail
abbrev pub KeepsLeast : {E : Type 0} → Session → (sections : ℕ) → Answer E → Type 0
KeepsLeast t sections told = MatchResult told (λ r. sections ≤ counts_of r.1.kept (view_of t).lane.0) (λ back. MayFail back.1)

module _ {D : Type 0} (device : D → Device) where
  -- By this moment of a heap's life a thread had read so many sections of its lane as durable. Whatever a crash leaves from then on, recovery keeps
  -- at least so many.
  abbrev pub GivesDurable : {E : Type 0} → (image : List ℕ) → Answer E → Type 0
  GivesDurable image told = (h : Home) (x : Parts D) (p q : Past) (l : Layout) (saw later : List (ℕ × Event)) (t : Session) (sections : ℕ)
      → Lives device h x p saw → HasReadOf device h p x t sections → LifeSince device h x p saw image l q later → KeepsLeast t sections told

-- The same on a host's device, once the host has made the calls that had been handed over by that moment.
abbrev pub GivesHostDurable : {E : Type 0} → (image : List ℕ) → Answer E → Type 0
GivesHostDurable image told = (h : Home) (p : Past) (x y : Parts Deferred) (seen : List (ℕ × Event)) (t : Session) (sections : ℕ) (c : Host)
    → HasReadOf hosted_device h p x t sections → y.store.known.layout ≡ x.store.known.layout
    → RunsOn hosted_device h p (hosted_device x.store.disk) y seen → LeavesSince (hosted_device x.store.disk) y.store.disk c image
    → KeepsLeast t sections told
