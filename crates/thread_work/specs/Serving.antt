-- What a helper keeps while it serves.
use Rattle.std.specs.Prelude.{ℕ, ◌≡◌, ◌≤◌, false, IfErr, List, OnErr, OnOk, Result, length}
use Rattle.heap_model.specs.declared.event.Event.{Event}
use Rattle.heap_model.specs.History.{IsLegalHistory}
use Rattle.block_disk.specs.Device.{Device}
use Rattle.monitor.specs.Seats.{Home}
use Rattle.monitor.specs.Views.{GoesOn}
use Rattle.thread_heap.specs.Joined.{IsHelping}
use Rattle.thread_heap.specs.Life.{HasLived}
use Rattle.session.specs.declared.session.Session.{Session}
use Rattle.heap_model.specs.declared.store_error.StoreError.{StoreError}
use Rattle.thread_steps.specs.Views.{plan}
use Rattle.heap_model.specs.Past.{Past}
use Rattle.trim_helper.specs.Heard.{HasSeen, IsSeenOf}
use Rattle.trim_helper.specs.Moves.{SameRings}
use Rattle.trim_helper.specs.Parts.{Parts}
use Rattle.thread_work.specs.Bodies.{Answer}
use Rattle.thread_work.specs.Crashes.{CrashesOf, KeepsSeen}
use Rattle.thread_work.specs.Stops.{StopsRound}
use Rattle.thread_work.specs.declared.error.RunError.{RunError}

module _ {D : Type 0} (device : D → Device) where
  -- It has the same rings, its lanes are as they were, and its device has failed no less often than before. What it has seen of the one history goes on
  -- from what it had seen.
  pub record HasStayed (old new : Parts D) : Type 0 where
    pub rings : SameRings old.rings new.rings
    pub layout : new.store.known.layout ≡ old.store.known.layout
    pub later : (device old.store.disk).failures ≤ (device new.store.disk).failures
    pub sight : GoesOn new.seat.view.history old.seat.view.history

  -- The helper serves this past, which store calls since its heap was opened on this device have made, and its store hasn't failed. What is applied is of a legal
  -- history, from which what the helper has seen goes on.
  pub record IsLiving (h : Home) (opened : Device) (x : Parts D) (p : Past) : Type 0 where
    pub lived : HasLived device h opened x p
    pub seen : List (ℕ × Event)
    pub legal : IsLegalHistory (plan h) seen
    pub of : IsSeenOf h (length x.rings) p seen
    pub sight : GoesOn x.seat.view.history seen

  -- whatever a helper had lived through, it has lived on
  abbrev pub LivesOn : Home → (old new : Parts D) → Type 0
  LivesOn h old new = (opened : Device) (p : Past) → IsLiving h opened old p → (q : Past) × IsLiving h opened new q

  -- Recovery accepts whatever a crash left at any moment from the opening up to now. It keeps one set of sections, of each history that goes on
  -- from the one that the helper has seen now.
  abbrev pub CrashesSince : Home → (old new : Parts D) → Type 0
  CrashesSince h old new = (opened : Device) (p : Past) → IsLiving h opened old p → KeepsSeen h new.store.known.layout new.seat.view.history opened (device new.store.disk)

  -- What recovery makes of whatever a crash left at any moment since the opening, where the run was stopped so, on this device.
  abbrev pub CrashesBy : (does : Home → Session → Session → Answer → Type 0) → Home → (helper : Parts D) → (new : Device) → RunError → Type 0
  CrashesBy does h x new e = (opened : Device) (p : Past) → IsLiving h opened x p → CrashesOf does h x.store.known.layout opened new e

  -- So it is of what is given back.
  abbrev pub CrashesBack : (does : Home → Session → Session → Answer → Type 0) → Home → (helper : Parts D) → D × RunError → Type 0
  CrashesBack does h x back = CrashesBy does h x (device back.0) back.1

  -- This helper has gone on, and this is the answer of its last round. It has the rings that it had. After Ok it has lived on, and its store
  -- hasn't failed. A round was refused only for this cause; the helper had seen what it took of its rings by then.
  pub record HasServed {A : Type 0} (h : Home) (old new : Parts D) (answer : Result A StoreError) : Type 0 where
    pub helping : IsHelping device h new
    pub stayed : HasStayed old new
    pub running : OnOk answer (new.store.known.has_failed ≡ false)
    pub lives : OnOk answer (LivesOn h old new)
    pub seen : OnErr answer (HasSeen h new)
    -- What a crash leaves at any moment since the opening, up to the end of a round that was refused, keeps whole sections of each legal
    -- history that goes on from what the helper has seen.
    pub crashes : OnErr answer (CrashesSince h old new)
    -- A round of the helper beside threads is refused only because the device has failed since, or because its control is at its last
    -- sequence.
    pub cause : IfErr answer (StopsRound (device old.store.disk) (device new.store.disk))
