-- What a crash of the device below a journal keeps of a hosted heap (this project's own).
use Rattle.std.specs.Prelude.{ℕ, ◌≡◌, ◌⊎◌, ◌≤◌, List, Result}
use Rattle.heap_model.specs.Setting.{Setting}
use Rattle.heap_model.specs.declared.event.Event.{Event}
use Rattle.heap_model.specs.declared.store_error.StoreError.{StoreError}
use Rattle.heap_model.specs.Past.{Past, no_past}
use Rattle.block_disk.specs.Device.{Device}
use Rattle.block_disk.specs.Memory.{Stop}
use Rattle.disk_deferred.specs.Deferred.{Deferred, deferred_device}
use Rattle.disk_deferred.specs.Host.{HaveMet, Host}
use Rattle.disk_deferred.specs.Syncs.{syncs_in}
use Rattle.guards.specs.Schema.{Declarations}
use Rattle.image_parts.specs.Recovered.{Parts as Recovered}
use Rattle.image_parts.specs.declared.layout.Layout.{Layout}
use Rattle.monitor.specs.Seats.{Home}
use Rattle.recover.specs.Recovery.{IsOnTheWay}
use Rattle.recover.specs.Study.{IsStudyOf}
use Rattle.recover.specs.declared.report.Report.{Report}
use Rattle.recover.specs.declared.studied.Study.{Study}
use Rattle.recover.specs.declared.versions.Versions.{Versions}
use Rattle.store_rounds.specs.Runs.{HasRun}
use Rattle.thread_steps.specs.Views.{plan}
use Rattle.trim_helper.specs.Parts.{IsServing, Parts}
use Rattle.law_running.specs.Running.{KeepsRunning, RunsOn}
use Rattle.law_running.specs.Runs.{RunsSince}
use Rattle.host_heap.specs.Hosting.{Hosting, IsClosedWith, hosted_device}
use Rattle.host_heap.specs.Meeting.{AreAllMade, SameButMet}
use Rattle.host_heap.specs.Opening.{HasBegun, IsFound}
use Rattle.host_heap.specs.Rounds.{HearsThreads, MakesRound}
use Rattle.host_journal.specs.Hosted.{Hosted}
use Rattle.law_hosted.specs.Running.{HasRunOn}
use Rattle.law_hosted.specs.Safe.{IsHeapOf, IsSafe}
use Rattle.law_journaled.specs.Left.{HoldsDisk, HoldsSince, LiesOver}

-- A store of this past had the old device, and has run since. Once the journal was synced with all calls that had been handed over then, whatever a
-- crash leaves is safe: all is kept that was acknowledged in that past.
abbrev pub JournalSafeLaw : Hosted → Type 0
JournalSafeLaw j = (l : Layout) (t : ℕ) (s : Setting) (p : Past) (old : Device) (d : Deferred)
    → RunsSince l t s p old (deferred_device d) → HoldsSince j old d (IsSafe l p.cut)

-- So it is once the journal was synced with the calls by which the heap was opened.
abbrev pub JournalBegunLaw : Hosted → Type 0
JournalBegunLaw j = (schema : Declarations) (threads : ℕ) (r : Recovered Deferred) (x : Hosting) (q : Past) (d : Deferred)
    → HasBegun schema threads r x → HasRun r.layout threads (plan x.home) no_past (hosted_device r.disk) q (hosted_device d)
    → HoldsSince j (hosted_device r.disk) d (IsSafe r.layout no_past.cut)

-- So it is since a count of sections was told as acknowledged. The host had made all calls that were handed over by then, and the journal's last sync
-- wasn't before that. Store calls have gone on.
abbrev pub JournalAcknowledgedLaw : Hosted → Type 0
JournalAcknowledgedLaw j = (x y : Hosting) (p : Past) (d : Deferred) (c : Host) (synced : List Stop)
    → SameButMet x y → HaveMet y.helper.store.disk y.calls → AreAllMade y.calls → IsServing hosted_device x.helper (plan x.home) p
    → RunsSince x.helper.store.known.layout x.helper.store.known.threads (plan x.home) p (hosted_device y.helper.store.disk) (hosted_device d)
    → LiesOver d c synced j → syncs_in y.calls.made ≤ syncs_in synced → HoldsDisk j d (IsSafe x.helper.store.known.layout p.cut)

-- A helper serves the store now, and has seen this history of what is applied. What a crash leaves keeps whole sections of each legal history that
-- goes on from that, with all that was acknowledged in the past of the old device.
abbrev pub JournalRunLaw : Hosted → Type 0
JournalRunLaw j = (h : Home) (p : Past) (old : Device) (y : Parts Deferred) (seen : List (ℕ × Event))
    → RunsOn hosted_device h p old y seen → HoldsSince j old y.store.disk (KeepsRunning y.store.known.layout (plan h) p seen)

-- So it is over a round of the heap, by the history that its helper has seen at the end, whatever the round answers.
abbrev pub JournalRoundLaw : Hosted → Type 0
JournalRoundLaw j = (x y : Hosting) (answer : Result ℕ StoreError) (p : Past) (old : Device) → HasRunOn x p old → MakesRound x y answer → HearsThreads x y
    → HoldsSince j old y.helper.store.disk (KeepsRunning y.helper.store.known.layout (plan x.home) p y.helper.seat.view.history)

-- So it is of a run that ends with a closing, at whatever moment the host comes on with the calls that are left: of the closing's history.
abbrev pub JournalClosingLaw : Hosted → Type 0
JournalClosingLaw j = (h : Home) (x : Parts Deferred) (p : Past) (old : Device) (d : Deferred) → h.plan.lanes ≡ x.store.known.threads
    → (run : RunsSince x.store.known.layout x.store.known.threads (plan h) p old (hosted_device x.store.disk))
    → (serves : IsServing hosted_device x (plan h) run.now) → (closing : IsClosedWith h x d)
    → HoldsSince j old d (KeepsRunning x.store.known.layout (plan h) p (closing.from run.now serves).closed.history)

-- Once the host has made all calls that are left after a closing, and the journal was synced since, whatever a crash leaves is the heap of the
-- closing's history, with all its sections.
abbrev pub JournalClosedLaw : Hosted → Type 0
JournalClosedLaw j = (h : Home) (x : Parts Deferred) (d : Deferred) (c : Host) → (closing : IsClosedWith h x d) → LiesOver d c c.made j → AreAllMade c
    → HoldsDisk j d (IsHeapOf (plan h) x.store.known.layout h.plan.lanes closing.closed.history closing.closed.now)

-- While the host makes the calls by which a heap was opened from these bytes, or upgraded, a crash leaves these bytes, or an image on recovery's way,
-- which has the same heap. So the heap may be opened again.
abbrev pub JournalOpeningLaw : Hosted → Type 0
JournalOpeningLaw j = (versions : Versions) (threads ring : ℕ) (bytes : List ℕ) (x : Hosting) (report : Report) (s : Study) (c : Host) (synced : List Stop)
    → IsFound versions threads ring bytes x report → IsStudyOf bytes s → LiesOver x.helper.store.disk c synced j
    → HoldsDisk j x.helper.store.disk (λ image. (image ≡ bytes) ⊎ IsOnTheWay s image)
