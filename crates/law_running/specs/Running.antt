-- A crash while threads run (this project's own).
use Rattle.std.specs.Prelude.{ℕ, List, Result, length}
use Rattle.heap_model.specs.declared.event.Event.{Event}
use Rattle.heap_model.specs.History.{IsLegalHistory}
use Rattle.heap_model.specs.Setting.{Setting}
use Rattle.block_disk.specs.Device.{Device}
use Rattle.image_parts.specs.declared.layout.Layout.{Layout}
use Rattle.monitor.specs.Seats.{Helping, Home}
use Rattle.monitor.specs.Views.{GoesOn}
use Rattle.thread_steps.specs.Views.{plan}
use Rattle.heap_model.specs.Past.{Past, no_past}
use Rattle.heap_model.specs.declared.store_error.StoreError.{StoreError}
use Rattle.law_survival.specs.Running.{KeepsIn, KeepsOfHistory}
use Rattle.law_survival.specs.WholeRun.{MayBeLeft}
use Rattle.trim_helper.specs.Calls.{HasGoneOn, Rounds}
use Rattle.trim_helper.specs.Heard.{HasSeen, IsSeenOf}
use Rattle.trim_helper.specs.Parts.{IsServing, Parts}
use Rattle.trim_helper.specs.declared.ended.Ended.{Ended}
use Rattle.thread_heap.specs.Closed.{IsClosedFrom}
use Rattle.thread_heap.specs.Life.{HasLived}
use Rattle.law_running.specs.Runs.{RunsSince}

-- These histories: each legal one that goes on from the one seen.
pub record GoesOnLegally (s : Setting) (seen later : List (ℕ × Event)) : Type 0 where
  pub goes_on : GoesOn later seen
  pub legal : IsLegalHistory s later

-- Recovery accepts the image, and keeps one set of sections. It includes every section that was acknowledged in this past. In each legal history
-- that goes on from the one seen, they are whole sections, each with every section that it depends on, and the heap has what they stored.
pub record KeepsRunning (l : Layout) (s : Setting) (p : Past) (seen : List (ℕ × Event)) (image : List ℕ) : Type 0 where
  pub legal : IsLegalHistory s seen
  -- While threads run, a crash keeps whole, closed sections in each legal history that goes on from the one that the
  -- helper has seen.
  pub kept : KeepsIn (GoesOnLegally s seen) l s p image

-- What is kept stays so as more of the history is seen.
abbrev pub SeesMoreLaw : Type 0
SeesMoreLaw = (l : Layout) (s : Setting) (p : Past) (seen later : List (ℕ × Event)) (image : List ℕ)
    → KeepsRunning l s p seen image → GoesOnLegally s seen later → KeepsRunning l s p later image

-- Once the heap is closed, it is kept in the history in which each session's part is what the session was told.
abbrev pub ToldLaw : Type 0
ToldLaw = (h : Home) (l : Layout) (ended : List Ended) (p q : Past) (seat : Helping) (since d : Device) (seen : List (ℕ × Event)) (image : List ℕ)
    → KeepsRunning l (plan h) p seen image → GoesOn seat.view.history seen
    → (from : IsClosedFrom h l ended q seat since d) → KeepsOfHistory l (plan h) p from.closed.history image

module _ {D : Type 0} (device : D → Device) where
  -- A store of this past had the old device, and has run since. A helper serves it now, and has seen this legal history of what is applied.
  pub record RunsOn (h : Home) (p : Past) (old : Device) (y : Parts D) (seen : List (ℕ × Event)) : Type 0 where
    pub run : RunsSince y.store.known.layout y.store.known.threads (plan h) p old (device y.store.disk)
    pub serves : IsServing device y (plan h) run.now
    pub legal : IsLegalHistory (plan h) seen
    pub seen_of : IsSeenOf h (length y.rings) run.now seen

  -- Recovery keeps whatever a crash left at any moment of this run so, with every section that was acknowledged when the run began.
  abbrev pub CrashInRunLaw : Type 0
  CrashInRunLaw = (h : Home) (p : Past) (old : Device) (y : Parts D) (seen : List (ℕ × Event)) (image : List ℕ)
      → RunsOn h p old y seen → MayBeLeft old (device y.store.disk) image → KeepsRunning y.store.known.layout (plan h) p seen image

  -- A helper that serves this past has made a round, which gave this answer.
  pub record HasMadeRound (h : Home) (p : Past) (x y : Parts D) (answer : Result ℕ StoreError) : Type 0 where
    pub on : HasGoneOn h x y
    pub round : Rounds device (plan h) p x y answer
    pub seen : HasSeen h y

  -- The same holds at each moment of a round, whatever the round answers, with every section that was acknowledged before it.
  abbrev pub CrashInRoundLaw : Type 0
  CrashInRoundLaw = (h : Home) (p : Past) (x y : Parts D) (answer : Result ℕ StoreError) (image : List ℕ)
      → IsServing device x (plan h) p → HasMadeRound h p x y answer → MayBeLeft (device x.store.disk) (device y.store.disk) image
      → KeepsRunning y.store.known.layout (plan h) p y.seat.view.history image

  -- The same holds at each moment from the heap's opening to the end of a round.
  abbrev pub CrashSinceLaw : Type 0
  CrashSinceLaw = (h : Home) (opened : Device) (p : Past) (x y : Parts D) (answer : Result ℕ StoreError) (image : List ℕ)
      → HasLived device h opened x p → HasMadeRound h p x y answer → MayBeLeft opened (device y.store.disk) image
      → KeepsRunning y.store.known.layout (plan h) no_past y.seat.view.history image

  -- The helper rests between two rounds, and has seen this legal history of what is applied. Before the first round that may be none.
  pub record Rests (h : Home) (p : Past) (x : Parts D) (seen : List (ℕ × Event)) : Type 0 where
    pub serves : IsServing device x (plan h) p
    pub legal : IsLegalHistory (plan h) seen
    pub seen_of : IsSeenOf h (length x.rings) p seen

  -- The same holds after a crash between two rounds, at each moment since the heap's opening.
  abbrev pub CrashBetweenLaw : Type 0
  CrashBetweenLaw = (h : Home) (opened : Device) (p : Past) (x : Parts D) (seen : List (ℕ × Event)) (image : List ℕ)
      → HasLived device h opened x p → Rests h p x seen → MayBeLeft opened (device x.store.disk) image
      → KeepsRunning x.store.known.layout (plan h) no_past seen image

  -- Between two rounds, whatever a crash leaves now, recovery keeps every section that is acknowledged by now.
  abbrev pub CrashNowLaw : Type 0
  CrashNowLaw = (h : Home) (p : Past) (x : Parts D) (seen : List (ℕ × Event)) (image : List ℕ)
      → Rests h p x seen → MayBeLeft (device x.store.disk) (device x.store.disk) image
      → KeepsRunning x.store.known.layout (plan h) p seen image
