-- A heap's life until a crash (this project's own).
use Rattle.std.specs.Prelude.{ℕ, ◌≡◌, true, List, [], Result}
use Rattle.heap_model.specs.declared.event.Event.{Event}
use Rattle.heap_model.specs.declared.store_error.StoreError.{StoreError}
use Rattle.heap_model.specs.Past.{Past, no_past}
use Rattle.block_disk.specs.Device.{Device}
use Rattle.image_parts.specs.declared.layout.Layout.{Layout}
use Rattle.monitor.specs.Seats.{Home}
use Rattle.thread_steps.specs.Views.{plan}
use Rattle.law_survival.specs.WholeRun.{MayBeLeft}
use Rattle.trim_helper.specs.Calls.{HasGoneOn, Rounds}
use Rattle.trim_helper.specs.Parts.{IsServing, Parts}
use Rattle.trim_helper.specs.declared.ended.Ended.{Ended}
use Rattle.thread_heap.specs.Closed.{IsClosedFrom}
use Rattle.law_running.specs.Running.{HasMadeRound}

module _ {D : Type 0} (device : D → Device) (h : Home) where
  -- From this moment of a heap's life on, its helper has made any number of rounds. The past has what is acknowledged now, and `seen` is what the
  -- helper has seen of the threads' history.
  pub data LivesSince (first : Parts D) (before : Past) (saw : List (ℕ × Event)) : Parts D → Past → (seen : List (ℕ × Event)) → Type 0 where
    -- No round was made.
    Still : LivesSince first before saw first before saw
    -- A round was made, whatever it answered.
    MadeRound : (x y : Parts D) (p : Past) (seen : List (ℕ × Event)) (answer : Result ℕ StoreError)
        → LivesSince first before saw x p seen → (made : HasMadeRound device h p x y answer) → LivesSince first before saw y made.round.now y.seat.view.history
    -- A round was made after a fault. Such a round makes no call, and sees no more.
    MadeNone : (x y : Parts D) (p : Past) (seen : List (ℕ × Event)) (answer : Result ℕ StoreError)
        → LivesSince first before saw x p seen → x.store.known.has_failed ≡ true → HasGoneOn h x y → Rounds device (plan h) p x y answer
        → LivesSince first before saw y p seen

  -- A heap was opened, and its helper has made any number of rounds since.
  pub record Lives (x : Parts D) (p : Past) (seen : List (ℕ × Event)) : Type 0 where
    pub opened : Parts D
    pub lanes : h.plan.lanes ≡ opened.store.known.threads
    pub serves : IsServing device opened (plan h) no_past
    pub since : LivesSince opened no_past [] x p seen

  -- From this moment on a heap of this layout lived, until a crash came and left this image. The past has what was acknowledged before the call in
  -- which the crash came. `seen` is what is known of the threads' history by the end of that call.
  pub data LifeSince (first : Parts D) (before : Past) (saw : List (ℕ × Event)) (image : List ℕ) : Layout → Past → (seen : List (ℕ × Event)) → Type 0 where
    -- The crash came between two calls.
    AtRest : (x : Parts D) (p : Past) (seen : List (ℕ × Event)) → LivesSince first before saw x p seen
        → MayBeLeft (device x.store.disk) (device x.store.disk) image → LifeSince first before saw image x.store.known.layout p seen
    -- The crash came at any moment of a round, whatever the round would have answered.
    InRound : (x y : Parts D) (p : Past) (seen : List (ℕ × Event)) (answer : Result ℕ StoreError) → LivesSince first before saw x p seen
        → HasMadeRound device h p x y answer → MayBeLeft (device x.store.disk) (device y.store.disk) image
        → LifeSince first before saw image y.store.known.layout p y.seat.view.history
    -- The crash came at any moment of a closing, or after it.
    InClosing : (x : Parts D) (p : Past) (seen : List (ℕ × Event)) (ended : List Ended) (d : Device) → LivesSince first before saw x p seen
        → (from : IsClosedFrom h x.store.known.layout ended p x.seat (device x.store.disk) d)
        → MayBeLeft (device x.store.disk) d image → LifeSince first before saw image x.store.known.layout p from.closed.history

  -- A heap was opened and lived, until a crash left this image.
  pub record Life (image : List ℕ) (l : Layout) (p : Past) (seen : List (ℕ × Event)) : Type 0 where
    pub first : Parts D
    pub before : Past
    pub saw : List (ℕ × Event)
    pub lives : Lives first before saw
    pub until : LifeSince first before saw image l p seen
