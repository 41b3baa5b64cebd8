-- A heap's life since its opening: what its helper's store has run (this project's own).
use Rattle.std.specs.Prelude.{ℕ, ◌≡◌, true, false, List, Result}
use Rattle.block_disk.specs.Device.{Device}
use Rattle.store_rounds.specs.Runs.{HasRun}
use Rattle.store_rounds.specs.Store.{Known, HasPast}
use Rattle.image_parts.specs.declared.layout.Layout.{Layout}
use Rattle.monitor.specs.Seats.{Home}
use Rattle.thread_steps.specs.Views.{plan}
use Rattle.heap_model.specs.Past.{Past, no_past}
use Rattle.heap_model.specs.declared.store_error.StoreError.{StoreError}
use Rattle.trim_helper.specs.declared.ended.Ended.{Ended}
use Rattle.trim_helper.specs.Calls.{HasGoneOn, Rounds}
use Rattle.trim_helper.specs.Parts.{HasDrained, IsServing, Parts}
use Rattle.thread_heap.specs.Closed.{IsClosedFrom}

-- From the one device, when its store had been told nothing, the store has run to the other. Its threads have the lanes of these words.
pub record HasLivedTo (h : Home) (l : Layout) (opened : Device) (now : Past) (d : Device) : Type 0 where
  pub began : Known
  pub nothing : HasPast began (plan h) no_past opened
  pub layout : began.layout ≡ l
  pub threads : began.threads ≡ h.plan.lanes
  pub ran : HasRun l h.plan.lanes (plan h) no_past opened now d

module _ {D : Type 0} (device : D → Device) where
  -- the helper serves this past, to which its store has run since the opening; its threads have the words' lanes, and the store hasn't failed
  pub record HasLived (h : Home) (opened : Device) (x : Parts D) (p : Past) : Type 0 where
    pub life : HasLivedTo h x.store.known.layout opened p (device x.store.disk)
    pub lanes : h.plan.lanes ≡ x.store.known.threads
    pub serving : IsServing device x (plan h) p
    pub running : x.store.known.has_failed ≡ false

  -- so it begins, where its threads have the words' lanes: on the device that it has then
  abbrev pub BirthLaw : Type 0
  BirthLaw = (h : Home) (x : Parts D) → h.plan.lanes ≡ x.store.known.threads → IsServing device x (plan h) no_past → x.store.known.has_failed ≡ false → HasLived h (device x.store.disk) x no_past

  -- and it goes on over a round after which the store hasn't failed
  abbrev pub LifeLaw : Type 0
  LifeLaw = (h : Home) (opened : Device) (p : Past) (x y : Parts D) (answer : Result ℕ StoreError) → HasLived h opened x p → HasGoneOn h x y →
      (round : Rounds device (plan h) p x y answer) → y.store.known.has_failed ≡ false → HasLived h opened y round.now

  -- and over a drain
  abbrev pub DrainLifeLaw : Type 0
  DrainLifeLaw = (h : Home) (opened : Device) (x y : Parts D) (p : Past) (n : ℕ) → HasLived h opened x p → y.seat ≡ x.seat → HasDrained device x y n →
      (y.is_settled ≡ true → (x.is_settled ≡ true) × (n ≡ 0)) → (q : Past) × HasLived h opened y q

  -- A round of a helper whose store has failed applies nothing and makes no call: the helper serves the same past, by the same store.
  abbrev pub FailedLaw : Type 0
  FailedLaw = (h : Home) (p : Past) (x y : Parts D) (answer : Result ℕ StoreError) → IsServing device x (plan h) p → HasGoneOn h x y →
      Rounds device (plan h) p x y answer → x.store.known.has_failed ≡ true →
      IsServing device y (plan h) p × (y.store ≡ x.store)

  -- until the heap is closed
  abbrev pub ClosedLifeLaw : Type 0
  ClosedLifeLaw = (h : Home) (opened d : Device) (x : Parts D) (p : Past) (ended : List Ended) → HasLived h opened x p → (from : IsClosedFrom h x.store.known.layout ended p x.seat (device x.store.disk) d) →
      HasLivedTo h x.store.known.layout opened from.closed.now d
