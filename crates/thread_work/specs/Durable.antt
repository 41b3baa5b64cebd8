-- What a thread has ended before `durable` answered no crash takes back (this project's own).
use Rattle.std.specs.Prelude.{ℕ, ◌≡◌, List, Result}
use Rattle.block_disk.specs.Device.{Device}
use Rattle.monitor.specs.Seats.{Helping, Home}
use Rattle.thread_heap.specs.Joined.{IsHelping}
use Rattle.law_running.specs.Running.{HasMadeRound, Rests, RunsOn}
use Rattle.law_running.specs.Told.{HasPublishedNoMore, IsMoment, IsSeated, KeepsRead, Moment}
use Rattle.session.specs.Logs.{sections_ended}
use Rattle.session.specs.Sessions.{seat_of, view_of}
use Rattle.session.specs.declared.session.Session.{Session}
use Rattle.thread_steps.specs.Views.{plan}
use Rattle.heap_model.specs.Past.{Past}
use Rattle.heap_model.specs.declared.store_error.StoreError.{StoreError}
use Rattle.law_survival.specs.WholeRun.{MayBeLeft}
use Rattle.trim_helper.specs.Parts.{IsServing, Parts}
use Rattle.thread_work.specs.Threads.{IsDurable}

module _ {D : Type 0} (device : D → Device) where
  -- The call `durable` of a thread with the session `s` has answered Ok and left the session `t`. By that moment the helper had published no more than
  -- when it served this past.
  pub record WasDurable (h : Home) (p : Past) (x : Parts D) (s t : Session) : Type 0 where
    pub durable : IsDurable s t
    pub helping : IsHelping device h x
    pub serves : IsServing device x (plan h) p
    pub moment : Moment
    pub helper : Helping
    pub is : IsMoment h moment helper
    pub no_more : HasPublishedNoMore helper x.seat
    pub seated : IsSeated moment (seat_of t)

  -- Store calls have gone on from that past, and the helper had seen all that they applied when a crash came. Whatever the crash left, of any
  -- moment since, recovery keeps each section that the thread had ended.
  abbrev pub KeepsDurableLaw : Type 0
  KeepsDurableLaw = (h : Home) (p : Past) (x y : Parts D) (s t : Session) (now : Moment) (helper : Helping) (image : List ℕ)
      → WasDurable h p x s t → y.store.known.layout ≡ x.store.known.layout → RunsOn device h p (device x.store.disk) y helper.view.history
      → IsMoment h now helper → MayBeLeft (device x.store.disk) (device y.store.disk) image
      → KeepsRead h y.store.known.layout p now image (view_of t).lane.0 (sections_ended (view_of t))

  -- So it is of a crash in a round, once the helper has heard its rings, or after the round, whatever it answered.
  abbrev pub KeepsDurableInRoundLaw : Type 0
  KeepsDurableInRoundLaw = (h : Home) (p : Past) (x y : Parts D) (answer : Result ℕ StoreError) (s t : Session) (now : Moment) (helper : Helping) (image : List ℕ)
      → WasDurable h p x s t → HasMadeRound device h p x y answer → IsMoment h now helper → helper.view.history ≡ y.seat.view.history
      → MayBeLeft (device x.store.disk) (device y.store.disk) image
      → KeepsRead h y.store.known.layout p now image (view_of t).lane.0 (sections_ended (view_of t))

  -- So it is of a crash that comes while the helper rests.
  abbrev pub KeepsDurableAtRestLaw : Type 0
  KeepsDurableAtRestLaw = (h : Home) (p : Past) (x : Parts D) (s t : Session) (now : Moment) (helper : Helping) (image : List ℕ)
      → WasDurable h p x s t → Rests device h p x helper.view.history → IsMoment h now helper
      → MayBeLeft (device x.store.disk) (device x.store.disk) image
      → KeepsRead h x.store.known.layout p now image (view_of t).lane.0 (sections_ended (view_of t))
