-- What sessions read in the midst of a round (this project's own).
use Rattle.std.specs.Prelude.{ℕ, ◌≡◌}
use Rattle.block_disk.specs.Device.{Device}
use Rattle.monitor.specs.Seats.{Helping, Home}
use Rattle.monitor.specs.Views.{GoesOn}
use Rattle.session.specs.Calls.{ReadsStable}
use Rattle.session.specs.Sessions.{seat_of}
use Rattle.session.specs.declared.session.Session.{Session}
use Rattle.thread_steps.specs.Views.{plan}
use Rattle.heap_model.specs.Past.{Past}
use Rattle.trim_helper.specs.Calls.{Publishes}
use Rattle.trim_helper.specs.Hearing.{IsNoted}
use Rattle.trim_helper.specs.Parts.{IsServing, Parts}
use Rattle.trim_helper.specs.Settled.{IsDurable}
use Rattle.thread_heap.specs.Joined.{IsHelping}
use Rattle.law_running.specs.Told.{HasReadOf, IsMoment, IsSeated, Moment}

-- The session has read this count, and this is its seat at this moment. The helper's seat then is between these two: it has noted what the earlier
-- had published, and the later has noted what it has.
pub record ReadsBetween (h : Home) (earlier later : Helping) (t : Session) (sections : ℕ) : Type 0 where
  -- The words at the moment of the reading.
  pub moment : Moment
  -- The helper's seat at that moment.
  pub helper : Helping
  -- The moment is one of this heap.
  pub is : IsMoment h moment helper
  -- The helper has given out its lanes before.
  pub next : helper.next ≡ earlier.next
  -- It has noted what the earlier seat had published, and maybe more.
  pub after : GoesOn helper.view.notes earlier.view.notes
  -- The later seat has noted what it has published, and maybe more.
  pub before : GoesOn later.view.notes helper.view.notes
  -- The session before the reading.
  pub was : Session
  -- The session reads the count.
  pub reads : ReadsStable was t sections
  -- Its seat is as it is at the moment.
  pub seated : IsSeated moment (seat_of t)

module _ {D : Type 0} (device : D → Device) where
  -- What a session reads while the helper settles is acknowledged in the past that the helper served before: settling publishes nothing.
  abbrev pub ReadWhileSettlingLaw : Type 0
  ReadWhileSettlingLaw = (h : Home) (p : Past) (x y : Parts D) (t : Session) (sections : ℕ) → IsHelping device h x → IsServing device x (plan h) p
      → IsNoted x.seat y.seat → ReadsBetween h x.seat y.seat t sections → HasReadOf device h p x t sections

  -- What a session reads while the helper publishes is acknowledged in the past that the helper serves after: publishing leaves the device as it is, so
  -- that a crash leaves no less.
  abbrev pub ReadWhilePublishingLaw : Type 0
  ReadWhilePublishingLaw = (h : Home) (p : Past) (x y : Parts D) (now : Moment) (t : Session) (sections : ℕ) → IsHelping device h x
      → IsServing device x (plan h) p → IsDurable x.store.known (plan h) p → Publishes device h x y → IsMoment h now y.seat
      → ReadsBetween h x.seat y.seat t sections → HasReadOf device h p y t sections × (y.store ≡ x.store)
