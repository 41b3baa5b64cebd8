-- What was acknowledged by some moment, recovery keeps of a crash since then.
use Rattle.std.proofs.Common.{ℕ, ◌≡◌, ◌<◌, ◌≤◌, List, Ok, Err, ap, arith}
use Rattle.heap_model.specs.declared.event.Event.{Event}
use Rattle.heap_model.specs.Setting.{Setting}
use Rattle.heap_model.specs.Past.{Past}
use Rattle.block_disk.specs.Device.{Device}
use Rattle.image_parts.specs.declared.layout.Layout.{Layout}
use Rattle.monitor.specs.Seats.{Home}
use Rattle.session.specs.Sessions.{seat_of, view_of}
use Rattle.session.specs.declared.session.Session.{Session}
use Rattle.law_survival.specs.Promise.{Answer}
use Rattle.trim_helper.specs.Parts.{Parts}
use Rattle.law_running.specs.Told.{HasReadOf}
use Rattle.law_running.proofs.Told.{lane_there}
use Rattle.headline.specs.Durable.{KeepsLeast}
use Rattle.headline.specs.Headline.{Gives}

pub keeps_least : {E : Type 0} (answer : Answer E) (l : Layout) (s : Setting) (q : Past) (later : List (ℕ × Event)) (t : Session) (sections : ℕ) →
    Gives l s q later answer → (view_of t).lane.0 < l.lanes → sections ≤ q.cut (view_of t).lane.0 → KeepsLeast t sections answer
keeps_least (Ok r) l s q later t sections given within least =
    let same = given.reported (view_of t).lane.0 within in
    let more = given.acknowledged (view_of t).lane.0 in
    omega (arith, least, same, more)
keeps_least (Err back) l s q later t sections cannot within least = cannot

module _ {D : Type 0} (device : D → Device) (h : Home) (p : Past) (x : Parts D) (t : Session) (sections : ℕ) (had : HasReadOf device h p x t sections) where
  -- the session's lane is one of the threads'
  pub reader_there : (view_of t).lane.0 < x.store.known.threads
  reader_there = lane_there device h x had.reads.moment had.reads.helper (seat_of t) had.helping had.reads.is had.reads.seated had.reads.no_more

  -- and one of the image's
  pub reader_within : (l : Layout) → l ≡ x.store.known.layout → (view_of t).lane.0 < l.lanes
  reader_within l layout =
      let there : (view_of t).lane.0 < x.store.known.threads = reader_there in
      let within : x.store.known.threads ≤ x.store.known.layout.lanes = had.serves.taken.has.layout.within in
      let same : l.lanes ≡ x.store.known.layout.lanes = ap (λ (o : Layout). o.lanes) layout in
      omega (arith, there, within, same)
