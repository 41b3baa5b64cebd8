-- What sessions have read of a heap that runs, and what a crash then keeps (this project's own).
use Rattle.std.specs.Prelude.{ℕ, ◌≡◌, ◌≤◌, List, Result}
use mathlib.Core.Option.{some}
use lib.ListN.{get_elem?}
use Rattle.atomic_table.specs.Table as table
use Rattle.heap_model.specs.declared.event.Event.{Event}
use Rattle.heap_model.specs.Cuts.{counts_of}
use Rattle.heap_model.specs.History.{IsLegalHistory}
use Rattle.heap_model.specs.Log.{lane}
use Rattle.block_disk.specs.Device.{Device}
use Rattle.image_parts.specs.declared.layout.Layout.{Layout}
use Rattle.monitor.specs.Rule.{Kept}
use Rattle.monitor.specs.Seats.{Helping, Home, Sitting}
use Rattle.monitor.specs.Views.{GoesOn, lane_of}
use Rattle.monitor.specs.declared.view.Role.TheVariants.{Helper, Worker}
use Rattle.monitor.specs.declared.view.View.{View}
use Rattle.session.specs.Calls.{ReadsStable}
use Rattle.session.specs.Sessions.{seat_of, view_of}
use Rattle.session.specs.declared.session.Session.{Session}
use Rattle.thread_steps.specs.Views.{plan, view}
use Rattle.heap_model.specs.Past.{Past, applied}
use Rattle.heap_model.specs.declared.store_error.StoreError.{StoreError}
use Rattle.law_survival.specs.Running.{KeepsOfHistory}
use Rattle.law_survival.specs.WholeRun.{MayBeLeft}
use Rattle.trim_helper.specs.Counts.{IsCutCount, WasCount}
use Rattle.trim_helper.specs.Helping.{count_published}
use Rattle.trim_helper.specs.Parts.{IsServing, Parts}
use Rattle.thread_heap.specs.Joined.{IsHelping}
use Rattle.law_running.specs.Running.{HasMadeRound, KeepsRunning, Rests, RunsOn}

-- The words that threads share at a moment between two of their steps, with what each seat knows then. Their rule holds of each moment.
abbrev pub Moment : Type 0
Moment = table.State (Unit {0}) View

-- The words at this moment are those of this heap, and this is its helper's seat then.
pub record IsMoment (h : Home) (now : Moment) (helper : Helping) : Type 0 where
  pub kept : Kept h.plan now
  pub seated : get_elem? now.views helper.id ≡ some helper.view
  pub role : helper.view.role ≡ Helper helper.next

-- this is the seat of a lane then
pub record IsSeated (now : Moment) (seat : Sitting) : Type 0 where
  pub seated : get_elem? now.views seat.id ≡ some seat.view
  pub role : seat.view.role ≡ Worker (lane_of seat.view)

-- Recovery accepts the image, and includes every section that was acknowledged in this past. There is one legal history in which each lane's part
-- is just what its session had been told at this moment, when the crash came. What is kept are whole sections of it, each with every section
-- that it depends on, and the heap has what they stored.
pub record KeepsTold (h : Home) (l : Layout) (p : Past) (now : Moment) (image : List ℕ) : Type 0 where
  pub history : List (ℕ × Event)
  pub legal : IsLegalHistory (plan h) history
  -- Each lane's part of the history is just what its session had been told at the moment of the crash.
  pub told : (seat : Sitting) → IsSeated now seat → lane (view seat).lane.0 history ≡ (view seat).events
  -- What a crash keeps are whole, closed sections of that history.
  pub kept : KeepsOfHistory l (plan h) p history image

-- Recovery also keeps at least so many sections of this lane.
pub record KeepsRead (h : Home) (l : Layout) (p : Past) (now : Moment) (image : List ℕ) (of_lane sections : ℕ) : Type 0 where
  pub told : KeepsTold h l p now image
  -- What is kept has at least so many sections of the lane.
  pub least : sections ≤ counts_of told.kept.accepted.study.report.kept of_lane

-- What is kept of each legal history that goes on from the one that the helper has seen, is kept of the one of the crash.
abbrev pub KeepsToldLaw : Type 0
KeepsToldLaw = (h : Home) (l : Layout) (p : Past) (now : Moment) (helper : Helping) (image : List ℕ)
    → IsMoment h now helper → KeepsRunning l (plan h) p helper.view.history image → KeepsTold h l p now image

-- The one seat of the helper has given out as many lanes as the other, and published no more sections of any of them as acknowledged.
pub record HasPublishedNoMore (helper than : Helping) : Type 0 where
  pub next : helper.next ≡ than.next
  pub counts : (l : ℕ) → count_published helper l ≤ count_published than l

-- This holds for each seat that the helper had before this one: it has noted what it published, and no number falls.
abbrev pub RisesLaw : Type 0
RisesLaw = (h : Home) (now : Moment) (before helper : Helping)
    → IsMoment h now helper → before.next ≡ helper.next → GoesOn helper.view.notes before.view.notes → HasPublishedNoMore before helper

-- The count of sections that the seat last read, the helper had published; so many are acknowledged, and some whole, closed cut of what is
-- applied has so many of the lane.
pub record HasRead (p : Past) (helper : Helping) (seat : Sitting) : Type 0 where
  pub stable : (view seat).stable ≤ p.cut (view seat).lane.0
  pub published : WasCount helper (view seat).lane.0 (view seat).stable
  pub in_cut : IsCutCount (applied p) (view seat).lane.0 (view seat).stable

-- The session has read this count of its lane, and this is its seat at this moment. By then the helper had published no more than in its seat `than`.
pub record ReadsBefore (h : Home) (than : Helping) (t : Session) (sections : ℕ) : Type 0 where
  pub moment : Moment
  pub helper : Helping
  pub is : IsMoment h moment helper
  pub no_more : HasPublishedNoMore helper than
  pub was : Session
  pub reads : ReadsStable was t sections
  pub seated : IsSeated moment (seat_of t)

module _ {D : Type 0} (device : D → Device) where
  -- Each session has read so while the helper rests.
  abbrev pub RestLaw : Type 0
  RestLaw = (h : Home) (p : Past) (x : Parts D) (now : Moment) (seat : Sitting)
      → IsHelping device h x → IsServing device x (plan h) p → IsMoment h now x.seat → IsSeated now seat → HasRead p x.seat seat

  -- The session has read this count by a moment by which the helper had published no more than when it served this past.
  pub record HasReadOf (h : Home) (p : Past) (x : Parts D) (t : Session) (sections : ℕ) : Type 0 where
    pub helping : IsHelping device h x
    pub serves : IsServing device x (plan h) p
    pub reads : ReadsBefore h x.seat t sections

  -- So many sections are acknowledged in that past.
  abbrev pub ReadLaw : Type 0
  ReadLaw = (h : Home) (p : Past) (x : Parts D) (t : Session) (sections : ℕ)
      → HasReadOf h p x t sections → sections ≤ p.cut (view_of t).lane.0

  -- Store calls have gone on from that past, and the helper had seen all that they applied when a crash came. Whatever that left, of any moment
  -- since, keeps what the session had read.
  abbrev pub KeepsReadLaw : Type 0
  KeepsReadLaw = (h : Home) (p : Past) (x y : Parts D) (t : Session) (sections : ℕ) (now : Moment) (helper : Helping) (image : List ℕ)
      → HasReadOf h p x t sections → y.store.known.layout ≡ x.store.known.layout
      → RunsOn device h p (device x.store.disk) y helper.view.history → IsMoment h now helper
      → MayBeLeft (device x.store.disk) (device y.store.disk) image → KeepsRead h y.store.known.layout p now image (view_of t).lane.0 sections

  -- The same holds after a crash in a round, once the helper has heard its rings, or after the round.
  abbrev pub KeepsReadInRoundLaw : Type 0
  KeepsReadInRoundLaw = (h : Home) (p : Past) (x y : Parts D) (answer : Result ℕ StoreError) (t : Session) (sections : ℕ) (now : Moment)
      (helper : Helping) (image : List ℕ) → HasReadOf h p x t sections → HasMadeRound device h p x y answer
      → IsMoment h now helper → helper.view.history ≡ y.seat.view.history
      → MayBeLeft (device x.store.disk) (device y.store.disk) image → KeepsRead h y.store.known.layout p now image (view_of t).lane.0 sections

  -- The same holds after a crash that comes while the device is as it was when the helper served that past.
  abbrev pub KeepsReadAtRestLaw : Type 0
  KeepsReadAtRestLaw = (h : Home) (p : Past) (x : Parts D) (t : Session) (sections : ℕ) (now : Moment) (helper : Helping) (image : List ℕ)
      → HasReadOf h p x t sections → Rests device h p x helper.view.history → IsMoment h now helper
      → MayBeLeft (device x.store.disk) (device x.store.disk) image → KeepsRead h x.store.known.layout p now image (view_of t).lane.0 sections
