-- What stands once a running heap is closed.
use Rattle.std.specs.Prelude.{ℕ, ◌≡◌, ◌≤◌, List, [], All, Result, IfOk}
use Rattle.heap_model.specs.declared.event.Event.{Event}
use Rattle.heap_model.specs.declared.record.Record.{Record}
use Rattle.heap_model.specs.Cuts.{all_ended}
use Rattle.heap_model.specs.History.{IsLegalHistory, log_of, state_after}
use Rattle.heap_model.specs.Log.{lane}
use Rattle.heap_model.specs.Sections.{actions}
use Rattle.block_disk.specs.Device.{Device}
use Rattle.block_disk.specs.Images.{Always}
use Rattle.image_parts.specs.declared.layout.Layout.{Layout}
use Rattle.undo_log.specs.StandsFor.{StandsFor}
use Rattle.store_image.specs.KeptHeap.{StandsForCut, values_below}
use Rattle.heap_model.specs.Past.{Past, applied}
use Rattle.store_rounds.specs.Runs.{HasRun}
use Rattle.store_rounds.specs.Stops.{ShowsCut}
use Rattle.monitor.specs.Rule.{Spelled}
use Rattle.monitor.specs.Seats.{Helping, Home}
use Rattle.monitor.specs.Views.{GoesOn}
use Rattle.monitor.specs.Words.{Words}
use Rattle.thread_steps.specs.Views.{plan, view}
use Rattle.trim_helper.specs.Calls.{Closes}
use Rattle.trim_helper.specs.Counts.{IsCutCount, WasCount}
use Rattle.trim_helper.specs.Parts.{IsServing, Parts}
use Rattle.trim_helper.specs.Settled.{closed_value}
use Rattle.trim_helper.specs.Taken.{trimmed_of}
use Rattle.trim_helper.specs.declared.close_error.CloseError.{CloseError}
use Rattle.trim_helper.specs.declared.ended.Ended.{Ended}

-- One legal history has what each of these sessions was told as its lane's part, and no other lane has any. The store has
-- applied its logs, lane by lane. Whatever a crash leaves shows the acknowledged cut of that past: recovery takes it. It stands for the heap
-- of that history with all its sections: after it the persistent fields have these values, and the transient ones begin anew.
pub record IsClosed (h : Home) (l : Layout) (ended : List Ended) (d : Device) : Type 0 where
  pub history : List (ℕ × Event)
  -- After a closing the history of the sessions is legal.
  pub legal : IsLegalHistory (plan h) history
  -- After a closing each session's told events are its lane's part of one history.
  pub told : All (λ e. lane (view e.seat).lane.0 history ≡ (view e.seat).events) ended
  pub no_other : (k : ℕ) → h.plan.lanes ≤ k → lane k history ≡ []
  -- The words as the threads left them: lock words, fat words, masks and fields.
  pub words : Words
  -- They spell the state after that history.
  pub spelled : Spelled h.plan words (state_after (plan h) history)
  pub now : Past
  pub logs : (k : ℕ) → lane k (applied now) ≡ lane k (log_of (plan h) history)
  -- Whatever a crash leaves after a closing shows the acknowledged cut, so that recovery accepts it.
  pub left : Always d (ShowsCut l h.plan.lanes (plan h) now.logged now.cut)
  -- Whatever a crash leaves after a closing stands for the history's heap with all sections.
  pub stands : Always d (StandsForCut l (plan h) (log_of (plan h) history) (all_ended (actions (log_of (plan h) history))))
  -- After a closing the heap has the last values of persistent fields, and the first values of transient fields.
  pub values : Always d (λ image. StandsFor l image (values_below (closed_value (plan h) (state_after (plan h) history).value) l.fields))

-- The session was told of no more sections of its lane than are acknowledged, and of no place past what is trimmed. The count of sections
-- that it last read, the helper had published, and some whole, closed cut of the log has so many of its lane.
pub record WasTold (log : List (ℕ × Record)) (seat : Helping) (acknowledged trimmed : ℕ → ℕ) (e : Ended) : Type 0 where
  -- No session was told more sections than were acknowledged when the closing began.
  pub stable : (view e.seat).stable ≤ acknowledged (view e.seat).lane.0
  -- No session was told a place past what was trimmed when the closing began.
  pub trimmed_to : (view e.seat).trimmed ≤ trimmed (view e.seat).lane.0
  -- The count of sections that a session last read as stable, the helper had published as acknowledged.
  pub published : WasCount seat (view e.seat).lane.0 (view e.seat).stable
  -- The count of sections that a session last read as stable is that of a whole, closed cut of the history's log.
  pub in_cut : IsCutCount log (view e.seat).lane.0 (view e.seat).stable

-- each of these sessions was
abbrev pub WereTold : (log : List (ℕ × Record)) (seat : Helping) (acknowledged trimmed : ℕ → ℕ) → List Ended → Type 0
WereTold log seat acknowledged trimmed ended = All (WasTold log seat acknowledged trimmed) ended

-- The heap was closed from this past, on the one device, which then was the other, by a helper with this seat. The history goes on from the
-- one that the helper had seen. Each session was told what was acknowledged and trimmed by then, by counts of cuts of the history's log.
-- Whatever a crash left since shows a whole, closed cut of a beginning of what was applied, with all that was acknowledged.
pub record IsClosedFrom (h : Home) (l : Layout) (ended : List Ended) (p : Past) (seat : Helping) (since d : Device) : Type 0 where
  pub closed : IsClosed h l ended d
  -- The history of a closing goes on from the one that the helper had seen.
  pub later : GoesOn closed.history seat.view.history
  -- A closing is a run of the store: whatever a crash left meanwhile shows a whole closed cut of a beginning of what was applied, with all
  -- that was acknowledged before.
  pub ran : HasRun l h.plan.lanes (plan h) p since closed.now d
  pub told : WereTold (log_of (plan h) closed.history) seat p.cut (trimmed_of p) ended

module _ {D : Type 0} (device : D → Device) where
  -- so this helper's heap was, and this is the disk that is given back
  abbrev pub ClosesFrom : Home → List Ended → Past → Parts D → (disk : D) → Type 0
  ClosesFrom h ended p x disk = IsClosedFrom h x.store.known.layout ended p x.seat (device x.store.disk) (device disk)

  -- so it was, whatever past the helper served
  abbrev pub ClosesFromEach : Home → List Ended → Parts D → Result D (D × CloseError) → Type 0
  ClosesFromEach h ended x answer = (p : Past) → IsServing device x (plan h) p → IfOk answer (ClosesFrom h ended p x)

  -- the sessions met the helper, with this outcome, whatever past it served
  abbrev pub MeetHelper : Home → List Ended → Parts D → Result D (D × CloseError) → Type 0
  MeetHelper h ended x answer = (p : Past) → IsServing device x (plan h) p → Closes device h ended p x answer
