-- What stands once both ends have met.
use Rattle.std.specs.Prelude.{ℕ, ◌≡◌, ◌<◌, ◌≤◌, ◌++◌, List, All, Result, Ok, Err}
use Rattle.thread_rings.specs.Rings.{sent}
use Rattle.heap_model.specs.declared.event.Event.{Event}
use Rattle.heap_model.specs.Setting.{Setting}
use Rattle.heap_model.specs.History.{state_after, log_of}
use Rattle.heap_model.specs.Sections.{actions}
use Rattle.heap_model.specs.Cuts.{all_ended}
use Rattle.block_disk.specs.Device.{Device}
use Rattle.block_disk.specs.Images.{Always}
use Rattle.heap_model.specs.declared.record.Record.{Record}
use Rattle.heap_model.specs.Log.{IsLegal, lane}
use Rattle.store_rounds.specs.Runs.{HasRun}
use Rattle.store_rounds.specs.Stops.{ShowsCut}
use Rattle.heap_model.specs.Past.{Past, applied}
use Rattle.trim_helper.specs.Settled.{closed_value}
use Rattle.image_parts.specs.declared.layout.Layout.{Layout}
use Rattle.undo_log.specs.StandsFor.{StandsFor}
use Rattle.store_image.specs.KeptHeap.{StandsForCut, values_below}
use Rattle.monitor.specs.Rule.{Spelled}
use Rattle.monitor.specs.Seats.{Final, Helping, final_value}
use Rattle.monitor.specs.Views.{GoesOn}
use Rattle.monitor.specs.Words.{Words, fields, setting_of, spread}
use Rattle.monitor.specs.declared.view.Plan.{Plan}
use Rattle.trim_helper.specs.Counts.{IsCutCount, WasCount}
use Rattle.trim_helper.specs.Serving.{Among, Part, IsOneHistory}
use Rattle.trim_helper.specs.declared.ended.Ended.{Ended}
use Rattle.trim_helper.specs.Endings.{HoldNone, IsComplete}
use Rattle.trim_helper.specs.Rings.{stream}
use Rattle.trim_helper.specs.Taken.{trimmed_of}

-- One legal history has these threads' views as its parts, and the store has applied its logs since, lane by
-- lane. Whatever a crash leaves now shows the acknowledged cut of that past, so that recovery accepts it. It stands for the history's heap
-- with all its sections: after recovery the persistent fields have these values, and the transient ones begin anew. None of the threads was told of more sections than were acknowledged before, nor of a
-- place past what was trimmed. The history goes on from the one that the helper's seat had seen; and each count of sections that a thread
-- last read, the helper had published, and it is that of a whole, closed cut of the history's log.
pub record IsClosedDown (k : Plan) (l : Layout) (parts : List Part) (p : Past) (seat : Helping) (since d : Device) : Type 0 where
  pub history : List (ℕ × Event)
  -- After a closing one legal history has each session's events as its lane's part.
  pub one : IsOneHistory (setting_of k) k.lanes parts history
  -- The words as the threads left them: lock words, fat words, masks and fields.
  pub words : Words
  -- They spell the state after that history.
  pub spelled : Spelled k words (state_after (setting_of k) history)
  -- The history of a closing goes on from the one that the helper had seen.
  pub later : GoesOn history seat.view.history
  pub now : Past
  -- A closing is a run of the store: whatever a crash left meanwhile shows a whole closed cut of a beginning of what was applied, with all
  -- that was acknowledged before.
  pub ran : HasRun l k.lanes (setting_of k) p since now d
  -- After a closing the store has applied that history's logs, lane by lane.
  pub logs : (i : ℕ) → lane i (applied now) ≡ lane i (log_of (setting_of k) history)
  -- Whatever a crash leaves after a closing shows the acknowledged cut, so that recovery accepts it.
  pub left : Always d (ShowsCut l k.lanes (setting_of k) now.logged now.cut)
  -- Whatever a crash leaves after a closing stands for the history's heap with all sections.
  pub stands : Always d (StandsForCut l (setting_of k) (log_of (setting_of k) history) (all_ended (actions (log_of (setting_of k) history))))
  -- After a closing the heap has the last values of persistent fields, and the first values of transient fields.
  pub values : Always d (λ image. StandsFor l image (values_below (closed_value (setting_of k) (state_after (setting_of k) history).value) l.fields))
  -- No session was told more sections than were acknowledged when the closing began.
  pub told : (x : Part) → Among parts x → x.lane < k.lanes → x.count ≤ p.cut x.lane
  -- No session was told a place past what was trimmed when the closing began.
  pub places : (x : Part) → Among parts x → x.lane < k.lanes → x.place ≤ trimmed_of p x.lane
  -- Each count of sections that a session last read, the helper had published.
  pub published : (x : Part) → Among parts x → x.lane < k.lanes → WasCount seat x.lane x.count
  -- Each count of sections that a session last read is that of a whole, closed cut of the history's log.
  pub counts : (x : Part) → Among parts x → x.lane < k.lanes → IsCutCount (log_of (setting_of k) history) x.lane x.count

-- So it is, and these are the words.
pub record HasSpelled (k : Plan) (l : Layout) (parts : List Part) (p : Past) (seat : Helping) (since d : Device) (words : Final) : Type 0 where
  pub closed : IsClosedDown k l parts p seat since d
  -- The words at the end are those that the closing tells of.
  pub are : closed.words ≡ spread k words.words
  -- The last value of each field is its value after that history.
  pub values : (f : ℕ) → f < fields k → final_value words f ≡ (state_after (setting_of k) closed.history).value f

-- the session sent the records that the log has of its lane, in their order, and maybe more
abbrev pub WasSent : List (ℕ × Record) → Ended → Type 0
WasSent log e = (later : List Record) × (sent e.producer ≡ stream e.lane.0 log ++ later)

-- each of these sessions did
abbrev pub AreSent : List Ended → List (ℕ × Record) → Type 0
AreSent ended log = All (WasSent log) ended

-- The store, with so many lanes of threads, has run since the one moment, and a fault may have cut a call off. Whatever a crash left since
-- then shows a whole closed cut of a beginning of what was applied, with all that was acknowledged, so that recovery takes it. Once the
-- sessions were let meet, all that is applied then is what they had sent.
pub record Stood (l : Layout) (t : ℕ) (s : Setting) (p : Past) (ended : List Ended) (since now : Device) : Type 0 where
  pub newer : List (ℕ × Record)
  pub legal : IsLegal s (newer ++ applied p)
  -- Once the sessions are complete and hold nothing, what is applied of each lane is the beginning of what its session
  -- had sent.
  pub sent : HoldNone ended → IsComplete t ended → AreSent ended (newer ++ applied p)
  pub then : Past
  pub same : applied then ≡ newer ++ applied p
  pub ran : HasRun l t s p since then now

-- the device that is given back, whatever is answered
abbrev pub disk_of : {D E : Type 0} → Result D (D × E) → D
disk_of (Ok disk) = disk
disk_of (Err back) = back.0
