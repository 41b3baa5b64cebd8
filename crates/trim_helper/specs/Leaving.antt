-- What is known once nobody goes on, though the heap isn't closed (this project's own).
use Rattle.std.specs.Prelude.{ℕ, ◌<◌, ◌≤◌, List, [], ◌∷◌}
use Rattle.heap_model.specs.declared.event.Event.{Event}
use Rattle.heap_model.specs.Past.{Past}
use Rattle.monitor.specs.Seats.{Helping, Home, IsSeatOf}
use Rattle.monitor.specs.Views.{GoesOn}
use Rattle.monitor.specs.Words.{setting_of}
use Rattle.monitor.specs.declared.view.Plan.{Plan}
use Rattle.trim_helper.specs.Serving.{Among, IsOneHistory, Part}
use Rattle.trim_helper.specs.declared.ended.Ended.{Ended}

-- each of these sessions had a seat of this heap
abbrev pub HaveSeats : Home → List Ended → Type 0
HaveSeats h [] = Unit {0}
HaveSeats h (e ∷ es) = IsSeatOf h e.seat × HaveSeats h es

-- One legal history has these sessions' events as their lanes' parts. It goes on from the one that the helper had seen.
pub record HasLeft (k : Plan) (parts : List Part) (seat : Helping) : Type 0 where
  pub history : List (ℕ × Event)
  pub one : IsOneHistory (setting_of k) k.lanes parts history
  pub later : GoesOn history seat.view.history

-- No session of these lanes has read as stable more sections than this past has acknowledged.
abbrev pub ReadNoMore : List Part → (lanes : ℕ) → Past → Type 0
ReadNoMore parts lanes p = (x : Part) → Among parts x → x.lane < lanes → x.count ≤ p.cut x.lane
