-- What goes through a ring, the oldest first, and what it says of the lane that sends it (this project's own).
use Rattle.std.specs.Prelude.{◌≡◌, if◌then◌else◌, Bool, true, false, List, [], ◌∷◌, ◌++◌, Option, Some, None, map, reverse}
use Rattle.atomic_table.specs.Seated.{TableId}
use Rattle.heap_model.specs.declared.record.Record.{Record}
use Rattle.heap_model.specs.declared.record.Record.TheVariants.{Acq, Rel, WaitRel, Put}
use Rattle.heap_model.specs.declared.ids.Lane.{Lane}
use Rattle.heap_model.specs.Own.{sent_of}
use Rattle.monitor.specs.declared.view.Plan.{Plan}
use Rattle.monitor.specs.declared.view.View.{View}
use Rattle.monitor.specs.Words.{setting_of}
use Rattle.monitor.specs.Views.{lane_of}
use Rattle.monitor.specs.Seats.{Sitting}
use Rattle.thread_rings.specs.declared.sent.Sent.{Sent}

-- what a lane has logged by its own events, the oldest record first
abbrev pub logged_in : View → List Record
logged_in v = sent_of (setting_of v.plan) v.events

-- A lane of one heap: the table of its words, its plan, and the lane's number.
pub record Whose : Type 0 where
  pub table : TableId
  pub plan : Plan
  pub lane : Lane

-- whose a seat, or a witness, is
abbrev pub whose : Sitting → Whose
whose s = record { table = s.table; plan = s.view.plan; lane = lane_of s.view }

-- whether the record frees a monitor
abbrev pub is_release : Record → Bool
is_release (Acq o n) = false
is_release (Rel o n) = true
is_release (WaitRel o n) = true
is_release (Put f before after) = false

-- a log without what is behind its last release, the newest record first
abbrev pub from_release : List Record → List Record
from_release [] = []
from_release (r ∷ older) = if is_release r then r ∷ older else from_release older

-- the same, the oldest first
abbrev pub to_release : List Record → List Record
to_release log = reverse (from_release (reverse log))

abbrev pub records_of : List Sent → List Record
records_of items = map (λ x. x.entry) items

-- whose lane a witness is of, if there is one
abbrev pub whose_told : List Sitting → Option Whose
whose_told [] = None
whose_told (w ∷ more) = Some (whose w)

-- whose the items are, by the greeting
abbrev pub greeted : List Sent → Option Whose
greeted [] = None
greeted (g ∷ more) = whose_told g.told

-- there is a witness, it is of this lane, and by its events the lane has logged just these
abbrev pub Tells : Option Whose → List Record → List Sitting → Type 0
Tells of log told = (w : Sitting) × (told ≡ w ∷ []) × (of ≡ Some (whose w)) × (logged_in w.view ≡ log)

-- behind the greeting, with each release goes a witness that its lane has logged just what was sent, up to it
abbrev pub Follows : List Sent → Sent → Type 0
Follows [] x = Unit {0}
Follows (g ∷ before) x = is_release x.entry ≡ true → Tells (whose_told g.told) (records_of before ++ x.entry ∷ []) x.told
