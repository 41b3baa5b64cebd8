-- How a session comes back to the heap that handed it out (this project's own).
use Rattle.std.specs.Prelude.{◌≡◌, List, ◌∷◌}
use Rattle.monitor.specs.Seats.{Sitting}
use Rattle.session.specs.declared.session.Session.{Session}
use Rattle.session.specs.declared.waiting.Waiting.{Waiting}
use Rattle.thread_steps.specs.Views.{IsReady}
use Rattle.session.specs.Sessions.{SameRing, SameRingWaiting, seat_of, seat_waiting}

-- both seats are of one heap, and the second is between two steps
abbrev pub IsBeside : Sitting → Sitting → Type 0
IsBeside s t = (t.table ≡ s.table) × (t.view.plan ≡ s.view.plan) × IsReady t.view

-- it is the same session after some calls: of the same heap, and with the same lane, its capacity and its ring
abbrev pub IsLater : Session → Session → Type 0
IsLater s x = IsBeside (seat_of s) (seat_of x) × SameRing s x

-- it is the same session, while it waits
abbrev pub IsLaterWaiting : Session → Waiting → Type 0
IsLaterWaiting s w = IsBeside (seat_of s) (seat_waiting w) × SameRingWaiting s w

-- a session may follow these only as the first of them after some calls
abbrev pub MayReturn : List Session → Session → Type 0
MayReturn before x = (s : Session) (more : List Session) → before ≡ s ∷ more → IsLater s x

-- and one that waits may, once it has resumed
abbrev pub MayReturnWaiting : List Session → Waiting → Type 0
MayReturnWaiting before w = (s : Session) (more : List Session) → before ≡ s ∷ more → IsLaterWaiting s w
