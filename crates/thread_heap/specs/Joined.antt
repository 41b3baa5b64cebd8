-- What joins sessions and their helper: the words, the capacity of the lanes, and the rings (this project's own).
use Rattle.std.specs.Prelude.{ℕ, suc, ◌≡◌, List, [], ◌∷◌, All, length}
use Rattle.block_disk.specs.Device.{Device}
use Rattle.thread_rings.specs.Rings.{ring_capacity}
use Rattle.monitor.specs.Seats.{Home}
use Rattle.thread_steps.specs.Views.{plan}
use Rattle.session.specs.declared.session.Session.{Session}
use Rattle.session.specs.Sessions.{IsSessionOf, view_of, ring_of, capacity_of}
use Rattle.heap_model.specs.Past.{Past}
pub use Rattle.trim_helper.specs.Calls.{HasGoneOn}
use Rattle.trim_helper.specs.Endings.{IsEnded, Rings}
use Rattle.trim_helper.specs.Helping.{IsHelper, taken_in}
use Rattle.trim_helper.specs.Moves.{IsEndOf}
use Rattle.trim_helper.specs.Parts.{Parts, IsServing}
use Rattle.trim_helper.specs.declared.ended.Ended.{Ended}

-- each of the rings has room for so many records
abbrev pub HaveRoom : (records : ℕ) → Rings → Type 0
HaveRoom n rings = All (λ c. ring_capacity c ≡ n) rings

-- The session is of these words, its lane holds so many records, and the other end of its ring is the lane's.
pub record IsJoined (h : Home) (capacity : ℕ) (rings : Rings) (x : Session) : Type 0 where
  pub of : IsSessionOf h x
  pub holds : capacity_of x ≡ capacity
  pub ring : IsEndOf (ring_of x) rings (view_of x).lane.0

-- the session is joined to this helper
abbrev pub IsJoinedWith : {D : Type 0} → Home → Parts D → Session → Type 0
IsJoinedWith h x = IsJoined h x.store.known.layout.capacity x.rings

-- what this helper has been joined to, that one is
abbrev pub StayJoined : {D : Type 0} → Home → (old new : Parts D) → Type 0
StayJoined h old new = (x : Session) → IsJoinedWith h old x → IsJoinedWith h new x

-- whatever the session was joined to, so it is now
abbrev pub StaysJoined : Home → (old new : Session) → Type 0
StaysJoined h old new = (capacity : ℕ) (rings : Rings) → IsJoined h capacity rings old → IsJoined h capacity rings new

-- the session's end is what the helper needs of it, where the two were joined
abbrev pub LeavesEnd : Session → Ended → Type 0
LeavesEnd x ended = (h : Home) (capacity : ℕ) (rings : Rings) → IsJoined h capacity rings x → IsEnded h capacity rings ended

-- they are of the lanes from this one on, in order, and were told nothing
abbrev pub AreNew : (first : ℕ) → List Session → Type 0
AreNew l [] = Unit {0}
AreNew l (x ∷ xs) = ((view_of x).lane.0 ≡ l) × ((view_of x).events ≡ []) × AreNew (suc l) xs

module _ {D : Type 0} (device : D → Device) where
  -- The helper is of these words and its store's threads have their lanes, it took in nobody, and its store has a past under their setting.
  pub record IsHelping (h : Home) (x : Parts D) : Type 0 where
    pub seat : IsHelper h x.seat
    pub lanes : h.plan.lanes ≡ x.store.known.threads
    pub rings : length x.rings ≡ h.plan.lanes
    pub nobody : taken_in x.seat ≡ []
    pub past : Past
    pub serving : IsServing device x (plan h) past
