-- A session stays joined to its helper, and a helper goes on.
use Rattle.std.specs.Prelude.{ℕ, ◌≡◌, true, Result}
use Rattle.block_disk.specs.Device.{Device}
use Rattle.monitor.specs.Seats.{Home}
use Rattle.session.specs.declared.session.Session.{Session}
use Rattle.session.specs.declared.waiting.Waiting.{Waiting}
use Rattle.session.specs.Sessions.{IsSessionOf, SameRing, SameRingWaiting, SameRingResumed}
use Rattle.thread_steps.specs.Views.{plan}
use Rattle.heap_model.specs.Past.{Past}
use Rattle.heap_model.specs.declared.store_error.StoreError.{StoreError}
use Rattle.trim_helper.specs.Calls.{Rounds}
use Rattle.trim_helper.specs.declared.ended.Ended.{Ended}
use Rattle.trim_helper.specs.Endings.{IsEnded, Rings}
use Rattle.trim_helper.specs.Moves.{SameRings}
use Rattle.trim_helper.specs.Parts.{HasDrained, Parts}
use Rattle.thread_heap.specs.Joined.{IsHelping, IsJoined, HasGoneOn}

-- over a call of the session, which keeps its words, and its ring and lane
abbrev pub CallLaw : Type 0
CallLaw = (h : Home) (c : ℕ) (rings : Rings) (x y : Session) → IsJoined h c rings x → IsSessionOf h y → SameRing x y → IsJoined h c rings y

-- a wait that has come back kept the ring
abbrev pub WaitLaw : Type 0
WaitLaw = (x : Session) (w : Waiting) (y : Session) → SameRingWaiting x w → SameRingResumed w y → SameRing x y

-- over a call of the helper, which keeps its rings
abbrev pub RingsLaw : Type 0
RingsLaw = (h : Home) (c : ℕ) (rings later : Rings) (x : Session) → IsJoined h c rings x → SameRings rings later → IsJoined h c later x

-- and so does one that has ended
abbrev pub EndedLaw : Type 0
EndedLaw = (h : Home) (c : ℕ) (rings later : Rings) (e : Ended) → IsEnded h c rings e → SameRings rings later → IsEnded h c later e

module _ {D : Type 0} (device : D → Device) where
  -- a helper goes on over a round, whatever it answers
  abbrev pub RoundLaw : Type 0
  RoundLaw = (h : Home) (p : Past) (x y : Parts D) (answer : Result ℕ StoreError) → IsHelping device h x → HasGoneOn h x y → Rounds device (plan h) p x y answer → IsHelping device h y

  -- over a drain, which keeps its seat, and after which nothing is settled that wasn't, nor where something was applied
  abbrev pub DrainLaw : Type 0
  DrainLaw = (h : Home) (x y : Parts D) (n : ℕ) → IsHelping device h x → y.seat ≡ x.seat → HasDrained device x y n → (y.is_settled ≡ true → (x.is_settled ≡ true) × (n ≡ 0)) → HasGoneOn h x y × IsHelping device h y
