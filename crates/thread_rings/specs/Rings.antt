-- What contracts see of a ring's two ends: the records that went through them, without the greeting, and whose they are.
use Rattle.std.specs.Prelude.{ℕ, ◌≡◌, ◌+◌, ◌≤◌, Bool, true, false, List, [], ◌∷◌, ◌++◌, Option, Some, MatchOption, length}
use Rattle.std.specs.Global.{Global}
use mathlib.Core.List.{IsPrefix}
use Rattle.rtrb.specs.Ring as items
use Rattle.rtrb.specs.Ring.{SameProducer, SameConsumer, known_free, producer_capacity}
use Rattle.rtrb.specs.declared.producer.Producer.{Producer}
use Rattle.rtrb.specs.declared.consumer.Consumer.{Consumer}
use Rattle.heap_model.specs.declared.limits.TheConstants.{RING_RECORDS}
use Rattle.heap_model.specs.declared.record.Record.{Record}
use Rattle.monitor.specs.Seats.{Sitting}
use Rattle.thread_rings.specs.declared.ring_records.TheConstants.{MOST_RING_RECORDS}
use Rattle.thread_rings.specs.declared.sent.Sent.{Sent}
use Rattle.thread_rings.specs.declared.sent.Following.{Following}
use Rattle.thread_rings.specs.Following.{Whose, greeted, logged_in, records_of, to_release, whose}

-- the lane's end
abbrev pub Sending : Type 0
Sending = Producer Sent Global Following

-- the helper's end, and the witness of the last release that it took, until that is taken itself
pub record Receiving : Type 0 where
  pub ring : Consumer Sent Global Following
  pub told : List Sitting

-- the records after the greeting
abbrev pub behind : List Sent → List Record
behind [] = []
behind (g ∷ more) = records_of more

-- every record sent so far, the oldest first
abbrev pub sent : Sending → List Record
sent p = behind (items.sent p)

-- every record taken so far, the oldest first
abbrev pub received : Receiving → List Record
received c = behind (items.received c.ring)

-- the records that the helper has seen in the ring: it takes these next
abbrev pub known_records : Receiving → List Record
known_records c = records_of (items.known_items c.ring)

-- how many records there is room for
abbrev pub ring_capacity : Receiving → ℕ
ring_capacity c = items.consumer_capacity c.ring

-- whose the ring is, as each end knows it
abbrev pub whose_ring : Sending → Option Whose
whose_ring p = greeted (items.sent p)

abbrev pub whose_received : Receiving → Option Whose
whose_received c = greeted (items.received c.ring)

-- they are the two ends of one ring
abbrev pub IsPair : Sending → Receiving → Type 0
IsPair p c = items.IsPair p c.ring

-- the same end of one ring
abbrev pub SameReceiver : Receiving → Receiving → Type 0
SameReceiver a b = SameConsumer a.ring b.ring

-- nothing was sent, and no slot that was known to be free is lost
abbrev pub SenderLooked : Sending → Sending → Type 0
SenderLooked a b = SameProducer a b × (sent b ≡ sent a) × (known_free a ≤ known_free b) × (whose_ring b ≡ whose_ring a)

-- nothing was taken, and more records may be known
abbrev pub ReceiverLooked : Receiving → Receiving → Type 0
ReceiverLooked a b = SameReceiver a b × (received b ≡ received a) × IsPrefix (known_records a) (known_records b) × (whose_received b ≡ whose_received a) × (b.told ≡ a.told)

-- the record is sent: it comes after all that was sent before, and takes a slot that was known to be free
abbrev pub Sends : Record → (old new : Sending) → Type 0
Sends entry p q = (sent q ≡ sent p ++ entry ∷ []) × (known_free p ≡ known_free q + 1)

-- the record is taken: it was the first of those that were known to be in the ring
abbrev pub Takes : Record → (old new : Receiving) → Type 0
Takes entry c d = (received d ≡ received c ++ entry ∷ []) × (known_records c ≡ entry ∷ known_records d)

-- the next record that is known to be in the ring is taken, or none is known
abbrev pub TakesNext : (old new : Receiving) → Option Record → Type 0
TakesNext c d next = MatchOption next ((known_records c ≡ []) × (d ≡ c)) (λ r. Takes r c d)

-- where the end keeps no witness now, it kept none before, and no release was taken
abbrev pub KeepsWitness : (old new : Receiving) → Type 0
KeepsWitness c d = d.told ≡ [] → (c.told ≡ []) × (to_release (received d) ≡ to_release (received c))

-- the same records were taken, and the same are known to be in the ring
abbrev pub SameRecords : (old new : Receiving) → Type 0
SameRecords c d = (received d ≡ received c) × (known_records d ≡ known_records c)

-- both ends know that the ring is this lane's
abbrev pub AreOf : Whose → Sending → Receiving → Type 0
AreOf w p c = (whose_ring p ≡ Some w) × (whose_received c ≡ Some w)

-- the lane's end of a new ring of this room: nothing was sent, and all slots are known to be free
abbrev pub IsNewSender : (capacity : ℕ) → Sending → Type 0
IsNewSender capacity p = (sent p ≡ []) × (known_free p ≡ capacity) × (producer_capacity p ≡ capacity)

-- the helper's end of a new ring of this room: nothing was taken
abbrev pub IsNewReceiver : (capacity : ℕ) → Receiving → Type 0
IsNewReceiver capacity c = (received c ≡ []) × (c.told ≡ []) × (ring_capacity c ≡ capacity)

-- The greeting was sent, and its slot is free again: no record finds less room for it.
pub record IsBegun (p : Sending) : Type 0 where
  pub whose : (w : Whose) × (whose_ring p ≡ Some w)
  pub least : producer_capacity p ≤ known_free p + length (sent p)

-- the witness is of this lane, and tells all that was taken up to the last release
abbrev pub TellsLast : Option Whose → List Record → Sitting → Type 0
TellsLast of log w = (of ≡ Some (whose w)) × (logged_in w.view ≡ to_release log)

-- the witness is the one that the end keeps, and tells all that was taken up to the last release
abbrev pub GivesWitness : Sitting → Receiving → Type 0
GivesWitness w c = (c.told ≡ w ∷ []) × TellsLast (whose_received c) (received c) w

-- whether there is a witness, and what it tells
abbrev pub IsTold : Bool → Option Whose → List Record → List Sitting → Type 0
IsTold false of log told = told ≡ []
IsTold true of log told = (w : Sitting) × (told ≡ w ∷ []) × TellsLast of log w

-- The greeting was taken; and the witness tells what was.
pub record IsGreeted (c : Receiving) (is_told : Bool) : Type 0 where
  pub whose : (w : Whose) × (whose_received c ≡ Some w)
  pub told : IsTold is_told (whose_received c) (received c) c.told

-- A ring may have room for so many records.
pub record IsRingSize (records : ℕ) : Type 0 where
  pub least : RING_RECORDS ≤ records
  pub most : records ≤ MOST_RING_RECORDS
