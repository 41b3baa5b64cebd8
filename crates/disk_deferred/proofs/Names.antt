-- The two ends of a ring have one name, and no others have it.
use Rattle.std.proofs.Common.{◌≡◌, ◌<◌, ℕ, List, [], ◌∷◌, ◌++◌, length, get_or, refl, sym, ◌∙◌, ap, arith}
use denote.RawPtr.{Ptr, block_ptr, null_ptr, block_of, count_of}
use Rattle.std.specs.Global.{Global}
use Rattle.rtrb.specs.Ends.{SameRing}
use Rattle.rtrb.specs.Ring.{IsPair, SameConsumer, SameProducer}
use Rattle.rtrb.specs.declared.consumer.Consumer.{Consumer}
use Rattle.rtrb.specs.declared.end.End.{End}
use Rattle.rtrb.specs.declared.producer.Producer.{Producer}
use Rattle.block_disk.specs.Device.{synced}
use Rattle.block_disk.specs.Memory.{Synced, device_of, stopped}
use Rattle.disk_deferred.specs.Deferred.{Deferred, deferred_device, first_in}
use Rattle.disk_deferred.specs.declared.call.Handed.{Handed}
use Rattle.disk_deferred.specs.declared.call.Handed.TheVariants.{Begun, Calls}
use Rattle.disk_deferred.specs.Host.{Host, IsHostOf, host_name}
use Rattle.disk_deferred.specs.Names.{kind_of, name_of}

-- places of one kind, in one block and as far into it
same_place : (p q : Ptr) → kind_of q ≡ kind_of p → block_of q ≡ block_of p → count_of q ≡ count_of p → q ≡ p
same_place (block_ptr b o) (block_ptr c n) kind block count = λ i. block_ptr (block i) (count i)
same_place (block_ptr b o) null_ptr kind block count = absurd (let no : 0 ≡ 1 = kind in omega (arith, no))
same_place null_ptr (block_ptr c n) kind block count = absurd (let no : 1 ≡ 0 = kind in omega (arith, no))
same_place null_ptr null_ptr kind block count = refl

pub ring_of_name : {T P : Type 0} (a b : End T Global P) → name_of b ≡ name_of a → SameRing a b
ring_of_name a b is =
    let at : (k : ℕ) → get_or (name_of b) k 0 ≡ get_or (name_of a) k 0 = λ k. ap (λ (xs : List ℕ). get_or xs k 0) is in (
      same_place a.words b.words (at 0) (at 1) (at 2),
      same_place a.slots b.slots (at 3) (at 4) (at 5),
      λ i. (at 6 i, (at 7 i, at 8 i)),
      refl,
    )

pub name_of_ring : {T A P : Type 0} (a b : End T A P) → SameRing a b → name_of b ≡ name_of a
name_of_ring a b same i =
    kind_of (same.0 i) ∷ block_of (same.0 i) ∷ count_of (same.0 i) ∷ kind_of (same.1 i) ∷ block_of (same.1 i) ∷ count_of (same.1 i) ∷ (same.2 i).0 ∷ (same.2 i).1.0 ∷ (same.2 i).1.1 ∷ []

-- another value of the same end
pub producer_name : {T A P : Type 0} (a b : Producer T A P) → SameProducer a b → name_of b.end ≡ name_of a.end
producer_name a b same = name_of_ring a.end b.end same.0

pub consumer_name : {T A P : Type 0} (a b : Consumer T A P) → SameConsumer a b → name_of b.end ≡ name_of a.end
consumer_name a b same = name_of_ring a.end b.end same.0

-- a disk and its host
pub pair_of : (d : Deferred) (h : Host) → IsHostOf d h → IsPair d.ring h.ring
pair_of d h is = ring_of_name d.ring.end h.ring.end (sym is)

pub host_later : (d e : Deferred) (h k : Host) → name_of e.ring.end ≡ name_of d.ring.end → host_name k ≡ host_name h → IsHostOf d h → IsHostOf e k
host_later d e h k disk host is = disk ∙ is ∙ sym host

-- what one stop more makes of the device, and none
pub device_synced : (x y : Deferred) → y.memory ≡ stopped Synced x.memory → name_of y.ring.end ≡ name_of x.ring.end → deferred_device y ≡ synced (deferred_device x)
device_synced x y is name i = record { name = name i; now = (device_of (is i)).now; past = (device_of (is i)).past; failures = (device_of (is i)).failures }

pub device_same : (x y : Deferred) → y.memory ≡ x.memory → name_of y.ring.end ≡ name_of x.ring.end → deferred_device y ≡ deferred_device x
device_same x y is name i = record { name = name i; now = (device_of (is i)).now; past = (device_of (is i)).past; failures = (device_of (is i)).failures }

-- what is handed over later doesn't change what it began with
pub first_more : (handed : List Handed) (batch : Handed) → 0 < length handed → first_in (handed ++ batch ∷ []) ≡ first_in handed
first_more [] batch some = absurd (omega (arith, some))
first_more (Begun found ∷ later) batch some = refl
first_more (Calls calls ∷ later) batch some = refl
