use Rattle.std.proofs.Common.{◌≡◌, ◌++◌, [], suc, sym, ◌∙◌, ap, subst, List, ℕ, length, drop}
use Rattle.std.proofs.lemmas.List.{append-nil}
use Rattle.block_disk.specs.Device.{Image}
use Rattle.block_disk.specs.Memory.{Stop, moment_after}
use Rattle.disk_deferred.specs.Deferred.{Deferred, deferred_device, first_in, memory_of, onto, stops_in}
use Rattle.disk_deferred.specs.Host.{Host, IsInOrder, host_name, made_of}
use Rattle.disk_deferred.specs.Joined.{AllFit, at_sync, joined}
use Rattle.disk_deferred.specs.Names.{name_of}
use Rattle.disk_deferred.specs.Syncs.{LeftAt, durable_moments, syncs_in}
use Rattle.disk_deferred.specs.declared.call.DeviceCall.{DeviceCall}
use Rattle.disk_deferred.specs.declared.call.Handed.{Handed}
use Rattle.rtrb.specs.Ring.{IsPair, sent, received, known_items}
use Rattle.disk_deferred.proofs.Joins.{left_dropped}
use Rattle.disk_deferred.proofs.Moments.{durable_after_all, left_at, moments_after, syncs_at_sync, syncs_joined}
use Rattle.disk_deferred.proofs.Names.{consumer_name, device_same, pair_of, producer_name}
use Rattle.disk_deferred.proofs.Onto.{all_in, onto_append, stops_later, drop_onto}
use Rattle.disk_deferred.proofs.host.HostCalls.meet.Goals as goal

-- what the disk was told: what was made, what is left, what is in the ring, and what isn't sent
told : (told taken known : List Handed) (left unsent : List DeviceCall) → taken ++ known ≡ told → IsInOrder taken left
    → onto (stops_in told) unsent ≡ onto (onto (made_of taken left) left) (all_in known ++ unsent)
told all taken known left unsent is order =
    ap (λ (h : List Handed). onto (stops_in h) unsent) (sym is) ∙ ap (λ (s : List Stop). onto s unsent) (stops_later taken known)
    ∙ sym (onto_append (stops_in taken) (all_in known) unsent) ∙ ap (λ (s : List Stop). onto s (all_in known ++ unsent)) (sym order)

-- behind the calls that were made and those that are next
before : (made calls : List Stop) (left next more later : List DeviceCall) → left ≡ next ++ more → calls ≡ onto (onto made left) later
    → drop (length (more ++ later)) calls ≡ onto made next
before made calls left next more later is all =
    ap (drop (length (more ++ later))) (all ∙ ap (λ (cs : List DeviceCall). onto (onto made cs) later) is ∙ ap (λ (s : List Stop). onto s later) (onto_append made next more)
    ∙ sym (onto_append (onto made next) more later)) ∙ drop_onto (onto made next) (more ++ later)

-- all that was handed over was made
all_made : (first : List ℕ) (stops : List Stop) (handed taken known : List Handed) (left : List DeviceCall) → joined (at_sync stops) ≡ stops_in handed → taken ++ known ≡ handed → left ≡ [] → known ≡ []
    → durable_moments (moments_after first stops) ≡ suc (syncs_in (made_of taken left))
all_made first stops handed taken known left are fifo none empty =
    let taken_all : taken ≡ handed = sym (append-nil taken) ∙ ap (λ (k : List Handed). taken ++ k) (sym empty) ∙ fifo in
    let made : made_of taken left ≡ stops_in handed = ap (λ (l : List DeviceCall). made_of taken l) none ∙ ap (λ (h : List Handed). stops_in h) taken_all in
    durable_after_all first stops ∙ ap suc (sym (syncs_at_sync stops) ∙ sym (syncs_joined (at_sync stops)) ∙ ap syncs_in are ∙ ap syncs_in (sym made))

pub slots_beside-requires : goal.slots_beside-requires
slots_beside-requires c =
    subst (λ (d : Deferred). IsPair d.ring c.self.inside.ring) (sym c.disk.view_is) (subst (λ (h : Host). IsPair c.args.disk.now.ring h.ring) (sym c.self.view_is) (pair_of c.args.disk.now c.args.self.now c.requires))

pub returns-clause-device : goal.returns-clause-device
returns-clause-device c =
    let p = c.slots_beside.new.producer in
    let x : Deferred = record { memory = memory_of (sent c.disk.inside.ring) c.disk.inside.trace.past.stops c.disk.inside.failures; ring = c.disk.inside.ring } in
    let y : Deferred = record { memory = memory_of (sent p) c.disk.inside.trace.past.stops c.disk.inside.failures; ring = p } in
    subst (λ (d : Deferred). deferred_device y ≡ deferred_device d) c.disk.view_is
    (device_same x y (ap (λ (h : List Handed). memory_of h c.disk.inside.trace.past.stops c.disk.inside.failures) c.slots_beside.ensures.producer.1)
    (producer_name c.disk.inside.ring p c.slots_beside.ensures.producer.0))

pub returns-clause-pair : goal.returns-clause-pair
returns-clause-pair c =
    let disk : name_of c.slots_beside.new.producer.end ≡ name_of c.args.disk.now.ring.end =
    producer_name c.disk.inside.ring c.slots_beside.new.producer c.slots_beside.ensures.producer.0 ∙ ap (λ (d : Deferred). name_of d.ring.end) c.disk.view_is in
    let host : name_of c.slots_beside.new.self.end ≡ name_of c.args.self.now.ring.end =
    consumer_name c.self.inside.ring c.slots_beside.new.self c.slots_beside.ensures.looked.0 ∙ ap host_name c.self.view_is in
    disk ∙ c.requires ∙ sym host

pub returns-clause-met : goal.returns-clause-met
returns-clause-met c =
    let now = c.slots_beside.new.self in
    let handed = sent c.slots_beside.new.producer in
    let left = c.self.inside.left.items in
    let unsent = c.disk.inside.unsent.items in
    let stops = c.disk.inside.trace.past.stops in
    let first = first_in handed in
    let more_than = all_in (known_items now) ++ unsent in
    let order : IsInOrder (received now) left = subst (λ (h : List Handed). IsInOrder h left) (sym c.slots_beside.ensures.looked.1) c.self.invariant.order in
    let told_as : joined stops ≡ onto (stops_in handed) unsent = subst (λ (h : List Handed). joined stops ≡ onto (stops_in h) unsent) (sym c.slots_beside.ensures.producer.1) c.disk.invariant.told in
    let handed_are : joined (at_sync stops) ≡ stops_in handed = subst (λ (h : List Handed). joined (at_sync stops) ≡ stops_in h) (sym c.slots_beside.ensures.producer.1) c.disk.invariant.handed_are in
    let fits : AllFit (length first) stops = subst (λ (h : List Handed). AllFit (length (first_in h)) stops) (sym c.slots_beside.ensures.producer.1) c.disk.invariant.fits in
    let all = told_as ∙ told handed (received now) (known_items now) left unsent c.slots_beside.ensures.fifo order in
    let made = made_of (received now) left in
    record {
      later = more_than;
      order = all;
      earlier = λ next more image split is.
          left_dropped first stops (length (more ++ more_than)) image fits
          (subst (λ (s : List Stop). Image (moment_after first s) image) (sym (before made (joined stops) left next more more_than split all)) is);
      synced = λ next more image split is.
          let behind = before made (joined stops) left next more more_than split all in
          subst (λ (s : List Stop). LeftAt (suc (syncs_in s)) (moments_after first stops) image) behind
          (left_at first stops (length (more ++ more_than)) image fits (subst (λ (s : List Stop). Image (moment_after first s) image) (sym behind) is));
      all = λ none known. all_made first stops handed (received now) (known_items now) left handed_are c.slots_beside.ensures.fifo none known;
    }
