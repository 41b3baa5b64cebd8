use Rattle.std.proofs.Common.{◌≡◌, ◌∷◌, ◌++◌, ◌∙◌, [], Bool, if◌then◌else◌, List, None, ap, rules, subst, sym}
use Rattle.block_disk.specs.Device.{synced}
use Rattle.block_disk.specs.Memory.{Synced, stopped}
use Rattle.disk_deferred.specs.Deferred.{Deferred, deferred_device, first_in, memory_of}
use Rattle.disk_deferred.specs.Handing.{AreToSync}
use Rattle.disk_deferred.specs.declared.call.DeviceCall.TheVariants.{Sync}
use Rattle.disk_deferred.specs.declared.call.Handed.{Handed}
use Rattle.disk_deferred.specs.declared.call.Handed.TheVariants.{Calls}
use Rattle.rtrb.specs.Ring.{sent}
use Rattle.disk_deferred.proofs.Names.{device_synced, first_more, producer_name}
use Rattle.disk_deferred.proofs.Short.{up_to_sync}
use Rattle.disk_deferred.proofs.disk.DeferredDiskDisk.sync.Goals as goal

pub push_reserved-requires : goal.push_reserved-requires
push_reserved-requires c =
    let unsent = c.self.inside.unsent.items in
    let calls = c.keep.new.calls.items in
    let is : calls ≡ unsent ++ Sync ∷ [] = subst (λ (b : Bool). calls ≡ (if b then unsent ++ Sync ∷ [] else unsent)) c.if-not-keep.false c.keep.ensures in
    let same : c.replace-batch.result.items ≡ calls = search rules in
    (search rules, subst AreToSync (sym (same ∙ is)) (up_to_sync [] unsent c.self.invariant.short))

pub returns-clause-ok : goal.returns-clause-ok
returns-clause-ok c =
    let ring = c.self.inside.ring in
    let looked = c.slots.new.self in
    let last = c.push_reserved.new.self in
    let batch : Handed = Calls c.replace-batch.result in
    let x : Deferred = record { memory = memory_of (sent ring) c.self.inside.trace.past.stops c.self.inside.failures; ring = ring } in
    let y : Deferred = record { memory = memory_of (sent last) c.sync.new.self.past.stops c.self.inside.failures; ring = last } in
    let first : first_in (sent last) ≡ first_in (sent ring) =
    ap first_in (c.push_reserved.ensures.sent.0 ∙ ap (λ (h : List Handed). h ++ batch ∷ []) c.slots.ensures.looked.1) ∙ first_more (sent ring) batch c.self.invariant.begun in
    let same : y.memory ≡ stopped Synced x.memory = λ i. record { first = first i; stops = (c.sync.ensures i).stops; failures = c.self.inside.failures; fails_in = None } in
    subst (λ (d : Deferred). deferred_device y ≡ synced (deferred_device d)) c.self.view_is
    (device_synced x y same (producer_name looked last c.push_reserved.ensures.ring ∙ producer_name ring looked c.slots.ensures.looked.0))
