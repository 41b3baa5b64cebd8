use Rattle.std.proofs.Common.{◌≡◌, ℕ, ◌+◌, List, ◌∙◌, [], ◌∷◌, length, sym, subst}
use Rattle.block_disk.specs.Device.{SameOutside}
use Rattle.block_disk.specs.Images.{ImageBut, LeavesOnly}
use Rattle.disk_sectors.specs.Disks.{Layered}
use Rattle.disk_sectors.specs.Places.{Reads, Shows, sectors_from}
use Rattle.disk_sectors.specs.Size.{sector}
use Rattle.disk_sectors.proofs.TwoAreas.{kept_step, leaves_label}
use Rattle.disk_sectors.proofs.two_places.TwoPlacesDisk.sync.Goals as goal

pub sync_places-requires-clause-count : goal.sync_places-requires-clause-count
sync_places-requires-clause-count g c = c.self.invariant.1.same_count

pub sync_places-requires-clause-reads : goal.sync_places-requires-clause-reads
sync_places-requires-clause-reads g c =
    let d = c.self.inside in
    subst (λ (xs : List ℕ). Reads d.size (length d.fresh) d.gate.turn d.fresh d.stale xs (g.S.Sectors.device d.sectors).now.bytes) (sym c.deref.ensures.value) c.self.invariant.1.reads

pub invariant_of-self : goal.invariant_of-self
invariant_of-self g c =
    let d = c.self.inside in
    let k = c.self.invariant.1 in
    let is : d.trace.past.device.now.bytes ≡ c.deref.result.now = k.bytes ∙ sym c.deref.ensures.value in
    let count = length d.fresh in
    let reads = subst (λ (xs : List ℕ). Reads d.size count c.sync_places.new.gate.turn c.sync_places.new.fresh c.sync_places.new.stale xs (g.S.Sectors.device c.sync_places.new.sectors).now.bytes) c.deref.ensures.value c.sync_places.ensures.reads in (
      c.sync_places.ensures.writes_only.size,
      kept_step d.size count c.sync_places.new.gate.is_firm c.sync_places.new.gate.turn c.sync_places.new.fresh c.sync_places.new.stale d.image.items k.label d.trace.past.device.now
          (g.S.Sectors.device c.sync_places.new.sectors) c.sync_places.ensures.count.0 c.sync_places.ensures.count.1 reads k.bytes
          (c.sync_places.ensures.crash k.label d.trace.past.device.now is k.crash),
    )

pub invariant_of-self-2 : goal.invariant_of-self-2
invariant_of-self-2 g c =
    let d = c.self.inside in
    let k = c.self.invariant.1 in
    let is : d.trace.past.device.now.bytes ≡ c.deref.result.now = k.bytes ∙ sym c.deref.ensures.value in
    let count = length d.fresh in
    let reads = subst (λ (xs : List ℕ). Reads d.size count c.sync_places.new.gate.turn c.sync_places.new.fresh c.sync_places.new.stale xs (g.S.Sectors.device c.sync_places.new.sectors).now.bytes) c.deref.ensures.value c.sync_places.ensures.reads in
    rw c.sync.ensures (
      c.sync_places.ensures.writes_only.size,
      kept_step d.size count c.sync_places.new.gate.is_firm c.sync_places.new.gate.turn c.sync_places.new.fresh c.sync_places.new.stale d.image.items k.label
          (record { bytes = d.trace.past.device.now.bytes; pending = [] }) (g.S.Sectors.device c.sync_places.new.sectors) c.sync_places.ensures.count.0 c.sync_places.ensures.count.1
          reads k.bytes (c.in-Ok.ensures.durable k.label d.trace.past.device.now is k.crash),
    )

pub returns-in-Err-clause-any_moment : goal.returns-in-Err-clause-any_moment
returns-in-Err-clause-any_moment g c =
    let d = c.self.inside in
    let k = c.self.invariant.1 in
    let is : d.trace.past.device.now.bytes ≡ c.deref.result.now = k.bytes ∙ sym c.deref.ensures.value in
    let new = g.S.Sectors.device c.sync_places.new.sectors in
    subst (λ (l : Layered). LeavesOnly l.sectors new (Shows l.size l.count (sector l.size 0 l.sectors.now.bytes) l.device.now)) c.self.view_is
    (leaves_label d.size (length d.fresh) d.gate.is_firm d.gate.turn k.label d.trace.past.device.now (g.S.Sectors.device d.sectors) new k.crash
    (c.sync_places.ensures.any_moment k.label d.trace.past.device.now is k.crash))

pub returns-clause-any_moment : goal.returns-clause-any_moment
returns-clause-any_moment g c =
    let d = c.self.inside in
    let k = c.self.invariant.1 in
    let is : d.trace.past.device.now.bytes ≡ c.deref.result.now = k.bytes ∙ sym c.deref.ensures.value in
    let new = g.S.Sectors.device c.sync_places.new.sectors in
    subst (λ (l : Layered). LeavesOnly l.sectors new (Shows l.size l.count (sector l.size 0 l.sectors.now.bytes) l.device.now)) c.self.view_is
    (leaves_label d.size (length d.fresh) d.gate.is_firm d.gate.turn k.label d.trace.past.device.now (g.S.Sectors.device d.sectors) new k.crash
    (c.sync_places.ensures.any_moment k.label d.trace.past.device.now is k.crash))

pub returns-in-Err-clause-within : goal.returns-in-Err-clause-within
returns-in-Err-clause-within g c =
    let new = g.S.Sectors.device c.sync_places.new.sectors in
    subst (λ (l : Layered). LeavesOnly l.sectors new (ImageBut l.sectors (sectors_from l.size 0 (l.count + l.count + 2) ∷ []))) c.self.view_is c.sync_places.ensures.writes_only.leaves

pub returns-in-Err-clause-beyond : goal.returns-in-Err-clause-beyond
returns-in-Err-clause-beyond g c =
    let new = g.S.Sectors.device c.sync_places.new.sectors in
    subst (λ (l : Layered). SameOutside (sectors_from l.size 0 (l.count + l.count + 2) ∷ []) l.sectors.now.bytes new.now.bytes) c.self.view_is c.sync_places.ensures.writes_only.same

pub returns-clause-within : goal.returns-clause-within
returns-clause-within g c =
    let new = g.S.Sectors.device c.sync_places.new.sectors in
    subst (λ (l : Layered). LeavesOnly l.sectors new (ImageBut l.sectors (sectors_from l.size 0 (l.count + l.count + 2) ∷ []))) c.self.view_is c.sync_places.ensures.writes_only.leaves

pub returns-clause-beyond : goal.returns-clause-beyond
returns-clause-beyond g c =
    let new = g.S.Sectors.device c.sync_places.new.sectors in
    subst (λ (l : Layered). SameOutside (sectors_from l.size 0 (l.count + l.count + 2) ∷ []) l.sectors.now.bytes new.now.bytes) c.self.view_is c.sync_places.ensures.writes_only.same
