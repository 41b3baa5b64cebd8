use Rattle.std.proofs.Common.{◌≡◌, ◌+◌, ◌*◌, ◌≤◌, ◌∙◌, ℕ, List, [], length, take, refl, sym, ap, subst, arith, rules, length-take}
use Rattle.std.proofs.lemmas.List.{take_all}
use Rattle.block_disk.specs.Device.{Device, unit_ranges, written_units}
use Rattle.block_disk.specs.Images.{ImageBut, LeavesOnly}
use Rattle.block_disk.specs.Memory.{Memory, Stop, failed, units_onto}
use Rattle.block_disk.specs.Traced.{Traced, and_units}
use Rattle.disk_deferred.specs.Deferred.{Deferred, deferred_device, memory_of, onto, stops_in}
use Rattle.disk_deferred.specs.Names.{name_of}
use Rattle.rtrb.specs.Ring.{sent}
use Rattle.block_disk.proofs.InUnits.{units_leave}
use Rattle.disk_deferred.proofs.Units.{device_units, join_taken, named, some_leave, units_taken, with_stops, wrote_units}
use Rattle.disk_deferred.proofs.disk.DeferredDiskDisk.write_units.Goals as goal

pub invariant_of-self : goal.invariant_of-self
invariant_of-self c =
    let d = c.self.inside in
    let handed = sent d.ring in
    let n = c.keep_units-kept.result in
    let few = c.keep_units-kept.ensures.few in
    let whole = c.requires.whole in
    let units : List ℕ = c.args.units.now in
    let run : List ℕ = take (n * 16) units in
    let long : length run ≡ n * 16 = omega (arith, length-take (n * 16) units, few, whole) in
    let fits : c.args.at + length units ≤ length d.bytes.items = search rules in
    wrote_units handed d.unsent.items c.keep_units-kept.new.calls.items d.bytes.items c.put.new.bytes.items d.trace.past.stops c.write_units.new.self.past.stops n c.args.at run c.self.invariant
    long (omega (arith, long, few, whole, fits)) (c.keep_units-kept.ensures.kept [] tt ∙ sym (join_taken n c.args.at units (onto [] d.unsent.items)))
    (c.keep_units-kept.ensures.kept (stops_in handed) c.self.invariant.synced ∙ sym (join_taken n c.args.at units (onto (stops_in handed) d.unsent.items))) c.put.ensures (ap (λ (t : Traced). t.stops) c.write_units.ensures)

pub invariant_of-self-else-kept-count : goal.invariant_of-self-else-kept-count
invariant_of-self-else-kept-count c =
    let d = c.self.inside in
    let handed = sent d.ring in
    let n = c.keep_units-kept.result in
    let few = c.keep_units-kept.ensures.few in
    let whole = c.requires.whole in
    let units : List ℕ = c.args.units.now in
    let run : List ℕ = take (n * 16) units in
    let long : length run ≡ n * 16 = omega (arith, length-take (n * 16) units, few, whole) in
    let fits : c.args.at + length units ≤ length d.bytes.items = search rules in
    wrote_units handed d.unsent.items c.keep_units-kept.new.calls.items d.bytes.items c.put.new.bytes.items d.trace.past.stops c.write_units.new.self.past.stops n c.args.at run c.self.invariant
    long (omega (arith, long, few, whole, fits)) (c.keep_units-kept.ensures.kept [] tt ∙ sym (join_taken n c.args.at units (onto [] d.unsent.items)))
    (c.keep_units-kept.ensures.kept (stops_in handed) c.self.invariant.synced ∙ sym (join_taken n c.args.at units (onto (stops_in handed) d.unsent.items))) c.put.ensures (ap (λ (t : Traced). t.stops) c.write_units.ensures)

pub returns-clause-ok : goal.returns-clause-ok
returns-clause-ok c =
    let d = c.self.inside in
    let n = c.keep_units-kept.result in
    let at = c.args.at in
    let units : List ℕ = c.args.units.now in
    let name : List ℕ = name_of d.ring.end in
    let m : Memory = memory_of (sent d.ring) d.trace.past.stops d.failures in
    let few = c.keep_units-kept.ensures.few in
    let all : n ≡ c.args.count = omega (arith, few, c.if-kept-count.false) in
    let whole = c.requires.whole in
    ap (λ (t : Traced). named name (with_stops t.stops m)) c.write_units.ensures
    ∙ device_units name n at (take (n * 16) units) m
    ∙ ap (λ (k : ℕ). written_units k at (take (k * 16) units) (named name m)) all
    ∙ ap (λ (xs : List ℕ). written_units c.args.count at xs (named name m)) (take_all (c.args.count * 16) units (omega (arith, whole)))
    ∙ ap (λ (e : Deferred). written_units c.args.count at units (deferred_device e)) c.self.view_is

pub returns-clause-any_moment : goal.returns-clause-any_moment
returns-clause-any_moment c =
    let old : Device = deferred_device c.args.self.now in
    subst (λ (x : Device). LeavesOnly old x (ImageBut old (unit_ranges c.args.count c.args.at))) (sym (returns-clause-ok c))
    (units_leave c.args.count c.args.at c.args.units.now old c.requires.whole c.requires.fits)

pub returns-then-kept-count-clause-any_moment : goal.returns-then-kept-count-clause-any_moment
returns-then-kept-count-clause-any_moment c =
    let d = c.self.inside in
    let n = c.keep_units-kept.result in
    let at = c.args.at in
    let units : List ℕ = c.args.units.now in
    let run : List ℕ = take (n * 16) units in
    let name : List ℕ = name_of d.ring.end in
    let m : Memory = memory_of (sent d.ring) d.trace.past.stops d.failures in
    let old : Device = deferred_device c.args.self.now in
    let few = c.keep_units-kept.ensures.few in
    let whole = c.requires.whole in
    let fits = c.requires.fits in
    let long : length run ≡ n * 16 = omega (arith, length-take (n * 16) units, few, whole) in
    let made : named name (with_stops c.write_units.new.self.past.stops m) ≡ written_units n at run old =
    ap (λ (t : Traced). named name (with_stops t.stops m)) c.write_units.ensures ∙ device_units name n at run m ∙ ap (λ (e : Deferred). written_units n at run (deferred_device e)) c.self.view_is in
    some_leave n c.args.count at run old _ few long (omega (arith, long, few, whole, fits)) c.fail.new.failures (ap (λ (x : Device). record x { failures = c.fail.new.failures }) made)

-- the disk's stops behind those that were kept
kept_stops : (n at : ℕ) (units : List ℕ) (stops : List Stop) (t u : Traced) → u ≡ and_units n at (take (n * 16) units) t → t.stops ≡ stops → u.stops ≡ units_onto n at units stops
kept_stops n at units stops t u is was = ap (λ (x : Traced). x.stops) is ∙ units_taken n at units t.stops ∙ ap (λ (s : List Stop). units_onto n at units s) was

pub returns-clause-stopped : goal.returns-clause-stopped
returns-clause-stopped c =
    let d = c.self.inside in
    let n = c.keep_units-kept.result in
    let few = c.keep_units-kept.ensures.few in
    let all : n ≡ c.args.count = omega (arith, few, c.if-kept-count.false) in
    let m : Memory = memory_of (sent d.ring) d.trace.past.stops d.failures in
    ap (λ (s : List Stop). with_stops s m) (kept_stops n c.args.at c.args.units.now d.trace.past.stops d.trace.past c.write_units.new.self.past c.write_units.ensures refl)
    ∙ ap (λ (k : ℕ). with_stops (units_onto k c.args.at c.args.units.now m.stops) m) all
    ∙ ap (λ (e : Deferred). with_stops (units_onto c.args.count c.args.at c.args.units.now e.memory.stops) e.memory) c.self.view_is

pub returns-then-kept-count-clause-failed : goal.returns-then-kept-count-clause-failed
returns-then-kept-count-clause-failed c =
    let d = c.self.inside in
    let n = c.keep_units-kept.result in
    let m : Memory = memory_of (sent d.ring) d.trace.past.stops d.failures in
    let stops = kept_stops n c.args.at c.args.units.now d.trace.past.stops d.trace.past c.write_units.new.self.past c.write_units.ensures refl in (
      n,
      c.if-kept-count.true,
      ap (λ (s : List Stop). record (with_stops s m) { failures = c.fail.new.failures }) stops
          ∙ ap (λ (k : ℕ). record (with_stops (units_onto n c.args.at c.args.units.now m.stops) m) { failures = k }) c.fail.ensures.counted
          ∙ ap (λ (e : Deferred). failed (with_stops (units_onto n c.args.at c.args.units.now e.memory.stops) e.memory)) c.self.view_is,
    )
