use Rattle.std.proofs.Common.{◌≡◌, ◌+◌, ◌≤◌, ◌∙◌, ℕ, true, false, length, subst, sym, ap, rules}
use Rattle.block_disk.specs.Device.{Device, written_units, unit_ranges}
use Rattle.block_disk.specs.Images.{ImageBut, LeavesOnly}
use Rattle.block_disk.proofs.InUnits.{units_leave}
use Rattle.disk_file.specs.Buffered.{AllWithin, GoesOn}
use Rattle.disk_file.specs.Mirror.{LacksIn, Mirror}
use Rattle.block_disk.specs.Traced.{Traced, failing}
use Rattle.disk_file.proofs.Unwritten.{deferred_units, goes_on_last, lacks_units, units_failing}
use Rattle.disk_file.proofs.buffered.BufferedDiskDisk.write_units.Goals as goal

pub invariant_of-self-2 : goal.invariant_of-self-2
invariant_of-self-2 g c =
    let d = c.self.inside in
    let size : c.len-size.result ≡ length d.bytes.items = search rules in
    let fits : c.args.at + length c.args.units.now ≤ length d.bytes.items = search rules in
    let within = subst (λ (n : ℕ). AllWithin n c.add.new.spans.items) size c.add.ensures.within in
    rw (c.put.ensures, c.write_units.ensures)
    (deferred_units c.args.count d.trace.past.device d.bytes.items c.args.units.now d.unwritten.items c.add.new.spans.items (g.F.BackingFile.holds d.file) c.args.at
    c.requires.some c.requires.whole fits c.self.invariant within (c.add.ensures.covered c.if-not-add.false) (c.add.ensures.exact c.if-not-add.false)
    (c.add.ensures.newest c.if-not-add.false))

pub returns-clause-ok : goal.returns-clause-ok
returns-clause-ok g c =
    let d = c.self.inside in
    ap (λ (t : Traced). failing d.failures t.device) c.write_units.ensures ∙ units_failing c.args.count c.args.at d.failures c.args.units.now d.trace.past.device
    ∙ ap (λ (m : Mirror). written_units c.args.count c.args.at c.args.units.now m.device) c.self.view_is

pub returns-clause-any_moment : goal.returns-clause-any_moment
returns-clause-any_moment g c =
    let old : Device = c.args.self.now.device in
    subst (λ (x : Device). LeavesOnly old x (ImageBut old (unit_ranges c.args.count c.args.at))) (sym (returns-clause-ok g c))
    (units_leave c.args.count c.args.at c.args.units.now old c.requires.whole c.requires.fits)

pub returns-then-not-add-clause-goes_on : goal.returns-then-not-add-clause-goes_on
returns-then-not-add-clause-goes_on g c goes =
    let d = c.self.inside in
    let here = subst (λ (m : Mirror). GoesOn c.args.at m.device.now.pending) (sym c.self.view_is) goes in
    let r = goes_on_last c.args.at d.trace.past.device.now.pending d.unwritten.items here c.self.invariant.newest in
    let clash : false ≡ true = c.if-not-add.ensures.goes_on r.0 r.1 r.2 r.3 in
    absurd cc

pub returns-clause-lacks : goal.returns-clause-lacks
returns-clause-lacks g c stale had =
    let d = c.self.inside in
    let old = d.trace.past.device in
    let fits : c.args.at + length c.args.units.now ≤ length d.bytes.items = search rules in
    rw (c.write_units.ensures)
    (lacks_units c.args.count old d.bytes.items c.args.units.now (g.F.BackingFile.holds d.file) c.args.at c.requires.whole fits c.self.invariant.buffered.reads stale
    (subst (λ (m : Mirror). LacksIn stale m) (sym c.self.view_is) had))
