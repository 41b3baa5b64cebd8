use Rattle.std.proofs.Common.{◌≡◌, ◌+◌, ◌≤◌, ℕ, true, false, length, subst, sym, rules}
use Rattle.disk_file.specs.Buffered.{AllWithin, GoesOn}
use Rattle.disk_file.specs.Mirror.{Mirror}
use Rattle.disk_file.proofs.Unwritten.{deferred_write, goes_on_last}
use Rattle.disk_file.proofs.buffered.BufferedDiskDisk.write_at.Goals as goal

pub invariant_of-self-2 : goal.invariant_of-self-2
invariant_of-self-2 g c =
    let d = c.self.inside in
    let size : c.len-size.result ≡ length d.bytes.items = search rules in
    let fits : c.args.at + length c.args.bytes.now ≤ length d.bytes.items = search rules in
    let within = subst (λ (n : ℕ). AllWithin n c.add.new.spans.items) size c.add.ensures.within in
    rw (c.put.ensures, c.write.ensures)
    (deferred_write d.trace.past.device d.bytes.items c.args.bytes.now d.unwritten.items c.add.new.spans.items (g.F.BackingFile.holds d.file) c.args.at
    fits c.self.invariant within (c.add.ensures.covered c.if-not-add.false) (c.add.ensures.exact c.if-not-add.false)
    (c.add.ensures.newest c.if-not-add.false))

pub returns-then-not-add-clause-goes_on : goal.returns-then-not-add-clause-goes_on
returns-then-not-add-clause-goes_on g c goes =
    let d = c.self.inside in
    let here = subst (λ (m : Mirror). GoesOn c.args.at m.device.now.pending) (sym c.self.view_is) goes in
    let r = goes_on_last c.args.at d.trace.past.device.now.pending d.unwritten.items here c.self.invariant.newest in
    let clash : false ≡ true = c.if-not-add.ensures.goes_on r.0 r.1 r.2 r.3 in
    absurd cc
