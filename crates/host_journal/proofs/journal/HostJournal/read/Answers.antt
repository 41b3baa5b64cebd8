use Rattle.std.proofs.Common.{sym, subst}
use Rattle.disk_journal.specs.Disks.{Layered}
use Rattle.host_journal.specs.Gathered.{IsHosted}
use Rattle.host_journal.proofs.journal.HostJournal.read.Goals as goal

pub invariant_of-self : goal.invariant_of-self
invariant_of-self c =
    let h = c.self.inside in
    let g = h.parts in
    subst
    (λ (d : Layered). IsHosted (record { disk = d; group = g.group; moved = g.moved; taken = g.taken; words = g.words; turns = g.turns }) h.trace.past h.marks.past.stops)
    (sym c.read_held.ensures.same) c.self.invariant
