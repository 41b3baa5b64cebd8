use Rattle.std.proofs.Common.{◌+◌, ◌≤◌, List, length, refl, sym, subst, rules}
use Rattle.block_disk.specs.Memory.{Stop}
use Rattle.host_journal.specs.Gathered.{IsHosted}
use Rattle.host_journal.proofs.Hosting.{hosted_same, hosted_written}
use Rattle.host_journal.proofs.journal.HostJournal.write.Goals as goal

pub invariant_of-self : goal.invariant_of-self
invariant_of-self c =
    let h = c.self.inside in
    hosted_same h.parts c.keep.new.parts h.trace.past h.marks.past.stops (c.if-not-keep.ensures.same refl) (c.if-not-keep.ensures.disk refl) c.self.invariant

pub invariant_of-self-2 : goal.invariant_of-self-2
invariant_of-self-2 c =
    let h = c.self.inside in
    let g = c.keep.new.parts in
    let at = c.args.at in
    let bytes = c.args.bytes.now in
    let fits : at + length bytes ≤ length h.parts.disk.device.now.bytes = search rules in
    subst (λ (stops : List Stop). IsHosted g c.write.new.self.past stops) (λ i. (sym c.write-2.ensures i).stops)
    (hosted_written at bytes h.parts g h.trace.past c.write.new.self.past h.marks.past.stops fits (c.if-not-keep.ensures.kept refl) c.write.ensures c.self.invariant)
