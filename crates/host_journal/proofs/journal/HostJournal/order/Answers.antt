use Rattle.std.proofs.Common.{[], Ok, Err, List, refl, sym, subst}
use Rattle.block_disk.specs.Memory.{Stop}
use Rattle.disk_deferred.specs.Joined.{at_sync}
use Rattle.host_journal.specs.Calls.{HasOrdered}
use Rattle.host_journal.specs.Gathered.{IsHosted, view_of}
use Rattle.host_journal.specs.Hosted.{Hosted}
use Rattle.host_journal.proofs.Answering.{order_failed, order_made}
use Rattle.host_journal.proofs.Hosting.{hosted_kept, hosted_ordered}
use Rattle.host_journal.proofs.journal.HostJournal.order.Goals as goal

pub invariant_of-self : goal.invariant_of-self
invariant_of-self c =
    let h = c.self.inside in
    hosted_kept h.parts c.gather.new.parts h.trace.past h.marks.past.stops c.gather.ensures.gathers.keeps c.self.invariant

pub invariant_of-self-2 : goal.invariant_of-self-2
invariant_of-self-2 c =
    let h = c.self.inside in
    let g = c.gather.new.parts in
    let kept = hosted_kept h.parts g h.trace.past h.marks.past.stops c.gather.ensures.gathers.keeps c.self.invariant in
    let none = c.if-not-gather.ensures.none refl in
    subst (λ (stops : List Stop). IsHosted g c.sync.new.self.past stops) (λ i. (sym c.write.ensures i).stops)
    (hosted_ordered g h.trace.past c.sync.new.self.past h.marks.past.stops 0 [] none.0 c.sync.ensures kept)

pub returns-then-not-gather : goal.returns-then-not-gather
returns-then-not-gather c =
    let h = c.self.inside in
    let g = c.gather.new.parts in
    subst (λ (v : Hosted). HasOrdered v (view_of g h.trace.past h.marks.past.stops h.calls) (Err (record {}))) c.self.view_is
    (order_failed h.parts g h.trace.past h.marks.past.stops h.calls (record {}) c.self.invariant c.gather.ensures.gathers)

pub returns : goal.returns
returns c =
    let h = c.self.inside in
    let g = c.gather.new.parts in
    subst (λ (v : Hosted). HasOrdered v (view_of g c.sync.new.self.past c.write.new.self.past.stops h.calls) (Ok tt)) c.self.view_is
    (order_made h.parts g h.trace.past c.sync.new.self.past h.marks.past.stops c.write.new.self.past.stops h.calls c.self.invariant c.gather.ensures.gathers
    (c.if-not-gather.ensures.none refl).0 c.sync.ensures (λ i. at_sync (c.write.ensures i).stops))
