use Rattle.std.proofs.Common.{ap, ◌∙◌, ◌∷◌}
use Rattle.disk_deferred.specs.Deferred.{stop_of}
use Rattle.host_heap.specs.Hosting.{Hosting}
use Rattle.std.specs.Arc.{arc_value}
use Rattle.host_heap.proofs.Hosts.{with_calls}
use Rattle.host_heap.proofs.heap.HostedHeap.done.Goals as goal

pub invariant_of-self : goal.invariant_of-self
invariant_of-self c =
    let x = c.self.inside in
    with_calls (arc_value x.shared) x.helper x.calls x.layout x.stop.word x.unused.items x.lanes.items c.self.invariant c.done.new.self c.done.ensures.ring

pub returns-clause-one : goal.returns-clause-one
returns-clause-one c = λ call later is.
    let one = c.done.ensures.one call later (ap (λ (x : Hosting). x.calls.left) c.self.view_is ∙ is) in
    (one.0, one.1, one.2 ∙ ap (λ (x : Hosting). stop_of call ∷ x.calls.made) c.self.view_is)
