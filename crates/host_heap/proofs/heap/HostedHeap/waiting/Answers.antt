use Rattle.std.specs.Arc.{arc_value}
use Rattle.host_heap.proofs.Hosts.{with_calls}
use Rattle.host_heap.proofs.heap.HostedHeap.waiting.Goals as goal

pub invariant_of-self : goal.invariant_of-self
invariant_of-self c =
    let x = c.self.inside in
    with_calls (arc_value x.shared) x.helper x.calls x.layout x.stop.word x.unused.items x.lanes.items c.self.invariant c.waiting.new.self c.waiting.ensures.looked.ring.0
