use Rattle.std.proofs.Common.{ap, subst}
use Rattle.std.specs.Arc.{arc_value}
use Rattle.disk_deferred.specs.Host.{HasLooked}
use Rattle.thread_steps.specs.Views.{plan}
use Rattle.trim_helper.specs.Meets.{SameHelper}
use Rattle.host_heap.specs.Hosting.{Hosting, hosted_device}
use Rattle.host_heap.proofs.Hosts.{with_helper}
use Rattle.host_heap.proofs.heap.HostedHeap.meet.Goals as goal

pub meet-requires : goal.meet-requires
meet-requires c = c.self.invariant.host

pub invariant_of-self : goal.invariant_of-self
invariant_of-self c =
    let x = c.self.inside in
    let was = c.self.invariant in
    with_helper (arc_value x.shared) x.helper x.calls x.layout x.stop.word x.unused.items x.lanes.items was c.meet.new.self c.meet.new.peer c.meet.ensures.same
    (c.meet.ensures.serves (plan (arc_value x.shared)) was.helping.past was.helping.serving) c.meet.ensures.pair

pub returns-clause-calls : goal.returns-clause-calls
returns-clause-calls c = subst (λ (x : Hosting). HasLooked x.calls c.meet.new.peer) c.self.view_is c.meet.ensures.stays

pub returns-clause-heap : goal.returns-clause-heap
returns-clause-heap c =
    let view = c.self.view_is in record {
      home = ap (λ (x : Hosting). x.home) view;
      helper = subst (λ (x : Hosting). SameHelper hosted_device x.helper c.meet.new.self) view c.meet.ensures.same;
      unused = ap (λ (x : Hosting). x.unused) view;
      out = ap (λ (x : Hosting). x.out) view;
      stop = ap (λ (x : Hosting). x.stop) view;
    }
