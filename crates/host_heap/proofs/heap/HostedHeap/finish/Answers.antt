use Rattle.std.proofs.Common.{ℕ, All, IfErr, List, ap, sym, ◌∙◌, subst}
use Rattle.std.specs.List.{range_with_len}
use Rattle.monitor.specs.Seats.{Home}
use Rattle.host_heap.specs.Closing.{HasStopped}
use Rattle.host_heap.specs.Hosting.{Hosting, handed_out}
use Rattle.host_heap.specs.Lanes.{HasCome, IsLaneEnd}
use Rattle.host_heap.specs.Sessions.{Seated}
use Rattle.host_heap.proofs.Closings.{stopped}
use Rattle.host_heap.proofs.Ends.{none_left}
use Rattle.host_heap.proofs.heap.HostedHeap.finish.Goals as goal

pub close_all-requires-clause-lanes : goal.close_all-requires-clause-lanes
close_all-requires-clause-lanes c =
    let x = c.self.inside.helper in
    subst (λ (h : Home). All (IsLaneEnd h x.store.known.layout.capacity x.rings) c.self.inside.lanes.items) (sym c.in-Ok.ensures.ok) c.self.invariant.lanes_are

pub close_all-requires-clause-order : goal.close_all-requires-clause-order
close_all-requires-clause-order c = c.self.invariant.order ∙ ap (λ (n : ℕ). range_with_len 0 n) c.self.invariant.helping.lanes

pub close_all-requires-clause-came : goal.close_all-requires-clause-came
close_all-requires-clause-came c =
    let none = none_left c.self.inside.unused.items (ap (λ (x : Hosting). x.unused) c.self.view_is ∙ c.requires.unused) in
    let out : All HasCome (handed_out c.self.inside.unused.items c.self.inside.lanes.items) = subst (λ (x : Hosting). All HasCome x.out) (sym c.self.view_is) c.requires.came in
    subst (λ (u : List Seated). All HasCome (handed_out u c.self.inside.lanes.items)) none out

pub returns-in-Ok-clause-refused : goal.returns-in-Ok-clause-refused
returns-in-Ok-clause-refused c = stopped c.args.self c.in-Ok.shared c.close_all.result (c.in-Ok.ensures.ok ∙ ap (λ (x : Hosting). x.home) c.self.view_is)
    (subst (λ (x : Hosting). IfErr c.close_all.result (HasStopped c.in-Ok.shared x.helper x.calls)) c.self.view_is c.close_all.ensures.refused)
