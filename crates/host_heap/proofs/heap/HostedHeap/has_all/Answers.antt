use Rattle.std.proofs.Common.{ℕ, ◌≡◌, All, Any, List, drop, length, take, ap, ◌∙◌, subst, arith}
use Rattle.std.specs.Arc.{arc_value}
use Rattle.host_heap.specs.Hosting.{Hosting, handed_out}
use Rattle.host_heap.specs.Lanes.{HasCome, IsAwaited, KeepCome}
use Rattle.host_heap.specs.declared.lane_end.LaneEnd.{LaneEnd}
use Rattle.host_heap.proofs.Coming.{come_from}
use Rattle.host_heap.proofs.Ends.{paired_kept}
use Rattle.host_heap.proofs.heap.HostedHeap.has_all.Goals as goal

pub invariant_of-self : goal.invariant_of-self
invariant_of-self c =
    let was = c.self.invariant in
    let x = c.self.inside.helper in
    let old : List LaneEnd = c.self.inside.lanes.items in
    let new : List LaneEnd = c.have_come.new.lanes.items in
    let first : c.len-first.result ≡ length c.self.inside.unused.items = c.len-first.ensures ∙ c.self.inside.unused.ok.0 in
    let kept = c.have_come.ensures.kept (arc_value c.self.inside.shared) x.store.known.layout.capacity x.rings was.lanes_are in
    record {
      helping = was.helping;
      host = was.host;
      layout_is = was.layout_is;
      within = was.within;
      unused_are = was.unused_are;
      count = (let was = was.count in let same = c.have_come.ensures.count in omega (arith, was, same));
      lanes_are = kept.0;
      order = kept.1 ∙ was.order;
      joined = was.joined;
      paired = paired_kept c.self.inside.unused.items old new (subst (λ (n : ℕ). take n new ≡ take n old) first c.have_come.ensures.front) was.paired;
    }

pub returns-clause-came : goal.returns-clause-came
returns-clause-came c = λ yes.
    let first : c.len-first.result ≡ length c.self.inside.unused.items = c.len-first.ensures ∙ c.self.inside.unused.ok.0 in
    subst (λ (n : ℕ). All HasCome (drop n c.have_come.new.lanes.items)) first (c.have_come.ensures.came yes)

pub returns-clause-awaited : goal.returns-clause-awaited
returns-clause-awaited c = λ no.
    let first : c.len-first.result ≡ length c.self.inside.unused.items = c.len-first.ensures ∙ c.self.inside.unused.ok.0 in
    subst (λ (n : ℕ). Any IsAwaited (drop n c.have_come.new.lanes.items)) first (c.have_come.ensures.awaited no)

pub returns-clause-same : goal.returns-clause-same
returns-clause-same c =
    let unused = c.self.inside.unused.items in
    let lanes = c.have_come.new.lanes.items in (
      record {
        home = ap (λ (v : Hosting). v.home) c.self.view_is;
        helper = ap (λ (v : Hosting). v.helper) c.self.view_is;
        unused = ap (λ (v : Hosting). v.unused) c.self.view_is;
        out = subst (λ (v : Hosting). KeepCome v.out (handed_out unused lanes)) c.self.view_is (come_from (length unused) c.self.inside.lanes.items lanes c.have_come.ensures.come);
        stop = ap (λ (v : Hosting). v.stop) c.self.view_is;
      },
      ap (λ (v : Hosting). v.calls) c.self.view_is,
    )
