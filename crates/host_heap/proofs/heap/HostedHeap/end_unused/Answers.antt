use Rattle.std.proofs.Common.{ℕ, ◌≡◌, All, List, [], ◌≤◌, drop, length, sym, ◌∙◌, ap, subst, arith}
use Rattle.std.proofs.lemmas.List.Elements.{All-nil}
use Rattle.std.specs.Arc.{arc_value}
use Rattle.host_heap.specs.Hosting.{Hosting, handed_out, lanes_of}
use Rattle.host_heap.specs.Lanes.{AreNewHere, ArePaired, HasCome, IsJoinedHere, IsNewHere, KeepCome}
use Rattle.host_heap.specs.Sessions.{Seated}
use Rattle.host_heap.specs.declared.lane_end.LaneEnd.{LaneEnd}
use Rattle.host_heap.proofs.Coming.{all_same}
use Rattle.host_heap.proofs.Ends.{lanes_long}
use Rattle.host_heap.proofs.heap.HostedHeap.end_unused.Goals as goal

pub bring_back-requires : goal.bring_back-requires
bring_back-requires c = record { count = c.self.invariant.count; later = subst (λ (x : Hosting). All HasCome x.out) (sym c.self.view_is) c.requires }

pub invariant_of-self : goal.invariant_of-self
invariant_of-self c =
    let was = c.self.invariant in
    let h = arc_value c.self.inside.shared in
    let x = c.self.inside.helper in
    let none = sym c.bring_back.ensures.none in
    let moved = c.bring_back.ensures.kept h x.store.known.layout.capacity x.rings was.paired was.joined was.lanes_are in
    record {
      helping = was.helping;
      host = was.host;
      layout_is = was.layout_is;
      within = was.within;
      unused_are = subst (AreNewHere h c.self.inside.stop.word) none (All-nil (IsNewHere h c.self.inside.stop.word));
      count = subst (λ (u : List Seated). length u ≤ length c.bring_back.new.lanes.items) none (omega arith);
      lanes_are = moved.0;
      order = moved.1 ∙ was.order;
      joined = subst (All (IsJoinedHere h x.store.known.layout.capacity x.rings)) none (All-nil (IsJoinedHere h x.store.known.layout.capacity x.rings));
      paired = subst (λ (u : List Seated). ArePaired u c.bring_back.new.lanes.items) none tt;
    }

pub returns : goal.returns
returns c =
    let unused = c.self.inside.unused.items in
    let old = c.self.inside.lanes.items in
    let new = c.bring_back.new.lanes.items in
    let n = length unused in
    let none = c.bring_back.ensures.none in
    let others : KeepCome (drop n old) (drop n new) = subst (λ (ends : List LaneEnd). KeepCome (drop n old) ends) (sym c.bring_back.ensures.others) (all_same (drop n old)) in
    let long = lanes_long [] unused in
    let count : n ≡ length (lanes_of unused) = omega (arith, long) in
    let by_lanes : KeepCome (drop n old) (drop (length (lanes_of unused)) new) = subst (λ (m : ℕ). KeepCome (drop n old) (drop m new)) count others in
    let stay = subst (λ (u : List Seated). KeepCome (drop n old) (drop (length (lanes_of unused)) (handed_out u new))) (sym none) by_lanes in record {
      without = (
        record {
          home = ap (λ (v : Hosting). v.home) c.self.view_is;
          helper = ap (λ (v : Hosting). v.helper) c.self.view_is;
          unused = ap (λ (u : List Seated). lanes_of u) none;
          out = subst (λ (v : Hosting). KeepCome v.out (drop (length v.unused) (handed_out c.bring_back.new.unused.items new))) c.self.view_is stay;
          came = subst (λ (u : List Seated). All HasCome (handed_out u new)) (sym none) c.bring_back.ensures.came;
          stop = ap (λ (v : Hosting). v.stop) c.self.view_is;
        },
        ap (λ (v : Hosting). v.calls) c.self.view_is,
      );
    }
