use Rattle.std.proofs.Common.{ℕ, ◌≡◌, ◌+◌, All, IfSome, List, Option, Some, [], ◌∷◌, ◌++◌, length, ap, refl, sym, ◌∙◌, subst, arith}
use Rattle.std.proofs.lemmas.List.{length_push}
use Rattle.std.proofs.lemmas.List.Elements.{All-nil, All-pop, All-push}
use Rattle.monitor.specs.Seats.{Home}
use Rattle.rtrb.specs.Ring.{received}
use Rattle.thread_heap.specs.Joined.{AreNew, IsJoined}
use Rattle.session.specs.Sessions.{IsSessionOf, view_of}
use Rattle.session.specs.declared.session.Session.{Session}
use Rattle.std.specs.Arc.{arc_value}
use Rattle.host_heap.specs.Hosting.{lanes_of}
use Rattle.host_heap.specs.Lanes.{AreNewHere, ArePaired, IsBack, IsJoinedHere, IsLaneEnd, IsNewHere, lane_at, lane_in, lanes_at}
use Rattle.host_heap.specs.Sessions.{Seated}
use Rattle.host_heap.specs.Stopping.{Stopping}
use Rattle.host_heap.specs.declared.lane_end.LaneEnd.{LaneEnd}
use Rattle.host_heap.proofs.Ends.{lanes_at_more, paired_more}
use Rattle.host_heap.proofs.Orders.{lanes_down, lanes_more, new_popped}
use Rattle.host_heap.proofs.beginning.begin_all.Invariants.{IsDown}
use Rattle.host_heap.proofs.beginning.begin_all.Goals as goal

pub sessions-init : goal.sessions-init
sessions-init c =
    let h : Home = arc_value c.args.shared.now in
    let all = c.args.sessions.items in
    let none = c.new-unused.ensures.items in
    let down : IsDown all [] (length all) = (refl, omega arith) in (
      c.requires.fresh,
      subst (λ (u : List Seated). IsDown all u (length all)) (sym none) down,
      ap (λ (u : List Seated). length u) none ∙ sym (ap (λ (es : List LaneEnd). length es) c.new-lanes.ensures.items),
      c.requires.of,
      subst (AreNewHere h c.args.stop.now.word) (sym none) (All-nil (IsNewHere h c.args.stop.now.word)),
      λ k rings all. (all, subst (All (IsLaneEnd h k rings)) (sym c.new-lanes.ensures.items) (All-nil (IsLaneEnd h k rings)), subst (All (IsJoinedHere h k rings)) (sym none) (All-nil (IsJoinedHere h k rings))),
      ap (λ (es : List LaneEnd). lanes_at es) c.new-lanes.ensures.items ∙ sym (ap (λ (u : List Seated). lanes_of u) none),
      refl,
      subst (λ (u : List Seated). ArePaired u c.new-lanes.result.items) (sym none) tt,
    )

pub sessions-preserved : goal.sessions-preserved
sessions-preserved c =
    let h : Home = arc_value c.args.shared.now in
    let word : ℕ = c.args.stop.now.word in
    let s : Session = c.in-Some.session in
    let was = c.sessions.invariant in
    let left = c.pop.new.self.items in
    let unused = c.sessions.unused.items in
    let added = c.in_default-add.ensures.added in
    let one : Seated = added.0 in
    let end : LaneEnd = added.1 in
    let popped : c.sessions.left.items ≡ left ++ s ∷ [] = c.in-Some.ensures.items in
    let begins : received end.back ≡ s ∷ [] = added.7.begins ∙ ap (λ (x : Session). x ∷ []) added.5 in
    let new = new_popped 0 left s (subst (AreNew 0) popped was.0) in
    let fewer : length c.sessions.left.items ≡ length left + 1 = ap (λ (l : List Session). length l) popped ∙ length_push left s in
    let pushed : c.add.new.unused.items ≡ unused ++ one ∷ [] = added.2 in
    let down : IsDown left (unused ++ one ∷ []) (length c.args.sessions.items) = (
      lanes_down unused one left s (length c.sessions.left.items) added.5 new.1 fewer was.1.0,
      (let count = was.1.1 in let more = length_push unused one in omega (arith, count, more, fewer)),
    ) in (
      new.0,
      subst (λ (u : List Seated). IsDown left u (length c.args.sessions.items)) (sym pushed) down,
      ap (λ (u : List Seated). length u) pushed ∙ length_push unused one ∙ ap (λ (n : ℕ). n + 1) was.2
          ∙ sym (ap (λ (es : List LaneEnd). length es) added.3 ∙ length_push c.sessions.lanes.items end),
      (All-pop (IsSessionOf h) _ _ (Some s) c.in-Some.ensures.items was.3).0,
      subst (AreNewHere h word) (sym pushed)
          (All-push (IsNewHere h word) _ one was.4 (record { home = added.4; word_is = ap (λ (x : Stopping). x.word) (added.6 ∙ was.7); untold = ap (λ (x : Session). (view_of x).events) added.5 ∙ new.2 })),
      λ k rings all.
          let each = was.5 k rings all in
          let parts = All-pop (IsJoined h k rings) _ _ (Some s) c.in-Some.ensures.items each.0 in (
            parts.0,
            subst (All (IsLaneEnd h k rings)) (sym added.3)
                (All-push (IsLaneEnd h k rings) _ end each.1 (record {
                  first = (s, [], begins, parts.1);
                  came = subst (λ (o : Option Session). IfSome o (IsBack h k rings (lane_at end))) (sym added.7.none) tt;
                })),
            subst (All (IsJoinedHere h k rings)) (sym pushed) (All-push (IsJoinedHere h k rings) unused one each.2 (subst (IsJoined h k rings) (sym added.5) parts.1)),
          ),
      ap (λ (es : List LaneEnd). lanes_at es) added.3 ∙ lanes_at_more c.sessions.lanes.items end
          ∙ ap (λ (n : ℕ). n ∷ lanes_at c.sessions.lanes.items) (ap (λ (items : List Session). lane_in items) begins ∙ sym (ap (λ (x : Session). (view_of x).lane.0) added.5))
          ∙ ap (λ (ns : List ℕ). (view_of one.session).lane.0 ∷ ns) was.6 ∙ sym (lanes_more unused one) ∙ sym (ap (λ (u : List Seated). lanes_of u) pushed),
      c.add.ensures.same ∙ was.7,
      subst (λ (u : List Seated). ArePaired u c.add.new.lanes.items) (sym pushed)
          (subst (λ (es : List LaneEnd). ArePaired (unused ++ one ∷ []) es) (sym added.3) (paired_more unused c.sessions.lanes.items one end was.2 was.8 added.7)),
    )

pub returns-clause-seated : goal.returns-clause-seated
returns-clause-seated c =
    let was = c.sessions.invariant in
    record {
      homes = was.4;
      ends_at = was.6;
      paired = was.8;
      count = was.2;
      joined = λ k rings all. let each = was.5 k rings all in (each.1, each.2);
    }
