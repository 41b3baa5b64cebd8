use Rattle.std.proofs.Common.{ℕ, ◌≡◌, All, IfSome, IsSome, List, ◌∷◌, ◌++◌, Option, Some, Vec, false, true, ap, sym, ◌∙◌, subst}
use Rattle.std.proofs.lemmas.List.Elements.{All-nil, All-pop, All-push}
use Rattle.std.specs.Global.{Global}
use Rattle.monitor.specs.Seats.{Sitting}
use Rattle.monitor.specs.Views.{lane_of}
use Rattle.session.specs.declared.session.Session.{Session}
use Rattle.trim_helper.specs.Endings.{IsEnded}
use Rattle.trim_helper.specs.declared.ended.Ended.{Ended}
use Rattle.trim_helper.specs.Endings.{lanes_ended}
use Rattle.host_heap.specs.Lanes.{HasCome, IsBack, IsLaneEnd, lane_at, lanes_at}
use Rattle.host_heap.specs.declared.lane_end.LaneEnd.{LaneEnd}
use Rattle.host_heap.proofs.Ends.{ended_more, lanes_at_more}
use Rattle.host_heap.proofs.closing.end_lanes.Goals.{in-Some-came+in_ok-push, in_default-came}
use Rattle.host_heap.proofs.closing.end_lanes.Goals as goal

pub lanes-init : goal.lanes-init
lanes-init c = (
  c.requires.came,
  λ h k rings all. (
    all,
    subst (All (IsEnded h k rings)) (sym c.new-ended.ensures.items) (All-nil (IsEnded h k rings)),
    ap (λ (es : List Ended). lanes_ended es ++ lanes_at c.args.lanes.items) c.new-ended.ensures.items,
  ),
)

pub lanes-preserved : goal.lanes-preserved
lanes-preserved c =
    let e : LaneEnd = c.in-Some.lane in
    let come = All-pop HasCome c.lanes.left.items c.pop.new.self.items (Some e) c.in-Some.ensures.items c.lanes.invariant.0 in (
      come.0,
      λ h k rings all.
          let was = c.lanes.invariant.1 h k rings all in
          let parts = All-pop (IsLaneEnd h k rings) c.lanes.left.items c.pop.new.self.items (Some e) c.in-Some.ensures.items was.0 in
          let lanes : lanes_at c.lanes.left.items ≡ lane_at e ∷ lanes_at c.pop.new.self.items = ap (λ (ls : List LaneEnd). lanes_at ls) c.in-Some.ensures.items ∙ lanes_at_more c.pop.new.self.items e in
          let rest = elim c.match-came.branch as (λ _. All (IsEnded h k rings) c.match-came.ended.items × (lanes_ended c.match-came.ended.items ++ lanes_at c.pop.new.self.items ≡ lanes_at c.args.lanes.items)) [
            | in-Some-came+in_ok-push w ↦ (
                let x : Ended = w.end.result in
                let back = subst (λ (o : Option Session). IfSome o (IsBack h k rings (lane_at e))) w.in-Some-came.is parts.1.came in
                let ended = w.end.ensures.ended h k rings back.joined in
                let lane : x.lane.0 ≡ lane_at e = ended.lane ∙ ap (λ (t : Sitting). (lane_of t.view).0) w.end.ensures.seat ∙ back.lane_is in
                let items = ap (λ (v : Vec Ended Global). v.items) w.ended-is ∙ w.in_ok-push.ensures.items in (
                  subst (All (IsEnded h k rings)) (sym items) (All-push (IsEnded h k rings) c.lanes.ended.items x was.1 ended),
                  ap (λ (es : List Ended). lanes_ended es ++ lanes_at c.pop.new.self.items) items ∙ ended_more c.lanes.ended.items x (lanes_at c.pop.new.self.items)
                      ∙ ap (λ (n : ℕ). lanes_ended c.lanes.ended.items ++ n ∷ lanes_at c.pop.new.self.items) lane ∙ ap (λ (ns : List ℕ). lanes_ended c.lanes.ended.items ++ ns) (sym lanes) ∙ was.2,
                ))
            | in_default-came w ↦ (let none : false ≡ true = subst (λ (o : Option Session). IsSome o) w.in_default-came.is come.1 in absurd cc)
          ] in (parts.0, rest.0, rest.1),
    )
