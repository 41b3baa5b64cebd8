use Rattle.std.proofs.Common.{ℕ, ◌≡◌, ◌<◌, All, IfSome, IsSome, List, Option, Some, None, [], ◌∷◌, get_or, length, set, ap, refl, sym, ◌∙◌, subst}
use Rattle.std.proofs.lemmas.List.{get_or-set_same, length-set, set-set}
use Rattle.std.proofs.lemmas.List.Elements.{All-get_or, All-set}
use Rattle.monitor.specs.Seats.{Home}
use Rattle.session.specs.declared.session.Session.{Session}
use Rattle.std.specs.Arc.{arc_value}
use Rattle.trim_helper.specs.Endings.{Rings}
use Rattle.host_heap.specs.Lanes.{IsBack, IsLaneEnd, lane_at, lane_in, lanes_at}
use Rattle.host_heap.specs.declared.lane_end.LaneEnd.{LaneEnd}
use Rattle.host_heap.proofs.Ends.{lanes_at_set}
use Rattle.host_heap.proofs.Orders.{ends_more}
use Rattle.host_heap.proofs.again.hand_out_at.Goals as goal

end_at : (lanes : List LaneEnd) (place : ℕ) → place < length lanes → LaneEnd
end_at lanes place low = (ends_more lanes place low).0

-- the session that has come back at this end is joined, and of its lane
back_at : (h : Home) (k : ℕ) (rings : Rings) (l : LaneEnd) (s : Session) → IsLaneEnd h k rings l → l.came ≡ Some s → IsBack h k rings (lane_at l) s
back_at h k rings l s end came = subst (λ (o : Option Session). IfSome o (IsBack h k rings (lane_at l))) came end.came

pub unwrap-requires : goal.unwrap-requires
unwrap-requires c =
    let d : LaneEnd = end_at c.args.lanes.now.items c.args.place c.requires.place in
    let idle = c.requires.idle d in
    subst (λ (o : Option Session). IsSome o) (sym (c.take_at-came.ensures.came d ∙ idle.1)) refl

pub seat-session-requires-clause-of : goal.seat-session-requires-clause-of
seat-session-requires-clause-of c =
    let lanes = c.args.lanes.now.items in
    let d : LaneEnd = end_at lanes c.args.place c.requires.place in
    let ends = c.requires.ends in
    let h : Home = arc_value c.args.shared in
    let end : IsLaneEnd h ends.0 ends.1 (get_or lanes c.args.place d) = All-get_or (IsLaneEnd h ends.0 ends.1) lanes c.args.place d c.requires.place ends.2 in
    (back_at h ends.0 ends.1 (get_or lanes c.args.place d) c.unwrap.result end (sym (c.take_at-came.ensures.came d) ∙ c.unwrap.ensures)).joined.of

pub index_mut-requires : goal.index_mut-requires
index_mut-requires c =
    let lanes = c.args.lanes.now.items in
    let d : LaneEnd = end_at lanes c.args.place c.requires.place in
    let left : LaneEnd = record (get_or lanes c.args.place d) { came = None } in
    let long : length c.take_at-came.new.lanes.items ≡ length lanes = ap (λ (ls : List LaneEnd). length ls) (c.take_at-came.ensures.left d) ∙ length-set lanes c.args.place left in
    subst (λ (n : ℕ). c.args.place < n) (sym (c.take_at-came.new.lanes.ok.0 ∙ long)) c.requires.place

pub returns-clause-kept : goal.returns-clause-kept
returns-clause-kept c = λ h k rings all.
    let lanes = c.args.lanes.now.items in
    let place = c.args.place in
    let low = c.requires.place in
    let d : LaneEnd = end_at lanes place low in
    let s : Session = c.unwrap.result in
    let old : LaneEnd = get_or lanes place d in
    let left : LaneEnd = record old { came = None } in
    let end : LaneEnd = c.seat-session.result.1 in
    let seated = c.seat-session.ensures.end in
    let was : IsLaneEnd h k rings old = All-get_or (IsLaneEnd h k rings) lanes place d low all in
    let back : IsBack h k rings (lane_at old) s = back_at h k rings old s was (sym (c.take_at-came.ensures.came d) ∙ c.unwrap.ensures) in
    let fresh : IsLaneEnd h k rings end = record {
      first = (s, [], seated.0, back.joined);
      came = subst (λ (o : Option Session). IfSome o (IsBack h k rings (lane_at end))) (sym seated.1) tt;
    } in
    let same : lane_at end ≡ lane_at old = ap (λ (items : List Session). lane_in items) seated.0 ∙ back.lane_is in
    let taken : List LaneEnd = set lanes place left in
    let still : All (IsLaneEnd h k rings) taken = All-set (IsLaneEnd h k rings) lanes place left (record { first = was.first; came = tt }) all in
    let below : place < length taken = subst (λ (n : ℕ). place < n) (sym (length-set lanes place left)) low in
    subst (λ (ls : List LaneEnd). All (IsLaneEnd h k rings) (set ls place end) × (lanes_at (set ls place end) ≡ lanes_at lanes)) (sym (c.take_at-came.ensures.left d)) (
      All-set (IsLaneEnd h k rings) taken place end fresh still,
      lanes_at_set taken place end d (same ∙ ap (λ (l : LaneEnd). lane_at l) (sym (get_or-set_same lanes place left d low))) below ∙ lanes_at_set lanes place left d refl low,
    )

pub returns-clause-new : goal.returns-clause-new
returns-clause-new c =
    let lanes = c.args.lanes.now.items in
    let place = c.args.place in
    let d : LaneEnd = end_at lanes place c.requires.place in
    let left : LaneEnd = record (get_or lanes place d) { came = None } in
    let end : LaneEnd = c.seat-session.result.1 in (
      end,
      ap (λ (ls : List LaneEnd). set ls place end) (c.take_at-came.ensures.left d) ∙ set-set lanes place left end,
      record {
        ring = c.seat-session.ensures.ring;
        begins = c.seat-session.ensures.end.0 ∙ ap (λ (s : Session). s ∷ []) (sym c.seat-session.ensures.session.1);
        none = c.seat-session.ensures.end.1;
      },
    )
