use Rattle.std.proofs.Common.{ℕ, ◌≡◌, ◌+◌, ◌<◌, ◌≤◌, All, List, Some, [], ◌∷◌, ◌++◌, drop, length, set, get_or, ap, refl, sym, ◌∙◌, subst, arith}
use Rattle.std.proofs.lemmas.List.{drop-set-lt, length-set, length_push}
use Rattle.std.proofs.lemmas.List.Elements.{All-get_or, All-pop, All-set}
use Rattle.host_heap.specs.Lanes.{ArePaired, HasCome, IsBack, IsJoinedHere, IsLaneEnd, lane_at, lanes_at}
use Rattle.host_heap.specs.Sessions.{Seated}
use Rattle.host_heap.specs.declared.lane_end.LaneEnd.{LaneEnd}
use Rattle.host_heap.proofs.Ends.{all_set, lane_awaited, lanes_at_set, paired_last, paired_set}
use Rattle.host_heap.proofs.Orders.{ends_more}
use Rattle.host_heap.proofs.closing.bring_back.Goals as goal

pub sessions-init : goal.sessions-init
sessions-init c = (c.requires.count, c.requires.later, λ h k rings paired joined ends. (paired, joined, ends, refl), omega arith, refl)

pub sessions-preserved : goal.sessions-preserved
sessions-preserved c =
    let s : Seated = c.in-Some.session in
    let was = c.sessions.invariant in
    let left : List Seated = c.pop.new.self.items in
    let lanes : List LaneEnd = c.sessions.lanes.items in
    let place = c.len-place.result in
    let popped : c.sessions.unused.items ≡ left ++ s ∷ [] = c.in-Some.ensures.items in
    let here : place ≡ length left = c.len-place.ensures ∙ c.pop.new.self.ok.0 in
    let more : length c.sessions.unused.items ≡ length left + 1 = ap (λ (l : List Seated). length l) popped ∙ length_push left s in
    let room : length c.sessions.unused.items ≤ length lanes = was.0 in
    let all = length c.args.unused.now.items in
    let fewer : length c.sessions.unused.items ≤ all = was.3 in
    let low : place < length lanes = omega (arith, here, more, room) in
    let d : LaneEnd = (ends_more lanes place low).0 in
    let next : LaneEnd = record (get_or lanes place d) { came = Some s.session } in
    let is : c.bring_to.new.lanes.items ≡ set lanes place next = c.bring_to.ensures d in
    let long = length-set lanes place next in
    let behind : All HasCome (drop place (set lanes place next)) = all_set HasCome lanes (length c.sessions.unused.items) place next (omega (arith, more, here)) low was.1 refl in (
      subst (λ (ls : List LaneEnd). length left ≤ length ls) (sym is) (omega (arith, long, low, here)),
      subst (λ (ls : List LaneEnd). All HasCome (drop (length left) ls)) (sym is) (subst (λ (n : ℕ). All HasCome (drop n (set lanes place next))) here behind),
      λ h k rings paired joined ends.
          let gone = was.2 h k rings paired joined ends in
          let last = paired_last left s lanes d (subst (λ (l : List Seated). ArePaired l lanes) popped gone.0) in
          let parts = All-pop (IsJoinedHere h k rings) c.sessions.unused.items left (Some s) popped gone.1 in
          let old_end : IsLaneEnd h k rings (get_or lanes place d) = All-get_or (IsLaneEnd h k rings) lanes place d low gone.2 in
          let back : IsBack h k rings (lane_at (get_or lanes place d)) s.session = record { joined = parts.1; lane_is = lane_awaited s (get_or lanes (length left) d) last.0 ∙ ap (λ (n : ℕ). lane_at (get_or lanes n d)) (sym here) } in
          let end : IsLaneEnd h k rings next = record { first = old_end.first; came = back } in
          subst (λ (ls : List LaneEnd). ArePaired left ls × All (IsJoinedHere h k rings) left × All (IsLaneEnd h k rings) ls × (lanes_at ls ≡ lanes_at c.args.lanes.now.items)) (sym is) (
            paired_set left lanes place next (omega (arith, here)) last.1,
            parts.0,
            All-set (IsLaneEnd h k rings) lanes place next end gone.2,
            lanes_at_set lanes place next d refl low ∙ gone.3,
          ),
      omega (arith, more, fewer),
      ap (λ (ls : List LaneEnd). drop all ls) is ∙ drop-set-lt all lanes place next (omega (arith, here, more, fewer)) ∙ was.4,
    )

pub returns-clause-kept : goal.returns-clause-kept
returns-clause-kept c = λ h k rings paired joined ends. let gone = c.sessions.invariant.2 h k rings paired joined ends in (gone.2, gone.3)

pub returns-clause-others : goal.returns-clause-others
returns-clause-others c = c.sessions.invariant.4
