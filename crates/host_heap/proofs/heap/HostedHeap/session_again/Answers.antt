use Rattle.std.proofs.Common.{ℕ, ◌≡◌, ◌+◌, ◌-◌, ◌<◌, ◌≤◌, All, IfNone, IfSome, List, Option, Some, drop, get_or, length, set, take, ap, sym, ◌∙◌, subst, arith}
use Rattle.std.proofs.lemmas.List.{drop-set-add, get_or-drop, length-drop, length-set, take-set-le}
use Rattle.std.proofs.lemmas.List.Elements.{All-get_or}
use Rattle.monitor.specs.Seats.{Home}
use Rattle.thread_heap.specs.Joined.{IsJoined}
use Rattle.session.specs.Logs.{held_count}
use Rattle.session.specs.Sessions.{view_of}
use Rattle.session.specs.declared.session.Session.{Session}
use Rattle.std.specs.Arc.{arc_value}
use Rattle.trim_helper.specs.Endings.{Rings}
use Rattle.host_heap.specs.Again.{LetsGo}
use Rattle.host_heap.specs.Hosting.{Hosting, handed_out}
use Rattle.host_heap.specs.Lanes.{AreNewHere, IsAwaitedBy, IsBack, IsIdle, IsLaneEnd, IsTaken, KeepCome, lane_at}
use Rattle.host_heap.specs.Sessions.{Seated}
use Rattle.host_heap.specs.Stopping.{Stopping}
use Rattle.host_heap.specs.declared.lane_end.LaneEnd.{LaneEnd}
use Rattle.host_heap.proofs.Coming.{come_from}
use Rattle.host_heap.proofs.Ends.{paired_kept}
use Rattle.host_heap.proofs.Orders.{ends_more}
use Rattle.host_heap.proofs.heap.HostedHeap.session_again.Goals as goal

-- the session that has come back here holds nothing
idle_of : (l : LaneEnd) (s : Session) → IsIdle l → l.came ≡ Some s → held_count (view_of s) ≡ 0
idle_of l s idle came = subst (λ (o : Option Session). IfSome o (λ t. held_count (view_of t) ≡ 0)) (sym idle.1 ∙ came) idle.2

-- and is joined
joined_of : (h : Home) (k : ℕ) (rings : Rings) (l : LaneEnd) (s : Session) → IsLaneEnd h k rings l → l.came ≡ Some s → IsJoined h k rings s
joined_of h k rings l s end came = (subst (λ (o : Option Session). IfSome o (IsBack h k rings (lane_at l))) came end.came).joined

pub invariant_of-self-in_default : goal.invariant_of-self-in_default
invariant_of-self-in_default c =
    let was = c.self.invariant in
    let old : List LaneEnd = c.self.inside.lanes.items in
    let new : List LaneEnd = c.find_idle.new.lanes.items in
    let first : c.len-first.result ≡ length c.self.inside.unused.items = c.len-first.ensures ∙ c.self.inside.unused.ok.0 in
    let h : Home = arc_value c.self.inside.shared in
    let x = c.self.inside.helper in
    let word = sym (ap (λ (s : Stopping). s.word) c.outfit.ensures.same) in
    let kept = c.find_idle.ensures.kept h x.store.known.layout.capacity x.rings was.lanes_are in
    record {
      helping = was.helping;
      host = was.host;
      layout_is = was.layout_is;
      within = was.within;
      unused_are = subst (λ (n : ℕ). AreNewHere h n c.self.inside.unused.items) word was.unused_are;
      count = (let few = was.count in let same = c.find_idle.ensures.count in omega (arith, few, same));
      lanes_are = kept.0;
      order = kept.1 ∙ was.order;
      joined = was.joined;
      paired = paired_kept c.self.inside.unused.items old new (subst (λ (n : ℕ). take n new ≡ take n old) first c.find_idle.ensures.front) was.paired;
    }

pub returns-in_default-clause-again : goal.returns-in_default-clause-again
returns-in_default-clause-again c =
    let unused = c.self.inside.unused.items in
    let first : c.len-first.result ≡ length unused = c.len-first.ensures ∙ c.self.inside.unused.ok.0 in
    let lanes : List LaneEnd = c.find_idle.new.lanes.items in
    let none : All IsTaken (drop c.len-first.result lanes) = subst (λ (o : Option ℕ). IfNone o (All IsTaken (drop c.len-first.result lanes))) c.in_default.is c.find_idle.ensures.none in
    record {
      taken = subst (λ (n : ℕ). All IsTaken (drop n lanes)) first none;
      quietly = record {
        goes_on = record {
          home = ap (λ (v : Hosting). v.home) c.self.view_is;
          helper = ap (λ (v : Hosting). v.helper) c.self.view_is;
          unused = ap (λ (v : Hosting). v.unused) c.self.view_is;
          out = subst (λ (v : Hosting). KeepCome v.out (handed_out unused lanes)) c.self.view_is (come_from (length unused) c.self.inside.lanes.items lanes c.find_idle.ensures.come);
          stop = c.outfit.ensures.same ∙ ap (λ (v : Hosting). v.stop) c.self.view_is;
        };
        calls = ap (λ (v : Hosting). v.calls) c.self.view_is;
      };
    }

pub hand_out_at-session-requires-clause-ends : goal.hand_out_at-session-requires-clause-ends
hand_out_at-session-requires-clause-ends c =
    let h : Home = arc_value c.self.inside.shared in
    let x = c.self.inside.helper in
    let k = x.store.known.layout.capacity in
    let kept = c.find_idle.ensures.kept h k x.rings c.self.invariant.lanes_are in
    (k, x.rings, subst (λ (g : Home). All (IsLaneEnd g k x.rings) c.find_idle.new.lanes.items) (sym c.in_ok-shared.ensures.home) kept.0)

pub invariant_of-self-2 : goal.invariant_of-self-2
invariant_of-self-2 c =
    let was = c.self.invariant in
    let old : List LaneEnd = c.self.inside.lanes.items in
    let new : List LaneEnd = c.find_idle.new.lanes.items in
    let first : c.len-first.result ≡ length c.self.inside.unused.items = c.len-first.ensures ∙ c.self.inside.unused.ok.0 in
    let n = length c.self.inside.unused.items in
    let place = c.in-Some.place in
    let handed = c.hand_out_at-session.ensures.new in
    let h : Home = arc_value c.self.inside.shared in
    let x = c.self.inside.helper in
    let k = x.store.known.layout.capacity in
    let word = sym (ap (λ (s : Stopping). s.word) c.outfit.ensures.same) in
    let kept = c.find_idle.ensures.kept h k x.rings was.lanes_are in
    let later = c.hand_out_at-session.ensures.kept h k x.rings kept.0 in
    let long = ap (λ (ls : List LaneEnd). length ls) handed.1 ∙ length-set new place handed.0 ∙ c.find_idle.ensures.count in
    record {
      helping = was.helping;
      host = was.host;
      layout_is = was.layout_is;
      within = was.within;
      unused_are = subst (λ (n : ℕ). AreNewHere h n c.self.inside.unused.items) word was.unused_are;
      count = (let few = was.count in omega (arith, few, long));
      lanes_are = later.0;
      order = later.1 ∙ kept.1 ∙ was.order;
      joined = was.joined;
      paired = paired_kept c.self.inside.unused.items old c.hand_out_at-session.new.lanes.items
          (ap (λ (ls : List LaneEnd). take n ls) handed.1 ∙ take-set-le n new place handed.0 (subst (λ (m : ℕ). m ≤ place) first c.in-Some.ensures.place.0) ∙ subst (λ (m : ℕ). take m new ≡ take m old) first c.find_idle.ensures.front) was.paired;
    }

-- the end at this place, behind the sessions that weren't handed out
out_at : (n place : ℕ) (old new : List LaneEnd) (s : Seated) → n ≤ place → place < length old → ((d : LaneEnd) → (get_or old place d).came ≡ Some s.session)
    → (end : LaneEnd) × (new ≡ set old place end) × IsAwaitedBy s end → LetsGo (drop n old) (drop n new) s
out_at n place old new s low high came fresh =
    let at : n + (place - n) ≡ place = omega (arith, low) in
    let long = length-drop n old in
    record {
      place = place - n;
      low = omega (arith, low, high, long);
      came = λ d. ap (λ (l : LaneEnd). l.came) (get_or-drop n old (place - n) d ∙ ap (λ (i : ℕ). get_or old i d) at) ∙ came d;
      end = fresh.0;
      awaited = fresh.2;
      others = ap (λ (ends : List LaneEnd). drop n ends) (fresh.1 ∙ ap (λ (i : ℕ). set old i fresh.0) (sym at)) ∙ drop-set-add n old (place - n) fresh.0;
    }

pub returns-clause-again : goal.returns-clause-again
returns-clause-again c =
    let h : Home = arc_value c.self.inside.shared in
    let x = c.self.inside.helper in
    let k = x.store.known.layout.capacity in
    let unused = c.self.inside.unused.items in
    let first : c.len-first.result ≡ length unused = c.len-first.ensures ∙ c.self.inside.unused.ok.0 in
    let lanes : List LaneEnd = c.find_idle.new.lanes.items in
    let place = c.in-Some.place in
    let s : Session = c.hand_out_at-session.result.session in
    let high : place < length lanes = c.in-Some.ensures.place.1 in
    let d : LaneEnd = (ends_more lanes place high).0 in
    let handed = c.hand_out_at-session.ensures in
    let kept = c.find_idle.ensures.kept h k x.rings c.self.invariant.lanes_are in
    let end : IsLaneEnd h k x.rings (get_or lanes place d) = All-get_or (IsLaneEnd h k x.rings) lanes place d high kept.0 in
    record {
      home = handed.home ∙ c.in_ok-shared.ensures.home ∙ ap (λ (v : Hosting). v.home) c.self.view_is;
      word = ap (λ (t : Stopping). t.word) (handed.stop ∙ c.in_ok-shared.ensures.word ∙ ap (λ (v : Hosting). v.stop) c.self.view_is);
      joined = subst (λ (v : Hosting). IsJoined v.home v.helper.store.known.layout.capacity v.helper.rings s) c.self.view_is (joined_of h k x.rings (get_or lanes place d) s end (handed.session d));
      idle = idle_of (get_or lanes place d) s (c.in-Some.ensures.idle d) (handed.session d);
      seen = handed_out unused lanes;
      quietly = record {
        goes_on = record {
          home = ap (λ (v : Hosting). v.home) c.self.view_is;
          helper = ap (λ (v : Hosting). v.helper) c.self.view_is;
          unused = ap (λ (v : Hosting). v.unused) c.self.view_is;
          out = subst (λ (v : Hosting). KeepCome v.out (handed_out unused lanes)) c.self.view_is (come_from (length unused) c.self.inside.lanes.items lanes c.find_idle.ensures.come);
          stop = c.outfit.ensures.same ∙ ap (λ (v : Hosting). v.stop) c.self.view_is;
        };
        calls = ap (λ (v : Hosting). v.calls) c.self.view_is;
      };
      out = out_at (length unused) place lanes c.hand_out_at-session.new.lanes.items c.hand_out_at-session.result (subst (λ (n : ℕ). n ≤ place) first c.in-Some.ensures.place.0) high handed.session handed.new;
    }
