use Rattle.std.proofs.Common.{ℕ, ◌≡◌, ◌+◌, ◌≤◌, ◌∷◌, ◌++◌, List, Option, Some, None, IfSome, option_to_list, [], length, ap, ◌∙◌, subst, arith}
use Rattle.std.proofs.lemmas.List.{length-append}
use Rattle.std.proofs.lemmas.List.Elements.{All-pop}
use Rattle.monitor.specs.Seats.{Home}
use Rattle.thread_heap.specs.Joined.{IsJoined}
use Rattle.session.specs.Sessions.{view_of}
use Rattle.std.specs.Arc.{arc_value}
use Rattle.host_heap.specs.Hosting.{Hosting, handed_out}
use Rattle.host_heap.specs.Lanes.{IsAwaitedBy, IsJoinedHere, IsNewHere}
use Rattle.host_heap.specs.Sessions.{Seated}
use Rattle.host_heap.specs.declared.lane_end.LaneEnd.{LaneEnd}
use Rattle.host_heap.proofs.Ends.{paired_popped, popped_awaited}
use Rattle.host_heap.proofs.heap.HostedHeap.session.Goals as goal

pub invariant_of-self : goal.invariant_of-self
invariant_of-self c =
    let was = c.self.invariant in
    let h : Home = arc_value c.self.inside.shared in
    let x = c.self.inside.helper in
    let unused : List Seated = c.self.inside.unused.items in
    let left : List Seated = c.pop.new.self.items in
    let lanes : List LaneEnd = c.self.inside.lanes.items in
    let popped : unused ≡ left ++ option_to_list c.pop.result = c.pop.ensures.items in
    let long : length unused ≡ length left + length (option_to_list c.pop.result) = ap (λ (l : List Seated). length l) popped ∙ length-append left (option_to_list c.pop.result) in
    let count : length unused ≤ length lanes = was.count in
    record {
      helping = was.helping;
      host = was.host;
      layout_is = was.layout_is;
      within = was.within;
      unused_are = (All-pop (IsNewHere h c.self.inside.stop.word) unused left c.pop.result popped was.unused_are).0;
      count = omega (arith, long, count);
      lanes_are = was.lanes_are;
      order = was.order;
      joined = (All-pop (IsJoinedHere h x.store.known.layout.capacity x.rings) unused left c.pop.result popped was.joined).0;
      paired = paired_popped unused left c.pop.result lanes popped count was.paired;
    }

pub returns-clause-out : goal.returns-clause-out
returns-clause-out c =
    let left = c.pop.new.self.items in
    let ends = c.self.inside.lanes.items in
    subst (λ (x : Hosting). IfSome c.pop.result (λ s. (end : LaneEnd) × (handed_out left ends ≡ end ∷ x.out) × IsAwaitedBy s end)) c.self.view_is
    (popped_awaited c.self.inside.unused.items left c.pop.result ends c.pop.ensures.items c.self.invariant.count c.self.invariant.paired)

pub returns-clause-joined : goal.returns-clause-joined
returns-clause-joined c =
    let h : Home = arc_value c.self.inside.shared in
    let x = c.self.inside.helper in
    subst (λ (v : Hosting). IfSome c.pop.result (λ s. IsJoined v.home v.helper.store.known.layout.capacity v.helper.rings s.session)) c.self.view_is
    (All-pop (IsJoinedHere h x.store.known.layout.capacity x.rings) c.self.inside.unused.items c.pop.new.self.items c.pop.result c.pop.ensures.items c.self.invariant.joined).1

-- a session of these words that was told nothing
untold_of : (h : Home) (word : ℕ) (o : Option Seated) → IfSome o (IsNewHere h word) → IfSome o (λ s. (view_of s.session).events ≡ [])
untold_of h word None is = tt
untold_of h word (Some s) is = is.untold

home_of : (h k : Home) (word : ℕ) (o : Option Seated) → h ≡ k → IfSome o (IsNewHere h word) → IfSome o (λ s. s.home ≡ k)
home_of h k word None same is = tt
home_of h k word (Some s) same is = is.home ∙ same

word_of : (h : Home) (word later : ℕ) (o : Option Seated) → word ≡ later → IfSome o (IsNewHere h word) → IfSome o (λ s. s.stop.word ≡ later)
word_of h word later None same is = tt
word_of h word later (Some s) same is = is.word_is ∙ same

pub returns-clause-untold : goal.returns-clause-untold
returns-clause-untold c =
    let h : Home = arc_value c.self.inside.shared in
    untold_of h c.self.inside.stop.word c.pop.result (All-pop (IsNewHere h c.self.inside.stop.word) c.self.inside.unused.items c.pop.new.self.items c.pop.result c.pop.ensures.items c.self.invariant.unused_are).1

pub returns-clause-home : goal.returns-clause-home
returns-clause-home c =
    let h : Home = arc_value c.self.inside.shared in
    home_of h c.args.self.now.home c.self.inside.stop.word c.pop.result (ap (λ (x : Hosting). x.home) c.self.view_is)
    (All-pop (IsNewHere h c.self.inside.stop.word) c.self.inside.unused.items c.pop.new.self.items c.pop.result c.pop.ensures.items c.self.invariant.unused_are).1

pub returns-clause-word : goal.returns-clause-word
returns-clause-word c =
    let h : Home = arc_value c.self.inside.shared in
    let word = c.self.inside.stop.word in
    word_of h word c.args.self.now.stop.word c.pop.result (ap (λ (x : Hosting). x.stop.word) c.self.view_is)
    (All-pop (IsNewHere h word) c.self.inside.unused.items c.pop.new.self.items c.pop.result c.pop.ensures.items c.self.invariant.unused_are).1
