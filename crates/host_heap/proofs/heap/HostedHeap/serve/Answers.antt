use Rattle.std.proofs.Common.{◌≡◌, false, ap, sym, subst, ◌∙◌}
use Rattle.image_parts.specs.declared.layout.Layout.{Layout}
use Rattle.monitor.specs.Seats.{Home}
use Rattle.monitor.specs.Views.{GoesOn}
use Rattle.std.specs.Arc.{arc_value}
use Rattle.thread_steps.specs.Views.{plan}
use Rattle.trim_helper.specs.Calls.{HasGoneOn, RoundsUpTo, SharesUpTo}
use Rattle.trim_helper.specs.Heard.{HasSeen}
use Rattle.trim_helper.specs.Parts.{IsServing}
use Rattle.host_heap.specs.Hosting.{Hosting, hosted_device}
use Rattle.host_heap.proofs.Later.{ends_on, joined_on}
use Rattle.host_heap.proofs.heap.HostedHeap.serve.Goals as goal

pub invariant_of-self : goal.invariant_of-self
invariant_of-self c =
    let was = c.self.invariant in
    let h = arc_value c.self.inside.shared in
    let x = c.self.inside.helper in
    let y = c.bounded_round.new.self in
    let on : HasGoneOn h x y = subst (λ (k : Home). HasGoneOn k x y) c.deref.ensures c.bounded_round.ensures.goes_on in
    let past = was.helping.past in
    let capacity = ap (λ (l : Layout). l.capacity) on.layout in
    let rounds = (c.bounded_round.ensures.rounds (plan h) past was.helping.serving).works in
    record {
      helping = c.helping_law.ensures.round h past x y c.bounded_round.result was.helping on rounds;
      host = rounds.ran.shown.grows.name ∙ was.host;
      layout_is = was.layout_is ∙ sym on.layout;
      within = was.within;
      unused_are = was.unused_are;
      count = was.count;
      lanes_are = ends_on c.joined_law.ensures.rings h x.store.known.layout.capacity y.store.known.layout.capacity x.rings y.rings c.self.inside.lanes.items capacity on.rings was.lanes_are;
      order = was.order;
      joined = joined_on c.joined_law.ensures.rings h x.store.known.layout.capacity y.store.known.layout.capacity x.rings y.rings c.self.inside.unused.items capacity on.rings was.joined;
      paired = was.paired;
    }

pub returns-clause-serves : goal.returns-clause-serves
returns-clause-serves c = λ p serving.
    let h = arc_value c.self.inside.shared in
    subst (λ (x : Hosting). RoundsUpTo hosted_device c.args.most (plan x.home) p x.helper c.bounded_round.new.self c.bounded_round.result) c.self.view_is
    (c.bounded_round.ensures.rounds (plan h) p (subst (λ (x : Hosting). IsServing hosted_device x.helper (plan x.home) p) (sym c.self.view_is) serving))

pub returns-clause-kept : goal.returns-clause-kept
returns-clause-kept c =
    let view = c.self.view_is in
    record {
      home = ap (λ (k : Hosting). k.home) view;
      unused = ap (λ (k : Hosting). k.unused) view;
      out = ap (λ (k : Hosting). k.out) view;
      stop = ap (λ (k : Hosting). k.stop) view;
      layout = c.bounded_round.ensures.goes_on.layout ∙ ap (λ (k : Hosting). k.helper.store.known.layout) view;
      threads = c.bounded_round.ensures.goes_on.threads ∙ ap (λ (k : Hosting). k.helper.store.known.threads) view;
    }

pub returns-clause-heard : goal.returns-clause-heard
returns-clause-heard c =
    let x = c.self.inside.helper in
    let y = c.bounded_round.new.self in
    let view = c.self.view_is in
    let on : HasGoneOn (arc_value c.self.inside.shared) x y = subst (λ (k : Home). HasGoneOn k x y) c.deref.ensures c.bounded_round.ensures.goes_on in
    let seen : x.store.known.has_failed ≡ false → HasSeen (arc_value c.self.inside.shared) y = λ runs. subst (λ (k : Home). HasSeen k y) c.deref.ensures (c.bounded_round.ensures.seen runs) in
    record {
      goes_on = subst (λ (k : Hosting). HasGoneOn k.home k.helper y) view on;
      seen = subst (λ (k : Hosting). k.helper.store.known.has_failed ≡ false → HasSeen k.home y) view seen;
      later = subst (λ (k : Hosting). GoesOn y.seat.view.history k.helper.seat.view.history) view c.bounded_round.ensures.later;
    }

pub returns-clause-shares : goal.returns-clause-shares
returns-clause-shares c =
    subst (λ (x : Hosting). SharesUpTo hosted_device c.args.most x.helper c.bounded_round.new.self c.bounded_round.result) c.self.view_is c.bounded_round.ensures.shares
