use Rattle.std.proofs.Common.{ℕ, ◌≡◌, ◌≤◌, ◌+◌, All, length, ap, refl, sym, ◌∙◌, subst, arith}
use Rattle.std.proofs.lemmas.List.{drop_all}
use Rattle.std.proofs.lemmas.List.Elements.{All-weaker}
use Rattle.disk_deferred.specs.Deferred.{Deferred}
use Rattle.disk_deferred.specs.Host.{IsHostOf}
use Rattle.image_parts.specs.declared.layout.Layout.{Layout}
use Rattle.heap_model.specs.declared.limits.TheConstants.{LAST_NUMBER}
use Rattle.monitor.specs.Seats.{Home}
use Rattle.monitor.specs.declared.view.Plan.{Plan}
use Rattle.thread_heap.specs.Joined.{IsHelping, IsJoined}
use Rattle.session.specs.Sessions.{IsSessionOf}
use Rattle.std.specs.List.{range_with_len}
use Rattle.thread_steps.specs.Views.{plan}
use Rattle.heap_model.specs.Past.{no_past}
use Rattle.trim_helper.specs.Parts.{IsServing}
use Rattle.host_heap.specs.Hosting.{hosted_device}
use Rattle.host_heap.specs.Lanes.{AreNewHere, IsJoinedHere, IsLaneEnd}
use Rattle.host_heap.specs.Opening.{threads_of}
use Rattle.host_heap.proofs.opening.begin.Goals as goal

-- an image has a lane, so a thread has one
pub open-requires-clause-some : goal.open-requires-clause-some
open-requires-clause-some c = c.threads_among-threads.ensures.some c.layout-layout.ensures.recovered.image.header.limits.lanes.0

pub open-requires-clause-within : goal.open-requires-clause-within
open-requires-clause-within c = subst (λ (l : Layout). c.threads_among-threads.result ≤ l.lanes) c.layout-layout.ensures.layout c.threads_among-threads.ensures.within

pub open-requires-clause-most : goal.open-requires-clause-most
open-requires-clause-most c = subst (λ (l : Layout). l.lanes ≤ c.threads_among-threads.result + 1) c.layout-layout.ensures.layout c.threads_among-threads.ensures.most

pub seat_all-requires-clause-of : goal.seat_all-requires-clause-of
seat_all-requires-clause-of c =
    let x = c.in-Ok.heap in
    All-weaker (IsJoined x.shared c.args.recovered.layout.capacity x.helper.rings) (IsSessionOf x.shared) (λ s joined. joined.of) x.sessions.items c.in-Ok.ensures.opened.joined

pub seat_all-requires-clause-fresh : goal.seat_all-requires-clause-fresh
seat_all-requires-clause-fresh c = c.in-Ok.ensures.opened.fresh

pub invariant_of-result : goal.invariant_of-result
invariant_of-result c =
    let x = c.in-Ok.heap in
    let k = x.helper.store.known.layout.capacity in
    let rings = x.helper.rings in
    let same = sym c.in-Ok-seat_all.ensures.home in
    let seated = c.in-Ok-seat_all.ensures.seated in
    let each = seated.joined k rings (subst (λ (l : Layout). All (IsJoined x.shared l.capacity rings) x.sessions.items) (sym c.in-Ok.ensures.opened.layout) c.in-Ok.ensures.opened.joined) in
    record {
      helping = subst (λ (h : Home). IsHelping hosted_device h x.helper) same c.in-Ok.ensures.opened.helping;
      host = subst (λ (d : Deferred). IsHostOf d c.args.calls) (sym c.in-Ok.ensures.opened.disk) c.requires.host;
      layout_is = c.layout-layout.ensures.layout ∙ sym c.in-Ok.ensures.opened.layout;
      within = c.layout-layout.ensures.recovered.image.header.limits;
      unused_are = subst (λ (h : Home). AreNewHere h c.in-Ok-seat_all.stop.word c.in-Ok-seat_all.unused.items) same seated.homes;
      count = (let count = seated.count in omega (arith, count));
      lanes_are = subst (λ (h : Home). All (IsLaneEnd h k rings) c.in-Ok-seat_all.lanes.items) same each.0;
      order = seated.ends_at ∙ c.in-Ok-seat_all.ensures.in_order ∙ ap (λ (n : ℕ). range_with_len 0 n) c.in-Ok.ensures.opened.count
          ∙ ap (λ (k : Plan). range_with_len 0 k.lanes) (sym (ap (λ (h : Home). h.plan) c.in-Ok-seat_all.ensures.home ∙ c.in-Ok.ensures.opened.plan_is));
      joined = subst (λ (h : Home). All (IsJoinedHere h k rings) c.in-Ok-seat_all.unused.items) same each.1;
      paired = seated.paired;
    }

pub returns-in-Ok-seat_all : goal.returns-in-Ok-seat_all
returns-in-Ok-seat_all c =
    let x = c.in-Ok.heap in
    let same = c.in-Ok-seat_all.ensures.home in
    let threads : c.threads_among-threads.result ≡ threads_of c.args.recovered.layout.lanes c.args.wanted = c.threads_among-threads.ensures.threads ∙ ap (λ (l : Layout). threads_of l.lanes c.args.wanted) c.layout-layout.ensures.layout in
    record {
      begun = record {
        plan_is = ap (λ (h : Home). h.plan) same ∙ c.in-Ok.ensures.opened.plan_is ∙ (λ i. record { schema = c.args.schema; first = c.args.recovered.heap; last = LAST_NUMBER; lanes = threads i });
        threads_are = c.in-Ok.ensures.opened.lanes ∙ threads;
        layout_is = c.in-Ok.ensures.opened.layout;
        disk_is = c.in-Ok.ensures.opened.disk;
        host = subst (λ (d : Deferred). IsHostOf d c.args.calls) (sym c.in-Ok.ensures.opened.disk) c.requires.host;
        running = c.in-Ok.ensures.opened.running;
        settled = c.in-Ok.ensures.opened.settled;
        untold = subst (λ (h : Home). IsServing hosted_device x.helper (plan h) no_past) (sym same) c.in-Ok.ensures.opened.past;
        unmade = c.requires.calls.0;
        none_left = c.requires.calls.1;
        unused = c.in-Ok-seat_all.ensures.in_order ∙ ap (λ (n : ℕ). range_with_len 0 n) (c.in-Ok.ensures.opened.count ∙ threads);
        unstopped = c.in-Ok-seat_all.ensures.unstopped;
        none_out = drop_all (length c.in-Ok-seat_all.unused.items) c.in-Ok-seat_all.lanes.items (let count = c.in-Ok-seat_all.ensures.seated.count in omega (arith, count));
      };
      rings = c.in-Ok.ensures.opened.rings;
      calls = refl;
    }
