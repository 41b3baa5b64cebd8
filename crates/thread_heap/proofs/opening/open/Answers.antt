use Rattle.std.proofs.Common.{◌≡◌, All, length, map, sym, ap, ◌∙◌, subst, arith}
use Rattle.image_parts.specs.declared.layout.Layout.{Layout}
use Rattle.monitor.specs.declared.view.Plan.{Plan}
use Rattle.monitor.specs.declared.view.View.{View}
use Rattle.thread_heap.specs.Joined.{HaveRoom, IsJoined}
use Rattle.session.specs.Logs.{rooms}
use Rattle.thread_steps.specs.Views.{plan}
use Rattle.heap_model.specs.Past.{no_past}
use Rattle.trim_helper.specs.Helping.{IsHelper, part_of, taken_in}
use Rattle.thread_heap.proofs.Beginnings.{all_joined, all_new, all_seen, have_room, ring_count, room_most, session_count, untaken}
use Rattle.thread_heap.proofs.opening.open.Goals as goal

pub new-helper-requires-clause-lanes : goal.new-helper-requires-clause-lanes
new-helper-requires-clause-lanes g c =
    let made = c.in-Ok-open_sessions.made in
    let threads = c.in-Ok.ensures.threads in
    let count = ring_count c.in-Ok.opened.shared (rooms c.args.ring c.layout-layout.result.capacity) c.args.threads c.in-Ok.opened.seats.items made.0.items made.1.items c.in-Ok.ensures.views c.in-Ok-open_sessions.ensures.opened in
    omega (arith, made.1.ok, count, threads)

pub new-helper-requires-clause-rooms : goal.new-helper-requires-clause-rooms
new-helper-requires-clause-rooms g c =
    let made = c.in-Ok-open_sessions.made in
    let most = room_most (rooms c.args.ring c.layout-layout.result.capacity) c.in-Ok.opened.shared.plan c.in-Ok.opened.seats.items made.0.items made.1.items c.in-Ok-open_sessions.ensures.opened in
    omega (arith, most, c.get-records.ensures.number, c.get-records.ensures.within.1)

pub new-helper-requires-clause-untaken : goal.new-helper-requires-clause-untaken
new-helper-requires-clause-untaken g c =
    let made = c.in-Ok-open_sessions.made in
    untaken (rooms c.args.ring c.layout-layout.result.capacity) c.in-Ok.opened.shared.plan c.in-Ok.opened.seats.items made.0.items made.1.items c.in-Ok-open_sessions.ensures.opened

pub new-helper-requires-clause-sees : goal.new-helper-requires-clause-sees
new-helper-requires-clause-sees g c =
    let made = c.in-Ok-open_sessions.made in
    let h = c.in-Ok.opened.shared in
    let of = c.in-Ok.ensures.helper.of in
    all_seen h (rooms c.args.ring c.layout-layout.result.capacity) c.args.threads c.in-Ok.opened.seats.items made.0.items made.1.items c.in-Ok.ensures.views c.in-Ok-open_sessions.ensures.opened c.in-Ok.opened.seat of.0 of.1 c.in-Ok.ensures.seats

pub new-helper-requires-clause-silent : goal.new-helper-requires-clause-silent
new-helper-requires-clause-silent g c = ap (λ (v : View). v.notes) c.in-Ok.ensures.silent

pub returns-clause-opened : goal.returns-clause-opened
returns-clause-opened g c =
    let made = c.in-Ok-open_sessions.made in
    let h = c.in-Ok.opened.shared in
    let was = c.in-Ok.ensures in
    let parts = c.new-helper.ensures.parts in
    let opened = c.in-Ok-open_sessions.ensures.opened in
    let room = rooms c.args.ring c.layout-layout.result.capacity in
    let seats = c.in-Ok.opened.seats.items in
    let lanes : h.plan.lanes ≡ c.args.threads = ap (λ (k : Plan). k.lanes) was.plan in
    let count = ring_count h room c.args.threads seats made.0.items made.1.items was.views opened in
    record {
      plan_is = was.plan;
      joined = subst (λ rings. All (IsJoined h c.args.recovered.layout.capacity rings) made.0.items) (sym parts.1)
          (subst (λ (l : Layout). All (IsJoined h l.capacity made.1.items) made.0.items) c.layout-layout.ensures.layout
          (all_joined h room c.args.threads seats made.0.items made.1.items was.views opened c.in-Ok-open_sessions.ensures.heap));
      rings = subst (λ rings. HaveRoom c.args.ring rings) (sym parts.1) (have_room room h.plan seats made.0.items made.1.items opened);
      fresh = all_new h room c.args.threads seats made.0.items made.1.items was.views opened;
      count = session_count h room c.args.threads seats made.0.items made.1.items was.views opened;
      lanes = ap (λ s. s.known.threads) parts.0 ∙ was.threads;
      helping = record {
        seat = subst (λ s. IsHelper h s) (sym parts.2) was.helper;
        lanes = lanes ∙ sym was.threads ∙ ap (λ s. s.known.threads) (sym parts.0);
        rings = ap (λ r. length r) parts.1 ∙ count ∙ sym lanes;
        nobody = ap (λ s. taken_in s) parts.2 ∙ ap (λ v. map part_of v.gathered) was.silent;
        past = no_past;
        serving = c.new-helper.ensures.serves (plan h) was.past;
      };
      past = c.new-helper.ensures.serves (plan h) was.past;
      running = ap (λ s. s.known.has_failed) parts.0 ∙ was.running;
      settled = c.new-helper.ensures.settled;
      layout = ap (λ s. s.known.layout) parts.0 ∙ was.layout;
      disk = ap (λ s. s.disk) parts.0 ∙ was.disk;
    }
