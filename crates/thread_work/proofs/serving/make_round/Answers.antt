use Rattle.heap_model.specs.Past.{Past}
use Rattle.heap_model.specs.Setting.{Setting}
use Rattle.thread_steps.specs.Views.{plan}
use Rattle.trim_helper.specs.Calls.{Rounds}
use Rattle.trim_helper.specs.Heard.{HasSeen}
use Rattle.trim_helper.specs.Parts.{IsServing}
use Rattle.thread_heap.specs.Joined.{IsHelping}
use Rattle.thread_work.specs.Serving.{CrashesSince, LivesOn}
use Rattle.thread_work.proofs.Served.{crashes_since, lives_on, on_err, on_ok, runs_on}
use Rattle.thread_work.proofs.Stopped.{round_stops, worn_out}
use Rattle.thread_work.proofs.serving.make_round.Goals as goal

pub returns : goal.returns
returns g c =
    let device = g.D.Disk.device in
    let h = c.args.shared.now in
    let x = c.args.helper.now in
    let y = c.round.new.self in
    let was = c.requires.helping in
    let on = c.round.ensures.goes_on in
    let works : (s : Setting) (p : Past) → IsServing device x s p → Rounds device s p x y c.round.result = λ s p serving. (c.round.ensures.rounds s p serving).works in
    let round = works (plan h) was.past was.serving in
    let seen : HasSeen h y = c.round.ensures.seen c.requires.running in
    let helping : IsHelping device h y = c.helping_law.ensures.round h was.past x y c.round.result was on round in
    let running = runs_on device (plan h) was.past x y c.round.result round in
    let since : CrashesSince device h x y = crashes_since device h x y c.round.result on works seen c.round_law.ensures.opened in
    record {
      helping = helping;
      stayed = record { rings = on.rings; layout = on.layout; later = round.cause.later; sight = c.round.ensures.later };
      running = running;
      lives = on_ok c.round.result _ (LivesOn device h x y) (lives_on device h x y c.round.result on works seen c.life_law.ensures.round c.seen_law.ensures) running;
      seen = on_err c.round.result (HasSeen h y) seen;
      crashes = on_err c.round.result (CrashesSince device h x y) since;
      cause = round_stops (device x.store.disk) (device y.store.disk) x.store.known y.store.known c.round.result c.requires.running round.refused round.cause (worn_out device h y helping);
    }
