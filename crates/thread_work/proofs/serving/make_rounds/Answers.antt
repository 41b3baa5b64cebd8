use Rattle.thread_work.proofs.Served.{crashes_then, lives_same, lives_then, stays, stays_on}
use Rattle.thread_work.proofs.Stopped.{round_since}
use Rattle.thread_work.proofs.serving.make_rounds.Goals as goal

pub loop-init : goal.loop-init
loop-init g c =
    let device = g.D.Disk.device in
    let x = c.args.helper.now in
    (tt, tt, c.requires.helping, stays device x, c.requires.running, lives_same device c.args.shared.now x)

pub returns-then-has_ended : goal.returns-then-has_ended
returns-then-has_ended g c = record {
  helping = c.loop.invariant.2;
  stayed = c.loop.invariant.3;
  running = c.loop.invariant.4;
  lives = c.loop.invariant.5;
  seen = tt;
  crashes = tt;
  cause = tt;
}

pub returns-in-Err : goal.returns-in-Err
returns-in-Err g c =
    let device = g.D.Disk.device in
    let h = c.args.shared.now in
    let x = c.args.helper.now in
    let y = c.loop.helper in
    let z = c.make_round.new.helper in
    let was = c.loop.invariant.3 in
    record {
      helping = c.in-Err.ensures.helping;
      stayed = stays_on device x y z was c.in-Err.ensures.stayed;
      running = tt;
      lives = tt;
      seen = c.in-Err.ensures.seen;
      crashes = crashes_then device h x y z c.loop.invariant.5 c.in-Err.ensures.crashes;
      cause = round_since (device x.store.disk) (device y.store.disk) (device z.store.disk) c.in-Err.refusal was.later c.in-Err.ensures.cause;
    }

pub loop-preserved : goal.loop-preserved
loop-preserved g c =
    let device = g.D.Disk.device in
    let x = c.args.helper.now in
    let y = c.loop.helper in
    let z = c.make_round.new.helper in (
      tt,
      tt,
      c.in-Ok.ensures.helping,
      stays_on device x y z c.loop.invariant.3 c.in-Ok.ensures.stayed,
      c.in-Ok.ensures.running,
      lives_then device c.args.shared.now x y z c.loop.invariant.5 c.in-Ok.ensures.lives,
    )
