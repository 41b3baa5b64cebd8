use Rattle.std.proofs.Common.{Ok, Err, refl, sym, ◌∙◌}
use Rattle.zelamiku.proofs.Stops.{seen_stop, unseen_stop}
use Rattle.zelamiku.specs.Handles.{session_held, waiting_held}
use Rattle.zelamiku.specs.SessionDoors.{ResumesFrom}
use Rattle.zelamiku.specs.declared.status.TheConstants.{OK}
use Rattle.zelamiku.proofs.stop_calls.resume.Goals as goal

pub returns-then-is_stopped : goal.returns-then-is_stopped
returns-then-is_stopped c =
    let u = c.is_stopped.new.self in
    let look = c.is_stopped.ensures in
    (u, look.looked, seen_stop u.stop.seen (waiting_held u) (ResumesFrom u) (sym look.seen ∙ c.if-is_stopped.true))

pub returns-in-Ok : goal.returns-in-Ok
returns-in-Ok c =
    let u = c.is_stopped.new.self in
    let s = c.in-Ok.session in
    let look = c.is_stopped.ensures in (
      u,
      look.looked,
      unseen_stop u.stop.seen (waiting_held u) (ResumesFrom u) (session_held s) OK (sym look.seen ∙ c.if-is_stopped.false)
          (Ok s, c.in-Ok.ensures.told, c.in-Ok.ensures.heap, (refl, refl)),
    )

pub returns-in-Err : goal.returns-in-Err
returns-in-Err c =
    let u = c.is_stopped.new.self in
    let w = c.in-Err.waiting in
    let look = c.is_stopped.ensures in (
      u,
      look.looked,
      unseen_stop u.stop.seen (waiting_held u) (ResumesFrom u) (waiting_held w) c.of_still.result (sym look.seen ∙ c.if-is_stopped.false)
          (Err (w, c.in-Err.still), c.in-Err.ensures.told, c.in-Err.ensures.heap, (refl, c.of_still.ensures)),
    )
