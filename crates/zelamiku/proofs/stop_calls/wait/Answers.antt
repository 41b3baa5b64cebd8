use Rattle.std.proofs.Common.{Ok, Err, refl, sym, ◌∙◌}
use Rattle.zelamiku.proofs.Stops.{seen_stop, unseen_stop}
use Rattle.zelamiku.specs.Handles.{session_held, waiting_held}
use Rattle.zelamiku.specs.SessionDoors.{WaitsFrom}
use Rattle.zelamiku.specs.declared.status.TheConstants.{OK}
use Rattle.zelamiku.proofs.stop_calls.wait.Goals as goal

pub returns-then-is_stopped : goal.returns-then-is_stopped
returns-then-is_stopped c =
    let u = c.is_stopped.new.self in
    let look = c.is_stopped.ensures in
    (u, look.looked, seen_stop u.stop.seen (session_held u) (WaitsFrom c.args.object u) (sym look.seen ∙ c.if-is_stopped.true))

pub returns-in-Ok : goal.returns-in-Ok
returns-in-Ok c =
    let u = c.is_stopped.new.self in
    let w = c.in-Ok.waiting in
    let look = c.is_stopped.ensures in (
      u,
      look.looked,
      unseen_stop u.stop.seen (session_held u) (WaitsFrom c.args.object u) (waiting_held w) OK (sym look.seen ∙ c.if-is_stopped.false)
          (Ok w, c.in-Ok.ensures.told, c.in-Ok.ensures.heap, (refl, refl)),
    )

pub returns-in-Err : goal.returns-in-Err
returns-in-Err c =
    let u = c.is_stopped.new.self in
    let s = c.in-Err.session in
    let look = c.is_stopped.ensures in (
      u,
      look.looked,
      unseen_stop u.stop.seen (session_held u) (WaitsFrom c.args.object u) (session_held s) c.of_session.result (sym look.seen ∙ c.if-is_stopped.false)
          (Err (s, c.in-Err.refusal), c.in-Err.ensures.told, c.in-Err.ensures.heap, (refl, c.of_session.ensures)),
    )
