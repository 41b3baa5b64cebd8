use Rattle.std.proofs.Common.{refl, sym, ◌∙◌}
use Rattle.zelamiku.proofs.Stops.{seen_stop, unseen_stop}
use Rattle.zelamiku.specs.Handles.{session_held}
use Rattle.zelamiku.specs.SessionDoors.{EntersAt, Stays}
use Rattle.zelamiku.proofs.stop_calls.enter.Goals as goal

pub returns-then-is_stopped : goal.returns-then-is_stopped
returns-then-is_stopped c =
    let u = c.is_stopped.new.self in
    let look = c.is_stopped.ensures in
    (u, look.looked, seen_stop u.stop.seen (session_held u) (Stays (EntersAt c.args.object) u) (sym look.seen ∙ c.if-is_stopped.true))

pub returns : goal.returns
returns c =
    let u = c.is_stopped.new.self in
    let t = c.try_enter.new.self in
    let look = c.is_stopped.ensures in (
      u,
      look.looked,
      unseen_stop u.stop.seen (session_held u) (Stays (EntersAt c.args.object) u) (session_held t) c.of_answer.result (sym look.seen ∙ c.if-is_stopped.false)
          (t, refl, c.try_enter.ensures.heap, (c.try_enter.result, c.try_enter.ensures.told, c.of_answer.ensures)),
    )
