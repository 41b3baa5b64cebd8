use Rattle.zelamiku.proofs.Doors.{stays}
use Rattle.zelamiku.specs.SessionDoors.{LooksAt}
use Rattle.zelamiku.proofs.session_calls.look.Goals as goal

pub returns-in-Session-clause-told : goal.returns-in-Session-clause-told
returns-in-Session-clause-told c =
    let given = c.sight_given.ensures in
    stays (LooksAt c.args.object c.sight_given.result.0) _ _ _ _ c.in-Session.is c.look.ensures.heap
    (c.look.result, c.look.ensures.told, given.sight, given.status)
