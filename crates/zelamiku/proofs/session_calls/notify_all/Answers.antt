use Rattle.zelamiku.proofs.Doors.{stays}
use Rattle.zelamiku.specs.SessionDoors.{NotifiesAllAt}
use Rattle.zelamiku.proofs.session_calls.notify_all.Goals as goal

pub returns-in-Session-clause-told : goal.returns-in-Session-clause-told
returns-in-Session-clause-told c =
    let given = c.lanes_given.ensures in
    stays (NotifiesAllAt c.args.object c.lanes_given.result.0) _ _ _ _ c.in-Session.is c.notify_all.ensures.heap
    (c.notify_all.result, c.notify_all.ensures.told, given.lanes, given.status)
