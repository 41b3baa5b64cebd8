use Rattle.zelamiku.proofs.Doors.{stays}
use Rattle.zelamiku.specs.SessionDoors.{NotifiesAt}
use Rattle.zelamiku.proofs.session_calls.notify.Goals as goal

pub returns-in-Session-clause-told : goal.returns-in-Session-clause-told
returns-in-Session-clause-told c =
    stays (NotifiesAt c.args.object c.lane_given.result.0) _ _ _ _ c.in-Session.is c.notify.ensures.heap
    (c.notify.result, c.notify.ensures.told, c.lane_given.ensures.lane, c.lane_given.ensures.status)
