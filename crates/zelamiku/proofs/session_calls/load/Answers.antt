use Rattle.zelamiku.proofs.Doors.{stays}
use Rattle.zelamiku.specs.SessionDoors.{LoadsAt}
use Rattle.zelamiku.proofs.session_calls.load.Goals as goal

pub returns-in-Session-clause-told : goal.returns-in-Session-clause-told
returns-in-Session-clause-told c =
    stays (LoadsAt c.args.field c.value_given.result.0) _ _ _ _ c.in-Session.is c.load.ensures.heap
    (c.load.result, c.load.ensures.told, c.value_given.ensures.value, c.value_given.ensures.status)
