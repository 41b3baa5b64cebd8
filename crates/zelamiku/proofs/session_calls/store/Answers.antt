use Rattle.zelamiku.proofs.Doors.{stays}
use Rattle.zelamiku.specs.SessionDoors.{StoresAt}
use Rattle.zelamiku.proofs.session_calls.store.Goals as goal

pub returns-in-Session : goal.returns-in-Session
returns-in-Session c = record { told = stays (StoresAt c.args.field c.args.value) _ _ _ _ c.in-Session.is c.store.ensures.heap (c.store.result, c.store.ensures.told, c.of_answer.ensures) }
