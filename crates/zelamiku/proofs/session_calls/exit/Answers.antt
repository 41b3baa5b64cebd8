use Rattle.zelamiku.proofs.Doors.{stays}
use Rattle.zelamiku.specs.SessionDoors.{ExitsAt}
use Rattle.zelamiku.proofs.session_calls.exit.Goals as goal

pub returns-in-Session : goal.returns-in-Session
returns-in-Session c = record { told = stays (ExitsAt c.args.object) _ _ _ _ c.in-Session.is c.exit.ensures.heap (c.exit.result, c.exit.ensures.told, c.of_answer.ensures) }
