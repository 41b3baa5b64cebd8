use Rattle.std.proofs.Common.{refl}
use Rattle.zelamiku.proofs.Doors.{stays}
use Rattle.zelamiku.specs.SessionDoors.{ReadsStableAt}
use Rattle.zelamiku.proofs.session_calls.stable.Goals as goal

pub returns-in-Session-clause-told : goal.returns-in-Session-clause-told
returns-in-Session-clause-told c =
    stays (ReadsStableAt c.stable.result) _ _ _ _ c.in-Session.is c.stable.ensures.heap (refl, c.stable.ensures.told)
