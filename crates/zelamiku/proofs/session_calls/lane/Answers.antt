use Rattle.std.proofs.Common.{◌∙◌, ap, refl}
use Rattle.heap_model.specs.declared.ids.Lane.{Lane}
use Rattle.zelamiku.specs.SessionDoors.{TellsLaneAt}
use Rattle.zelamiku.proofs.Doors.{stays, stays_put}
use Rattle.zelamiku.proofs.session_calls.lane.Goals as goal

pub returns-in-Session-clause-told : goal.returns-in-Session-clause-told
returns-in-Session-clause-told c =
    let lane_is = c.from.ensures ∙ ap (λ (l : Lane). l.0) c.lane.ensures in
    stays (TellsLaneAt c.from.result c.sections.result) _ _ _ _ c.in-Session.is (stays_put _) (record { lane_is = lane_is; ended = c.sections.ensures; same = refl; ok = refl })
