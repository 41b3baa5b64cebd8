use Rattle.std.proofs.Common.{◌∙◌}
use Rattle.trim_helper.specs.declared.ended.Ended.{Ended}
use Rattle.thread_heap.proofs.Ending.{ended_of}
use Rattle.thread_heap.proofs.closing.end.Goals as goal

pub returns-clause-ended : goal.returns-clause-ended
returns-clause-ended c = λ h k rings joined.
    let s = c.into_parts-seat.result in
    let told = c.into_parts-seat.ensures in
    let ends = c.finish-ended.ensures in
    let e : Ended = record { seat = s.0; lane = c.lane-lane.result; held = s.3; producer = s.1 } in
    ended_of h k rings c.args.session e s.2 joined (told.parts.seat ∙ ends.seat) (told.parts.ring ∙ ends.ring) (told.parts.capacity ∙ ends.capacity) c.lane-lane.ensures.lane told.all_sent told.held told.limits told.began
