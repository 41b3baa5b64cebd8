use Rattle.std.proofs.Common.{All, List, sym, subst}
use Rattle.host_heap.specs.Lanes.{HasCome}
use Rattle.host_heap.specs.declared.lane_end.LaneEnd.{LaneEnd}
use Rattle.host_heap.proofs.Closings.{not_closed}
use Rattle.host_heap.proofs.heap.HostedHeap.close.Goals as goal

pub end_unused-requires : goal.end_unused-requires
end_unused-requires c = subst (λ (ends : List LaneEnd). All HasCome ends) (sym c.has_room.ensures.heap.out) (c.has_all.ensures.came c.if-not-has_all.false)

pub finish-requires-clause-came : goal.finish-requires-clause-came
finish-requires-clause-came c = c.end_unused.ensures.without.0.came

pub returns-clause-refused : goal.returns-clause-refused
returns-clause-refused c = not_closed c.args.self c.has_all.new.self c.has_room.new.self c.end_unused.new.self c.finish.result c.has_all.ensures.same.0 c.has_all.ensures.same.1 c.has_room.ensures.heap
    c.has_room.ensures.calls c.end_unused.ensures.without.0 c.end_unused.ensures.without.1 c.finish.ensures.refused
