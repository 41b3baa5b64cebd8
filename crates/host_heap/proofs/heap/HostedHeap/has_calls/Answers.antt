use Rattle.host_heap.proofs.Meetings.{asked_all, asked_heap, asked_met}
use Rattle.host_heap.proofs.heap.HostedHeap.has_calls.Goals as goal

pub returns-clause-fetches : goal.returns-clause-fetches
returns-clause-fetches c =
    asked_all c.args.self.now.calls c.fetch.new.self.calls c.meet.new.self.calls c.are_left.new.self.calls c.fetch.ensures.fetches c.meet.ensures.calls c.are_left.ensures.calls

pub returns-clause-met : goal.returns-clause-met
returns-clause-met c = asked_met c.meet.new.self c.are_left.new.self c.meet.ensures.met c.are_left.ensures.heap c.are_left.ensures.calls

pub returns-clause-heap : goal.returns-clause-heap
returns-clause-heap c = asked_heap c.args.self.now c.fetch.new.self c.meet.new.self c.are_left.new.self c.fetch.ensures.heap c.meet.ensures.heap c.are_left.ensures.heap
