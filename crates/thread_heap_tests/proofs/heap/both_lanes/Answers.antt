use Rattle.std.proofs.Common.{Some}
use Rattle.thread_heap_tests.proofs.Zips.{zip_first, zip_with}
use Rattle.thread_heap.specs.Joined.{IsJoined}
use Rattle.thread_heap.specs.Joined.{IsHelping}
use Rattle.thread_heap_tests.proofs.heap.both_lanes.Goals as goal

pub returns-in-Some-clause-first : goal.returns-in-Some-clause-first
returns-in-Some-clause-first g c = zip_with (λ o. IsJoined o.0.shared o.0.helper.store.known.layout.capacity o.0.helper.rings o.1.0) c.take_both-both.new.heap c.take_both-both.result (Some (c.in-Some.heap, c.in-Some.sessions)) c.in-Some.ensures c.take_both-both.ensures.first

pub returns-in-Some-clause-second : goal.returns-in-Some-clause-second
returns-in-Some-clause-second g c = zip_with (λ o. IsJoined o.0.shared o.0.helper.store.known.layout.capacity o.0.helper.rings o.1.1) c.take_both-both.new.heap c.take_both-both.result (Some (c.in-Some.heap, c.in-Some.sessions)) c.in-Some.ensures c.take_both-both.ensures.second

pub returns-in-Some-clause-helping : goal.returns-in-Some-clause-helping
returns-in-Some-clause-helping g c = zip_first (λ o. IsHelping g.D.Disk.device o.shared o.helper) (Some c.take_both-both.new.heap) c.take_both-both.result (Some (c.in-Some.heap, c.in-Some.sessions)) c.in-Some.ensures (c.take_both-both.ensures.helping c.requires.helping)
