use Rattle.std.proofs.Common.{Some}
use Rattle.thread_heap.specs.Joined.{IsJoined}
use Rattle.thread_heap_tests.proofs.Zips.{zip_first, zip_with}
use Rattle.thread_heap_tests.proofs.heap.only_lane.Goals as goal

pub returns-clause-joined : goal.returns-clause-joined
returns-clause-joined g c = zip_with (λ o. IsJoined o.0.shared o.0.helper.store.known.layout.capacity o.0.helper.rings o.1) _ _ _ c.zip.ensures c.take_last-session.ensures.session

pub returns-clause-helping : goal.returns-clause-helping
returns-clause-helping g c = zip_first _ (Some c.take_last-session.new.heap) c.take_last-session.result _ c.zip.ensures (c.take_last-session.ensures.helping c.requires.helping)
