use Rattle.std.proofs.lemmas.List.Elements.{All-pop}
use Rattle.thread_heap.specs.Joined.{IsJoined}
use Rattle.thread_heap_tests.proofs.heap.take_last.Goals as goal

pub returns-clause-session : goal.returns-clause-session
returns-clause-session g c =
    let o = c.args.heap.now in
    (All-pop (IsJoined o.shared o.helper.store.known.layout.capacity o.helper.rings) _ _ c.pop.result c.pop.ensures.items c.requires.joined).1

pub returns-clause-joined : goal.returns-clause-joined
returns-clause-joined g c =
    let o = c.args.heap.now in
    (All-pop (IsJoined o.shared o.helper.store.known.layout.capacity o.helper.rings) _ _ c.pop.result c.pop.ensures.items c.requires.joined).0

pub returns-clause-others : goal.returns-clause-others
returns-clause-others g c x joined = joined

pub returns-clause-helping : goal.returns-clause-helping
returns-clause-helping g c helping = helping
