use Rattle.thread_heap.proofs.Ending.{are_ended}
use Rattle.thread_heap.proofs.Meetings.{closed_from, closed_of, ok_more}
use Rattle.thread_heap.proofs.closing.close.Goals as goal

pub close_down-requires-clause-ended : goal.close_down-requires-clause-ended
close_down-requires-clause-ended g c = are_ended c.args.shared c.args.helper.store.known.layout.capacity c.args.helper.rings c.args.ended.items c.requires.ended

pub returns-clause-ok : goal.returns-clause-ok
returns-clause-ok g c =
    let x = c.args.helper in
    let was = c.requires.helper in
    ok_more _ _ c.close_down.result (λ disk down. closed_of c.args.shared x.store.known.layout c.args.ended.items was.past x.seat (g.D.Disk.device x.store.disk) (g.D.Disk.device disk) down) (c.close_down.ensures.closes was.past was.serving).ok

pub returns-clause-from : goal.returns-clause-from
returns-clause-from g c = λ p has.
    let x = c.args.helper in
    ok_more _ _ c.close_down.result
    (λ disk down. closed_from c.args.shared x.store.known.layout x.store.known.layout.capacity x.rings c.args.ended.items p x.seat (g.D.Disk.device x.store.disk) (g.D.Disk.device disk) c.requires.helper.rings c.requires.ended down)
    (c.close_down.ensures.closes p has).ok

pub returns-clause-closes : goal.returns-clause-closes
returns-clause-closes g c = λ p has. c.close_down.ensures.closes p has
