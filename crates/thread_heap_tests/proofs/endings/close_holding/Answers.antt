use Rattle.std.proofs.lemmas.Option.{IfSome_then}
use Rattle.trim_helper.specs.Endings.{IsEnded}
use Rattle.thread_heap_tests.proofs.Lists.{all_of_two}
use Rattle.thread_heap_tests.proofs.endings.close_holding.Goals as goal

pub close_listed-requires-clause-ended : goal.close_listed-requires-clause-ended
close_listed-requires-clause-ended c =
    let h = c.args.heap in
    let k = h.helper.store.known.layout.capacity in
    let rings = h.helper.rings in
    IfSome_then c.both_of.result c.both_of.ensures.items (λ l e. all_of_two (IsEnded h.shared k rings) c.end_holding-held.result c.end.result l.items e (c.end_holding-held.ensures.ended k rings c.requires.first) (c.end.ensures.ended h.shared k rings c.requires.second))
