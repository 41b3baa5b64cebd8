use Rattle.std.proofs.lemmas.Option.{IfSome_then}
use Rattle.trim_helper.specs.Endings.{IsEnded}
use Rattle.thread_heap_tests.proofs.Lists.{all_of_one}
use Rattle.thread_heap_tests.proofs.endings.close_one.Goals as goal

pub close_listed-requires-clause-ended : goal.close_listed-requires-clause-ended
close_listed-requires-clause-ended c =
    let h = c.args.heap in
    let k = h.helper.store.known.layout.capacity in
    let rings = h.helper.rings in
    IfSome_then c.one_of.result c.one_of.ensures.items (λ l e. all_of_one (IsEnded h.shared k rings) c.end.result l.items e (c.end.ensures.ended h.shared k rings c.requires.only))
