use Rattle.std.proofs.lemmas.Option.{IfSome_then}
use Rattle.thread_heap_tests.proofs.Zips.{zip_first, zip_second}
use Rattle.thread_heap_tests.proofs.heap.take_both.Goals as goal

pub returns-clause-first : goal.returns-clause-first
returns-clause-first g c = zip_first _ c.take_last-first.result c.take_last-second.result _ c.zip.ensures c.take_last-first.ensures.session

pub returns-clause-second : goal.returns-clause-second
returns-clause-second g c = zip_second _ c.take_last-first.result c.take_last-second.result _ c.zip.ensures (IfSome_then c.take_last-second.result c.take_last-second.ensures.session c.take_last-first.ensures.others)

pub returns-clause-helping : goal.returns-clause-helping
returns-clause-helping g c helping = c.take_last-first.ensures.helping (c.take_last-second.ensures.helping helping)
