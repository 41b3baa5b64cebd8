use Rattle.std.proofs.Common.{All, Some}
use Rattle.block_disk.specs.Memory.{device_of}
use Rattle.thread_heap.specs.Joined.{IsHelping}
use Rattle.trim_helper.specs.Endings.{IsEnded}
use Rattle.thread_heap_tests.proofs.Zips.{zip_first, zip_with}
use Rattle.thread_heap_tests.proofs.endings.close_listed.Goals as goal

pub close_with-requires-clause-helper : goal.close_with-requires-clause-helper
close_with-requires-clause-helper c = zip_first (λ h. IsHelping device_of h.shared h.helper) (Some c.args.heap) c.args.list (Some (c.in-Some.heap, c.in-Some.ended)) c.in-Some.ensures c.requires.helper

pub close_with-requires-clause-ended : goal.close_with-requires-clause-ended
close_with-requires-clause-ended c = zip_with (λ p. All (IsEnded p.0.shared p.0.helper.store.known.layout.capacity p.0.helper.rings) p.1.items) c.args.heap c.args.list (Some (c.in-Some.heap, c.in-Some.ended)) c.in-Some.ensures c.requires.ended
