use Rattle.block_disk.specs.Memory.{device_of}
use Rattle.thread_heap.specs.Joined.{IsHelping}
use Rattle.thread_heap_tests.proofs.races.serve_until.Given as goal

abbrev pub invariant-loop : goal.invariant-loop
invariant-loop g l = IsHelping device_of l.shared l.helper
