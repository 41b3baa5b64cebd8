use Rattle.block_disk.specs.Memory.{device_of}
use Rattle.thread_heap.specs.Joined.{IsHelping}
use Rattle.session.specs.Sessions.{IsSessionOf}
use Rattle.thread_heap_tests.proofs.syncs.add_and_serve.Given as goal

abbrev pub invariant-loop : goal.invariant-loop
invariant-loop g l = IsSessionOf l.shared l.session × IsHelping (λ d. device_of d.disk) l.shared l.helper

abbrev pub invariant-loop-2 : goal.invariant-loop-2
invariant-loop-2 g l = IsHelping (λ d. device_of d.disk) l.shared l.helper
