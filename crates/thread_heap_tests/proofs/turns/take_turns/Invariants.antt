use Rattle.block_disk.specs.Memory.{device_of}
use Rattle.thread_heap.specs.Joined.{IsHelping}
use Rattle.session.specs.Sessions.{IsSessionOf}
use Rattle.thread_heap_tests.proofs.turns.take_turns.Given as goal

abbrev pub invariant-loop-turn : goal.invariant-loop-turn
invariant-loop-turn g l = (IsSessionOf l.shared l.first × IsSessionOf l.shared l.second) × IsHelping device_of l.shared l.helper
