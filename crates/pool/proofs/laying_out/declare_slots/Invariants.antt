use Rattle.std.proofs.Common.{◌≡◌}
use Rattle.pool.specs.LaidOut.{with_slots}
use Rattle.pool.proofs.laying_out.declare_slots.Given as goal

-- the slots so far are declared
abbrev pub invariant-loop-slot : goal.invariant-loop-slot
invariant-loop-slot l = l.builder ≡ with_slots l.initial.builder l.name l.object.0 l.slots l.slot
