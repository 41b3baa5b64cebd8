use Rattle.std.proofs.Common.{◌≡◌, ◌<◌, ℕ, length, get_or}
use Rattle.heap_model.specs.Setting.{Setting}
use Rattle.heap_model.specs.Past.{Past}
use Rattle.script_machine.specs.States.{Tells}
use Rattle.script_machine.proofs.store_calls.acknowledged_counts.Given as goal

-- the counts so far are those acknowledged
abbrev pub invariant-loop-lane : goal.invariant-loop-lane
invariant-loop-lane l = (length l.counts.items ≡ l.lane)
    × ((s : Setting) (p : Past) → Tells l.store s p → (i : ℕ) → i < l.lane → get_or l.counts.items i 0 ≡ p.cut i)
